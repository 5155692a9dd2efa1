-- `hexadecimal::word_at` meets its contract: the highest byte first. Assumes nothing.
use Rattle.std.proofs.Common.{◌∙◌}
use Rattle.program_words.proofs.Words.{word_is}
use Rattle.program_words.proofs.hexadecimal.word_at.Goals as goal

pub returns : goal.returns
returns c = c.from_be_bytes.ensures ∙ word_is c.args.bytes.now c.args.at c.requires c.in-Some.ensures.cases
