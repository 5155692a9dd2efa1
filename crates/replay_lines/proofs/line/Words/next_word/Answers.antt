-- `line::Words::next_word` meets its contract. Assumes nothing.
use mathlib.Core.Path.{ap, ◌∙◌}
use lib.ListN.{take, drop}
use Rattle.std.proofs.lemmas.List.{take_rest}
use Rattle.program_words.proofs.ReadingSteps.{read_behind}
use Rattle.replay_lines.proofs.line.Words.next_word.Goals as goal

pub returns : goal.returns
returns c =
    let behind = take_rest c.args.self.now.left.now c.unwrap_or.result in
    read_behind c.args.self.now.left.now c.split_at.result.0.now c.split_at.result.1.now c.unwrap_or.result c.find.result
    (c.split_at.ensures.front ∙ ap (take c.find.result) behind) (c.split_at.ensures.back ∙ ap (drop c.find.result) behind)
