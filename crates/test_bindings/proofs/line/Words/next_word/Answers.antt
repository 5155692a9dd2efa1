-- `line::Words::next_word` meets its contract. Assumes nothing.
use Rattle.std.proofs.lemmas.List.{take_rest}
use Rattle.program_words.proofs.ReadingSteps.{read_up_to}
use Rattle.test_bindings.proofs.line.Words.next_word.Goals as goal

pub returns : goal.returns
returns c = read_up_to c.args.self.now.left.now c.split_at.result.0.now c.split_at.result.1.now _ c.find.result c.min.result
    c.split_at.ensures.front c.split_at.ensures.back (take_rest c.split_at.result.1.now c.min.result)
