-- `after_run::is_cleared` meets its contract. Assumes nothing.
use Rattle.program_memory.proofs.Testing.{below, both, first_not}
use Rattle.program_memory.proofs.after_run.is_cleared.Goals as goal

pub returns-then-all_are : goal.returns-then-all_are
returns-then-all_are c =
    both (below 0 _ _ c.words_of-words.ensures.value c.all_are.ensures) c.if-all_are.true
    (below 0 _ _ c.bytes_of-bytes.ensures.value c.all_are-then-all_are.ensures)

pub returns-else-all_are : goal.returns-else-all_are
returns-else-all_are c = first_not _ (below 0 _ _ c.words_of-words.ensures.value c.all_are.ensures) c.if-all_are.false
