-- `after_run::is_as_lent` meets its contract. Assumes nothing.
use Rattle.program_memory.specs.BeforeRun.{lent_word, lent_byte}
use Rattle.program_memory.proofs.Testing.{above, both, first_not}
use Rattle.program_memory.proofs.after_run.is_as_lent.Goals as goal

pub returns-then-all_are : goal.returns-then-all_are
returns-then-all_are c =
    both (above lent_word _ _ c.words_of-words.ensures.value c.all_are.ensures) c.if-all_are.true
    (above lent_byte _ _ c.bytes_of-bytes.ensures.value c.all_are-then-all_are.ensures)

pub returns-else-all_are : goal.returns-else-all_are
returns-else-all_are c = first_not _ (above lent_word _ _ c.words_of-words.ensures.value c.all_are.ensures) c.if-all_are.false
