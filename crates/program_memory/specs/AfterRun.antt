-- What lent memory must hold after an evaluation.
use Rattle.std.specs.Prelude.{ℕ, ◌*◌, Bool, ◌&&◌, List, take, drop}
use Rattle.machine.specs.declared.outcome.Used.{Used}
use Rattle.answer.specs.declared.Answer.{Answer}
use Rattle.program_memory.specs.BeforeRun.{lent_word, lent_byte, all_are}

-- above the counts; a cell is two words
abbrev pub as_lent : List ℕ → List ℕ → Used → Bool
as_lent words text used = all_are lent_word (drop (used.cells * 2) words) && all_are lent_byte (drop used.bytes text)

-- below the counts
abbrev pub cleared : List ℕ → List ℕ → Used → Bool
cleared words text used = all_are 0 (take (used.cells * 2) words) && all_are 0 (take used.bytes text)

-- a refusal changes nothing; a value leaves what it needs; an error and exhaustion leave zeros
abbrev pub kept : List ℕ → List ℕ → Answer → Bool
kept words text (Answer.Refused f) = all_are lent_word words && all_are lent_byte text
kept words text (Answer.Value v used) = as_lent words text used
kept words text (Answer.Error e place used) = as_lent words text used && cleared words text used
kept words text (Answer.Exhausted x used) = as_lent words text used && cleared words text used
