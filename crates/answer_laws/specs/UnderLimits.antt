-- That an answer is not exhaustion.
use Rattle.answer.specs.Meant.{Told}

-- a value, an error or a refusal
abbrev pub NotExhausted : Told → Type 0
NotExhausted (Told.refused number place) = Unit {0}
NotExhausted (Told.value v c) = Unit {0}
NotExhausted (Told.error number place c) = Unit {0}
NotExhausted (Told.exhausted x c) = ⊥
