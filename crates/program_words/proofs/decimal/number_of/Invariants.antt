-- `decimal::number_of` meets its contract: what is left from the loop's place on decides. Assumes nothing.
use Rattle.std.proofs.Common.{◌≡◌, drop}
use Rattle.program_words.specs.Decimal.{number_from, number_of}
use Rattle.program_words.proofs.decimal.number_of.Given as goal

abbrev pub invariant-loop-byte : goal.invariant-loop-byte
invariant-loop-byte l = number_from l.number (drop l.byte-index l.word) ≡ number_of l.word
