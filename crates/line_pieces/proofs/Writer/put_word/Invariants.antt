-- `Writer::put_word` meets its contract: the word so far is put. Assumes nothing.
use lib.ListN.{take}
use Rattle.line_pieces.specs.Page.{puts}
use Rattle.line_pieces.specs.Writes.{Writes}
use Rattle.line_pieces.proofs.Writer.put_word.Given as goal

abbrev pub invariant-loop-byte : goal.invariant-loop-byte
invariant-loop-byte l = Writes l.initial.self l.self (λ p. puts (take l.byte-index l.word) p)
