-- `Writer::put_quoted` meets its contract: the text so far is put. Assumes nothing.
use lib.ListN.{take}
use Rattle.line_pieces.specs.Page.{put, puts}
use Rattle.line_pieces.specs.Spelled.{escaped_all}
use Rattle.line_pieces.specs.Writes.{Writes}
use Rattle.line_pieces.proofs.Writer.put_quoted.Given as goal

abbrev pub invariant-loop-byte : goal.invariant-loop-byte
invariant-loop-byte l = Writes l.fn.self l.self (λ p. puts (escaped_all (take l.byte-index l.text)) (put 34 p))
