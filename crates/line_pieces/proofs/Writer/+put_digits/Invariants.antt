-- `Writer::put_digits` meets its contract: the count falls. Assumes nothing.
use Rattle.line_pieces.proofs.Writer.+put_digits.Given as goal

abbrev pub decreases-put_digits : goal.decreases-put_digits
decreases-put_digits l = l.count
