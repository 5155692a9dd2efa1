-- `copying::put_byte` meets its contract. Assumes nothing.
use mathlib.Core.Path.{sym}
use lib.Seq.{set_out}
use Rattle.rooms_taking.proofs.copying.put_byte.Goals as goal

pub returns-else-index-bytes : goal.returns-else-index-bytes
returns-else-index-bytes c = sym (set_out c.args.bytes.now c.args.index c.args.byte c.if-index-bytes.false)
