-- `copying::byte_in` meets its contract. Assumes nothing.
use mathlib.Core.Path.{sym}
use Rattle.rooms_taking.proofs.TakingSteps.{beyond}
use Rattle.rooms_taking.proofs.copying.byte_in.Goals as goal

pub returns-else-index-bytes : goal.returns-else-index-bytes
returns-else-index-bytes c = sym (beyond c.args.bytes.now c.args.index c.if-index-bytes.false)
