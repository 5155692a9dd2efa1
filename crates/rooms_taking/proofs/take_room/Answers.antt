-- `take_room` meets its contract. Assumes nothing.
use Rattle.rooms_taking.proofs.TakingSteps.{taken-over, taken-full, taken-to}
use Rattle.rooms_taking.proofs.take_room.Goals as goal

pub returns-then-room-used : goal.returns-then-room-used
returns-then-room-used c = taken-over c.args.room c.args.used c.args.count c.if-room-used.true

pub returns-then-room-used-2 : goal.returns-then-room-used-2
returns-then-room-used-2 c = taken-full c.args.room c.args.used c.args.count c.if-room-used.false c.if-room-used-2.true

pub returns-else-room-used-2 : goal.returns-else-room-used-2
returns-else-room-used-2 c = taken-to c.args.room c.args.used c.args.count c.if-room-used.false c.if-room-used-2.false
