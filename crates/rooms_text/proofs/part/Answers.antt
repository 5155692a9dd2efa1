-- `part` meets its contract. Assumes nothing.
use Rattle.rooms_text.proofs.Parts.{part-past, part-rest, part-inside}
use Rattle.rooms_text.proofs.part.Goals as goal

pub returns-then-end-first : goal.returns-then-end-first
returns-then-end-first c = part-past c.args.bytes.now c.args.first c.args.length c.if-end-first.true

pub returns-then-end-first-2 : goal.returns-then-end-first-2
returns-then-end-first-2 c = part-rest c.args.bytes.now c.args.first c.args.length c.if-end-first-2.true

pub returns : goal.returns
returns c = part-inside c.args.bytes.now c.args.first c.args.length
