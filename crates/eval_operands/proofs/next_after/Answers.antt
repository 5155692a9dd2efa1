-- `next_after` meets its contract. Assumes nothing.
use mathlib.Core.Path.{◌≡◌, ap}
use Rattle.std.proofs.Common.{rules}
use Rattle.rooms.specs.Rooms.{Rooms}
use Rattle.eval_operands.proofs.next_after.Goals as goal

pub after_first-requires : goal.after_first-requires
after_first-requires c =
    let same : c.inputs-inputs.result.literal.now ≡ c.args.lent.now.literal.now = ap (λ (r : Rooms). r.literal) (c.inputs-inputs.ensures c.args.lent.now.cells.now c.args.lent.now.text.now) in
    rw same c.requires

pub returns : goal.returns
returns c = search (rules, c.inputs-inputs.ensures c.after_first.new.cells c.args.lent.now.text.now, c.inputs-inputs.ensures c.args.lent.now.cells.now c.args.lent.now.text.now)
