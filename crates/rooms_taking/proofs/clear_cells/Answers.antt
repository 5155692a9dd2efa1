-- `clear_cells` meets its contract. Assumes nothing.
use Prim.Native.Nat.{◌*◌}
use mathlib.Core.Path.{refl, ◌∙◌}
use native.Mathlib.Omega.{arith}
use Rattle.rooms_taking.proofs.Cleared.{cleared}
use Rattle.rooms_taking.proofs.TakingSteps.{cells-cleared}
use Rattle.rooms_taking.proofs.clear_cells.Goals as goal

pub returns : goal.returns
returns c =
    cleared c.args.cells.now c.fill.new.self 0 (c.min-cleared.result * 2) (c.min-cleared.result * 2) refl (omega (arith, c.min-cleared.ensures)) (c.fill.ensures.after (λ y e. e))
    ∙ cells-cleared c.args.cells.now c.args.used (c.min-cleared.result * 2) (omega (arith, c.min-cleared.ensures))
