-- `clear_text` meets its contract. Assumes nothing.
use mathlib.Core.Path.{refl, ◌∙◌}
use native.Mathlib.Omega.{arith}
use Rattle.rooms_taking.proofs.Cleared.{cleared}
use Rattle.rooms_taking.proofs.TakingSteps.{bytes-cleared}
use Rattle.rooms_taking.proofs.clear_text.Goals as goal

pub returns : goal.returns
returns c =
    cleared c.args.text.now c.fill.new.self 0 c.min-cleared.result c.min-cleared.result refl (omega (arith, c.min-cleared.ensures)) (c.fill.ensures.after (λ y e. e))
    ∙ bytes-cleared c.args.text.now c.args.used c.min-cleared.result (omega (arith, c.min-cleared.ensures))
