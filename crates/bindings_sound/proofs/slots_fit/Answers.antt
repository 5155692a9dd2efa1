-- Each slot is read where it lies, and there are as many as names. Assumes nothing.
use Rattle.std.proofs.Common.{arith}
use Rattle.rooms.specs.declared.value.Value.{Value}
use Rattle.rooms.proofs.Scopes.{read-slot}
use Rattle.bindings_sound.proofs.SoundSteps.{slots_turn}
use Rattle.bindings_sound.proofs.slots_fit.Goals as goal

pub returns-then-not-slot_fits : goal.returns-then-not-slot_fits
returns-then-not-slot_fits c =
    let e = read-slot c.args.scope c.loop-slot.slot-index (record { value = Value.Null }) c.well_formed.1.0.1.1.0.1.0.1 c.loop-slot-test.true in
    grind (arith, slots_turn, e)

pub loop-slot-preserved : goal.loop-slot-preserved
loop-slot-preserved c =
    let e = read-slot c.args.scope c.loop-slot.slot-index (record { value = Value.Null }) c.well_formed.1.0.1.1.0.1.0.1 c.loop-slot-test.true in
    grind (arith, slots_turn, e)
