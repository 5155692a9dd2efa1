-- What is left to judge behind the slots that fit. Assumes nothing.
use Rattle.std.proofs.Common.{◌≡◌, ◌-◌}
use Rattle.bindings_sound.specs.Sound.{slots_fit}
use Rattle.bindings_sound.proofs.slots_fit.Given as goal

abbrev pub invariant-loop-slot : goal.invariant-loop-slot
invariant-loop-slot l =
    slots_fit l.room.cells.now l.room.text.now l.room.used l.room.bytes l.fn.scope l.slot-index (128 - l.slot-index)
    ≡ slots_fit l.room.cells.now l.room.text.now l.room.used l.room.bytes l.fn.scope 0 128
