-- What is left to judge behind the cells that fit. Assumes nothing.
use Rattle.std.proofs.Common.{◌≡◌, ◌-◌}
use Rattle.bindings_sound.specs.Sound.{first_bad}
use Rattle.bindings_sound.proofs.first_bad.Given as goal

abbrev pub invariant-loop-at : goal.invariant-loop-at
invariant-loop-at l =
    first_bad l.room.cells.now l.room.text.now l.room.used l.room.bytes l.at (l.at-end - l.at)
    ≡ first_bad l.room.cells.now l.room.text.now l.room.used l.room.bytes 0 l.room.used
