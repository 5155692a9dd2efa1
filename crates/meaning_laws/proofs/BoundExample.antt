-- Bindings brought into an empty room, by computing them: one that is accepted, and one that is refused. Assumes nothing.
use mathlib.Core.Path.{◌≡◌, refl}
use mathlib.Core.List.{[], ◌∷◌}
use mathlib.Core.Bool.{true}
use lib.IntN.{pos}
use Rattle.meaning.specs.declared.refusal.Reason.TheVariants.{UnsoundBinding}
use Rattle.meaning.specs.Value.{double, int, bool_key, uint_key, scalar, map, entry, empty}
use Rattle.meaning.specs.Heads.{got, refused}
use Rattle.meaning.specs.Bindings.{empty_room, bring}
use Rattle.meaning.proofs.Compute.{compute}
use Rattle.meaning_laws.specs.Brought.{with_binding}

-- {true: a NaN with the bits 0x7FF8000000000001, 2u: 7} under the name 5, on four lent cells: the bits and the order are kept.
pub bits-and-order-kept : bring 4 0 empty_room 5
    (13 ∷ 42 ∷ 0 ∷ 2 ∷ 0 ∷ 1 ∷ 4 ∷ 0 ∷ 1 ∷ 4 ∷ 11 ∷ 0 ∷ 1 ∷ 0 ∷ 0 ∷ 0 ∷ 0 ∷ 0 ∷ 248 ∷ 127
    ∷ 3 ∷ 11 ∷ 0 ∷ 2 ∷ 0 ∷ 0 ∷ 0 ∷ 0 ∷ 0 ∷ 0 ∷ 0 ∷ 2 ∷ 11 ∷ 0 ∷ 7 ∷ 0 ∷ 0 ∷ 0 ∷ 0 ∷ 0 ∷ 0 ∷ 0 ∷ []) []
    ≡ got (with_binding empty_room 5 (map (entry (bool_key true) (scalar (double 9221120237041090561)) (entry (uint_key 2) (scalar (int (pos 7))) empty))))
unfolding compute
bits-and-order-kept = refl

-- {2u: true, 2: true}: the later key matches, at byte 20.
pub matching-keys-refused : bring 4 0 empty_room 5
    (13 ∷ 35 ∷ 0 ∷ 2 ∷ 0 ∷ 3 ∷ 11 ∷ 0 ∷ 2 ∷ 0 ∷ 0 ∷ 0 ∷ 0 ∷ 0 ∷ 0 ∷ 0 ∷ 1 ∷ 4 ∷ 0 ∷ 1
    ∷ 2 ∷ 11 ∷ 0 ∷ 2 ∷ 0 ∷ 0 ∷ 0 ∷ 0 ∷ 0 ∷ 0 ∷ 0 ∷ 1 ∷ 4 ∷ 0 ∷ 1 ∷ []) []
    ≡ refused UnsoundBinding 20
unfolding compute
matching-keys-refused = refl
