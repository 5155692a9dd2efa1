-- What an arm for all other kinds knows: which variants are left. Then a value has no size and is no index. Assumes nothing.
use Prim.Native.Nat.{ℕ}
use mathlib.Core.Path.{◌≡◌, refl}
use mathlib.Core.List.{List, [], ◌∷◌}
use types.Run.{OneOf}
use denote.Enum.Declared.{tag_of}
use Rattle.rooms.specs.declared.value.Value.{Value}
use Rattle.rooms.specs.contracts.value.Value as ValueType
use Rattle.std.specs.Prelude.{None}
use Rattle.rooms.specs.Rooms.{Rooms}
use Rattle.rooms_text.specs.declared.sizes.Position.TheVariants as Position
use Rattle.rooms_text.specs.Sizes.{size_of, position_of}
use Rattle.rooms.proofs.Variants.{no-tag}

-- the variants without a size, and those that are no index
abbrev unsized : List ℕ
unsized = 0 ∷ 1 ∷ 2 ∷ 3 ∷ 4 ∷ 5 ∷ 10 ∷ 11 ∷ 12 ∷ []

abbrev unsuited : List ℕ
unsuited = 0 ∷ 1 ∷ 4 ∷ 5 ∷ 6 ∷ 7 ∷ 8 ∷ 9 ∷ 10 ∷ 11 ∷ 12 ∷ []

pub no_size : (r : Rooms) (v : Value) → OneOf unsized (tag_of ValueType.the_type v) → None ≡ size_of r v
no_size r Value.Null h = refl
no_size r (Value.Bool x) h = refl
no_size r (Value.Int z) h = refl
no_size r (Value.Uint n) h = refl
no_size r (Value.Double x) h = refl
no_size r (Value.Nan x) h = refl
no_size r (Value.String sp) h = absurd (no-tag unsized 6 refl h)
no_size r (Value.Bytes sp) h = absurd (no-tag unsized 7 refl h)
no_size r (Value.List m ro) h = absurd (no-tag unsized 8 refl h)
no_size r (Value.Map m ro) h = absurd (no-tag unsized 9 refl h)
no_size r Value.OptionalNone h = refl
no_size r (Value.OptionalOf m s a) h = refl
no_size r Value.Absent h = refl

pub no_index : (v : Value) (n : ℕ) → OneOf unsuited (tag_of ValueType.the_type v) → Position.Unsuited ≡ position_of v n
no_index Value.Null n h = refl
no_index (Value.Bool x) n h = refl
no_index (Value.Int z) n h = absurd (no-tag unsuited 2 refl h)
no_index (Value.Uint i) n h = absurd (no-tag unsuited 3 refl h)
no_index (Value.Double x) n h = refl
no_index (Value.Nan x) n h = refl
no_index (Value.String sp) n h = refl
no_index (Value.Bytes sp) n h = refl
no_index (Value.List k ro) n h = refl
no_index (Value.Map k ro) n h = refl
no_index Value.OptionalNone n h = refl
no_index (Value.OptionalOf k s a) n h = refl
no_index Value.Absent n h = refl
