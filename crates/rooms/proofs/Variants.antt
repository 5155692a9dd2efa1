-- What an arm for all other variants knows: which are left. So a value has no part and no nesting there. Assumes nothing.
use Prim.Native.Nat.{ℕ}
use mathlib.Core.Path.{◌≡◌, refl, sym, ◌∙◌}
use mathlib.Core.Logic.{inl, inr}
use mathlib.Core.Bool.{Bool, true, false, ◌||◌, true≢false}
use mathlib.Core.List.{List, [], ◌∷◌}
use lib.Dec.{eqb}
use borrow.Author.Tests.{eq-eqb, ne_eqb}
use mir.Val.{has_key}
use types.Run.{OneOf}
use denote.Enum.Declared.{tag_of}
use Rattle.rooms.specs.declared.value.Value.{Value}
use Rattle.rooms.specs.declared.value.Parts.TheVariants as Parts
use Rattle.rooms.specs.declared.value.Plain.TheVariants as Plain
use Rattle.rooms.specs.Value.{nesting_of, parts_of, plain_of}
use Rattle.rooms.specs.contracts.value.Value as ValueType

neither : (a b : Bool) → a || b ≡ false → (a ≡ false) × (b ≡ false)
neither true b e = absurd (true≢false e)
neither false b e = (refl, e)

-- a number of a list is none that is not in it
pub left_out : (ks : List ℕ) (k x : ℕ) → has_key ks k ≡ false → OneOf ks x → eqb k x ≡ false
left_out [] k x e h = absurd h
left_out (j ∷ []) k x e h = ne_eqb k x (λ q. true≢false (sym (eq-eqb j k (sym h ∙ sym q)) ∙ (neither (eqb j k) false e).0))
left_out (j ∷ i ∷ ks) k x e (inl h) = ne_eqb k x (λ q. true≢false (sym (eq-eqb j k (sym h ∙ sym q)) ∙ (neither (eqb j k) (has_key (i ∷ ks) k) e).0))
left_out (j ∷ i ∷ ks) k x e (inr h) = left_out (i ∷ ks) k x (neither (eqb j k) (has_key (i ∷ ks) k) e).1 h

pub no-tag : (ks : List ℕ) (k : ℕ) → has_key ks k ≡ false → OneOf ks k → ⊥
no-tag ks k e h = true≢false (sym (eq-eqb k k refl) ∙ left_out ks k k e h)

-- the variants that are made of no parts, and those that are
abbrev partless : List ℕ
partless = 0 ∷ 1 ∷ 2 ∷ 3 ∷ 4 ∷ 5 ∷ 6 ∷ 7 ∷ 10 ∷ 12 ∷ []

abbrev partful : List ℕ
partful = 8 ∷ 9 ∷ 11 ∷ 12 ∷ []

pub no-parts : (v : Value) → OneOf partless (tag_of ValueType.the_type v) → (0 ≡ nesting_of v) × (Parts.Nothing ≡ parts_of v)
no-parts Value.Null h = (refl, refl)
no-parts (Value.Bool b) h = (refl, refl)
no-parts (Value.Int z) h = (refl, refl)
no-parts (Value.Uint n) h = (refl, refl)
no-parts (Value.Double x) h = (refl, refl)
no-parts (Value.Nan b) h = (refl, refl)
no-parts (Value.String sp) h = (refl, refl)
no-parts (Value.Bytes sp) h = (refl, refl)
no-parts (Value.List d ro) h = absurd (no-tag partless 8 refl h)
no-parts (Value.Map d ro) h = absurd (no-tag partless 9 refl h)
no-parts Value.OptionalNone h = (refl, refl)
no-parts (Value.OptionalOf d s a) h = absurd (no-tag partless 11 refl h)
no-parts Value.Absent h = (refl, refl)

pub not_plain : (v : Value) → OneOf partful (tag_of ValueType.the_type v) → Plain.Other ≡ plain_of v
not_plain Value.Null h = absurd (no-tag partful 0 refl h)
not_plain (Value.Bool b) h = absurd (no-tag partful 1 refl h)
not_plain (Value.Int z) h = absurd (no-tag partful 2 refl h)
not_plain (Value.Uint n) h = absurd (no-tag partful 3 refl h)
not_plain (Value.Double x) h = absurd (no-tag partful 4 refl h)
not_plain (Value.Nan b) h = absurd (no-tag partful 5 refl h)
not_plain (Value.String sp) h = absurd (no-tag partful 6 refl h)
not_plain (Value.Bytes sp) h = absurd (no-tag partful 7 refl h)
not_plain (Value.List d ro) h = refl
not_plain (Value.Map d ro) h = refl
not_plain Value.OptionalNone h = absurd (no-tag partful 10 refl h)
not_plain (Value.OptionalOf d s a) h = refl
not_plain Value.Absent h = refl
