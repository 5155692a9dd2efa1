-- What an arm for all other kinds knows: which variants are left. Then a scalar of another class is not equal. Assumes nothing.
use Prim.Native.Nat.{ℕ}
use mathlib.Core.Path.{◌≡◌, refl, ap, ◌∙◌, subst}
use mathlib.Core.Bool.{Bool, true, false, ◌||◌, cond, true≢false}
use mathlib.Core.List.{List, [], ◌∷◌}
use lib.Dec.{eqb}
use mir.Val.{has_key}
use types.Run.{OneOf}
use denote.Enum.Declared.{tag_of}
use Rattle.numbers.specs.declared.order.Number.{Number}
use Rattle.meaning.specs.Value.{Scalar, null, bool, string, bytes}
use Rattle.meaning.specs.Comparison.{rank}
use Rattle.rooms.specs.declared.value.Plain.{Plain}
use Rattle.rooms.specs.contracts.value.Plain as PlainType
use Rattle.rooms.specs.Rooms.{part, text_of}
use Rattle.rooms_comparison.specs.Seen.{number_scalar, seen_scalar, seen_none, seen_of, same_seen}
use Rattle.rooms.proofs.Variants.{left_out}
use Rattle.rooms_comparison.proofs.ScalarLaws.{apart, apart-number, number-class}

-- the class of what is seen; of no scalar's where it is none
abbrev pub class_of : Plain → ℕ
class_of Plain.Null = 0
class_of (Plain.Bool x) = 1
class_of (Plain.Number n) = 2
class_of (Plain.String sp) = 3
class_of (Plain.Bytes sp) = 4
class_of Plain.OptionalNone = 5
class_of Plain.Other = 6

tag-class : (p : Plain) → tag_of PlainType.the_type p ≡ class_of p
tag-class Plain.Null = refl
tag-class (Plain.Bool x) = refl
tag-class (Plain.Number n) = refl
tag-class (Plain.String sp) = refl
tag-class (Plain.Bytes sp) = refl
tag-class Plain.OptionalNone = refl
tag-class Plain.Other = refl

-- the variants other than k
abbrev removed : ℕ → List ℕ → List ℕ
removed k [] = []
removed k (j ∷ js) = cond (eqb j k) (removed k js) (j ∷ removed k js)

abbrev pub others : ℕ → List ℕ
others k = removed k (0 ∷ 1 ∷ 2 ∷ 3 ∷ 4 ∷ 5 ∷ 6 ∷ [])

removed-out : (k : ℕ) (js : List ℕ) → has_key (removed k js) k ≡ false
removed-out k [] = refl
removed-out k (j ∷ js) = go (eqb j k) refl (removed-out k js)
  where
    go : (b : Bool) → eqb j k ≡ b → has_key (removed k js) k ≡ false → has_key (cond b (removed k js) (j ∷ removed k js)) k ≡ false
    go true e h = h
    go false e h = ap (λ a. a || has_key (removed k js) k) e ∙ h

pub other-class : (k : ℕ) (p : Plain) → OneOf (others k) (tag_of PlainType.the_type p) → eqb k (class_of p) ≡ false
other-class k p h = left_out (others k) k (class_of p) (removed-out k (0 ∷ 1 ∷ 2 ∷ 3 ∷ 4 ∷ 5 ∷ 6 ∷ [])) (subst (OneOf (others k)) (tag-class p) h)

module _ (l b t : List ℕ) where
  pub unlike-seen : (x : Scalar) (p : Plain) → eqb (rank x).class (class_of p) ≡ false → false ≡ same_seen (seen_scalar x) (seen_of l b t p)
  unfolding rank
  unlike-seen x Plain.Null e = apart x null e
  unlike-seen x (Plain.Bool y) e = apart x (bool y) e
  unlike-seen x (Plain.Number n) e = apart-number x n e
  unlike-seen x (Plain.String sp) e = apart x (string (part (text_of l b t sp.space) sp.first sp.length)) e
  unlike-seen x (Plain.Bytes sp) e = apart x (bytes (part (text_of l b t sp.space) sp.first sp.length)) e
  unlike-seen x Plain.OptionalNone e = refl
  unlike-seen x Plain.Other e = refl

  pub none-unlike-seen : (p : Plain) → eqb 5 (class_of p) ≡ false → false ≡ same_seen seen_none (seen_of l b t p)
  none-unlike-seen Plain.Null e = refl
  none-unlike-seen (Plain.Bool y) e = refl
  none-unlike-seen (Plain.Number n) e = refl
  none-unlike-seen (Plain.String sp) e = refl
  none-unlike-seen (Plain.Bytes sp) e = refl
  none-unlike-seen Plain.OptionalNone e = absurd (true≢false e)
  none-unlike-seen Plain.Other e = refl

  pub number-unlike-seen : (x : Number) (p : Plain) → eqb 2 (class_of p) ≡ false → false ≡ same_seen (seen_scalar (number_scalar x)) (seen_of l b t p)
  number-unlike-seen x p e = unlike-seen (number_scalar x) p (rw (number-class x) e)
