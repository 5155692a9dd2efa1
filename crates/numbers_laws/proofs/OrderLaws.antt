-- The order of points is one order: swapped it flips, it is transitive, and equal points compare alike; and two whole numbers compare as such.
-- A point beside a bound M of the finite sizes is a signed size, an infinity the size M, so one law of sizes settles all. Assumes nothing.
use mathlib.Core.Path.{◌≡◌, refl, sym, ap, ◌∙◌, subst}
use mathlib.Core.Logic.{◌⊎◌, inl, inr, ⊎_elim}
use mathlib.Core.Bool.{Bool, true, false}
use Prim.Native.Nat.{ℕ, suc, ◌+◌, ◌<◌}
use native.Mathlib.Omega.{arith}
use Rattle.std.specs.Prelude.{Option, None, Some, unwrap_or}
use Rattle.std.specs.declared.cmp.Ordering.{Ordering}
use Rattle.std.specs.declared.cmp.Ordering.TheVariants.{Less, Equal, Greater}
use Rattle.std.specs.Ordering.{ordering_reverse}
use Rattle.numbers.specs.Double.{Point, nan, infinite, finite}
use Rattle.numbers.specs.Order.{signed_order, order_of, flipped}
use Rattle.numbers_laws.specs.Sizes.{size}
use Rattle.numbers_laws.proofs.SignedOrder.{SaysSigned, signed-says, signed_is}

-- ---- signed sizes

signed-swap : (o : Ordering) (s : Bool) (a : ℕ) (t : Bool) (b : ℕ) → SaysSigned o t b s a → SaysSigned (ordering_reverse o) s a t b
signed-swap Less false a false b h = h
signed-swap Equal false a false b h = sym h
signed-swap Greater false a false b h = h
signed-swap Less true a true b h = h
signed-swap Equal true a true b h = sym h
signed-swap Greater true a true b h = h
signed-swap Less false a true b h = omega arith
signed-swap Equal false a true b h = omega arith
signed-swap Greater false a true b h = absurd h
signed-swap Less true a false b h = absurd h
signed-swap Equal true a false b h = omega arith
signed-swap Greater true a false b h = omega arith

less-less : (s : Bool) (a : ℕ) (t : Bool) (b : ℕ) (u : Bool) (c : ℕ) → SaysSigned Less s a t b → SaysSigned Less t b u c → SaysSigned Less s a u c
less-less false a false b false c h k = omega arith
less-less false a false b true c h k = absurd k
less-less false a true b u c h k = absurd h
less-less true a false b false c h k = omega arith
less-less true a false b true c h k = absurd k
less-less true a true b false c h k = omega arith
less-less true a true b true c h k = omega arith

-- an equal point on the left changes no answer
equal-any : (o : Ordering) (s : Bool) (a : ℕ) (t : Bool) (b : ℕ) (u : Bool) (c : ℕ) → SaysSigned Equal s a t b → SaysSigned o t b u c → SaysSigned o s a u c
equal-any o false a false b u c h k = subst (λ (n : ℕ). SaysSigned o false n u c) (sym h) k
equal-any o true a true b u c h k = subst (λ (n : ℕ). SaysSigned o true n u c) h k
equal-any Less false a true b false c h k = omega arith
equal-any Equal false a true b false c h k = omega arith
equal-any Greater false a true b false c h k = absurd k
equal-any Less false a true b true c h k = absurd (no b c k (omega arith))
  where
    no : (b c : ℕ) → c < b → b ≡ 0 → ⊥
    no b c h k = omega arith
equal-any Equal false a true b true c h k = omega arith
equal-any Greater false a true b true c h k = omega arith
equal-any Less true a false b false c h k = omega arith
equal-any Equal true a false b false c h k = omega arith
equal-any Greater true a false b false c h k = absurd (no b c k (omega arith))
  where
    no : (b c : ℕ) → c < b → b ≡ 0 → ⊥
    no b c h k = omega arith
equal-any Less true a false b true c h k = absurd k
equal-any Equal true a false b true c h k = omega arith
equal-any Greater true a false b true c h k = omega arith

-- ---- points as signed sizes

-- x has the sign s and the size n, where an infinity's size is M, above every other
abbrev pub Sized : ℕ → Point → Bool → ℕ → Type 0
Sized M x s n = ((x ≡ finite s n) × (n < M)) ⊎ ((x ≡ infinite s) × (n ≡ M))

pub just : {o p : Ordering} → Some o ≡ Some p → o ≡ p
just e = ap (λ (r : Option Ordering). unwrap_or r Equal) e

module _ (M : ℕ) (positive : 0 < M) where
  both : (x y : Point) (s : Bool) (a : ℕ) (t : Bool) (b : ℕ) → (x ≡ finite s a) × (a < M) → (y ≡ finite t b) × (b < M) → order_of x y ≡ Some (signed_order s a t b)
  unfolding order_of
  both x y s a t b p q = (λ i. order_of (p.0 i) (q.0 i))

  right_end : (s : Bool) (a : ℕ) (t : Bool) → a < M → order_of (finite s a) (infinite t) ≡ Some (signed_order s a t M)
  unfolding order_of
  right_end false a false h = sym (ap Some (signed_is Less false a false M h))
  right_end false a true h = sym (ap Some (signed_is Greater false a true M (omega arith)))
  right_end true a false h = sym (ap Some (signed_is Less true a false M (omega arith)))
  right_end true a true h = sym (ap Some (signed_is Greater true a true M h))

  left_end : (s : Bool) (t : Bool) (b : ℕ) → b < M → order_of (infinite s) (finite t b) ≡ Some (signed_order s M t b)
  unfolding order_of
  left_end false false b h = sym (ap Some (signed_is Greater false M false b h))
  left_end false true b h = sym (ap Some (signed_is Greater false M true b (omega arith)))
  left_end true false b h = sym (ap Some (signed_is Less true M false b (omega arith)))
  left_end true true b h = sym (ap Some (signed_is Less true M true b h))

  ends : (s t : Bool) → order_of (infinite s) (infinite t) ≡ Some (signed_order s M t M)
  unfolding order_of
  ends false false = sym (ap Some (signed_is Equal false M false M refl))
  ends false true = sym (ap Some (signed_is Greater false M true M (omega arith)))
  ends true false = sym (ap Some (signed_is Less true M false M (omega arith)))
  ends true true = sym (ap Some (signed_is Equal true M true M refl))

  -- The order of two points is the order of their signed sizes.
  pub order-sized : (x y : Point) (s : Bool) (a : ℕ) (t : Bool) (b : ℕ) → Sized M x s a → Sized M y t b → order_of x y ≡ Some (signed_order s a t b)
  order-sized x y s a t b p q =
      ⊎_elim
      (λ u. ⊎_elim (λ v. both x y s a t b u v) (λ v. (λ i. order_of (u.0 i) (v.0 i)) ∙ right_end s a t u.1 ∙ ap (λ (n : ℕ). Some (signed_order s a t n)) (sym v.1)) q)
      (λ u. ⊎_elim
      (λ v. (λ i. order_of (u.0 i) (v.0 i)) ∙ left_end s t b v.1 ∙ ap (λ (n : ℕ). Some (signed_order s n t b)) (sym u.1))
      (λ v. (λ i. order_of (u.0 i) (v.0 i)) ∙ ends s t ∙ (λ i. Some (signed_order s (sym u.1 i) t (sym v.1 i)))) q)
      p

  -- What an answer says of the signed sizes.
  pub says : (x y : Point) (o : Ordering) (s : Bool) (a : ℕ) (t : Bool) (b : ℕ) → Sized M x s a → Sized M y t b → order_of x y ≡ Some o → SaysSigned o s a t b
  says x y o s a t b p q e = subst (λ (r : Ordering). SaysSigned r s a t b) (just (sym (order-sized x y s a t b p q) ∙ e)) (signed-says s a t b)

-- ---- no number

pub nan_left : (y : Point) → order_of nan y ≡ None
unfolding order_of
nan_left y = refl

pub nan_right : (x : Point) → order_of x nan ≡ None
unfolding order_of
nan_right nan = refl
nan_right (infinite s) = refl
nan_right (finite s a) = refl

-- ---- a point is no number, or sized beside any M above its size

abbrev View : ℕ → Point → Type 0
View M x = (x ≡ nan) ⊎ ((s : Bool) × (n : ℕ) × Sized M x s n)

view : (M : ℕ) (x : Point) → size x < M → View M x
view M nan h = inl refl
view M (infinite s) h = inr (s, M, inr (refl, refl))
view M (finite s a) h = inr (s, a, inl (refl, h))

-- ---- the order of all numbers, of whichever kinds

-- Swapping two numbers swaps Less and Greater and nothing else: of two numbers, not both are less than the other.
pub order-swap : (x y : Point) → order_of x y ≡ flipped (order_of y x)
order-swap x y =
    ⊎_elim
    (λ (e : x ≡ nan). ap (λ (p : Point). order_of p y) e ∙ nan_left y ∙ sym (ap flipped (ap (order_of y) e ∙ nan_right y)))
    (λ v. ⊎_elim
    (λ (e : y ≡ nan). ap (order_of x) e ∙ nan_right x ∙ sym (ap flipped (ap (λ (p : Point). order_of p x) e ∙ nan_left x)))
    (λ w.
    order-sized M up x y v.0 v.1 w.0 w.1 v.2 w.2
    ∙ ap Some (signed_is _ v.0 v.1 w.0 w.1 (signed-swap _ v.0 v.1 w.0 w.1 (signed-says w.0 w.1 v.0 v.1)))
    ∙ sym (ap flipped (order-sized M up y x w.0 w.1 v.0 v.1 w.2 v.2)))
    (view M y (omega arith)))
    (view M x (omega arith))
  where
    M : ℕ
    M = suc (size x + size y)

    up : 0 < M
    up = omega arith

-- an order has numbers on both sides
abbrev Ordered : Option Ordering → Type 0
Ordered None = ⊥
Ordered (Some o) = Unit {0}

module _ (x y z : Point) where
  abbrev M₃ : ℕ
  M₃ = suc (size x + size y + size z)

  -- two points that are ordered, beside M₃
  sized-pair : (o : Ordering) → order_of x y ≡ Some o → ((s : Bool) × (a : ℕ) × Sized M₃ x s a) × ((t : Bool) × (b : ℕ) × Sized M₃ y t b)
  sized-pair o e =
      ⊎_elim
      (λ (n : x ≡ nan). absurd (subst Ordered (sym e ∙ ap (λ (p : Point). order_of p y) n ∙ nan_left y) tt))
      (λ v. ⊎_elim
      (λ (n : y ≡ nan). absurd (subst Ordered (sym e ∙ ap (order_of x) n ∙ nan_right x) tt))
      (λ w. (v, w))
      (view M₃ y (omega arith)))
      (view M₃ x (omega arith))

  -- What is less than something less is less.
  pub less-trans : order_of x y ≡ Some Less → order_of y z ≡ Some Less → order_of x z ≡ Some Less
  less-trans e f =
      let p = sized-pair Less e in
      let v = p.0 in
      let w = p.1 in
      ⊎_elim
      (λ (n : z ≡ nan). absurd (subst Ordered (sym f ∙ ap (order_of y) n ∙ nan_right y) tt))
      (λ u.
      order-sized M₃ (omega arith) x z v.0 v.1 u.0 u.1 v.2 u.2
      ∙ ap Some (signed_is Less v.0 v.1 u.0 u.1
      (less-less v.0 v.1 w.0 w.1 u.0 u.1
      (says M₃ (omega arith) x y Less v.0 v.1 w.0 w.1 v.2 w.2 e)
      (says M₃ (omega arith) y z Less w.0 w.1 u.0 u.1 w.2 u.2 f))))
      (view M₃ z (omega arith))

  -- Equal numbers compare alike with every number, so equality is transitive and no order tells them apart.
  pub equal-alike : order_of x y ≡ Some Equal → order_of x z ≡ order_of y z
  equal-alike e =
      let p = sized-pair Equal e in
      let v = p.0 in
      let w = p.1 in
      ⊎_elim
      (λ (n : z ≡ nan). ap (order_of x) n ∙ nan_right x ∙ sym (ap (order_of y) n ∙ nan_right y))
      (λ u.
      order-sized M₃ (omega arith) x z v.0 v.1 u.0 u.1 v.2 u.2
      ∙ ap Some (signed_is _ v.0 v.1 u.0 u.1
      (equal-any _ v.0 v.1 w.0 w.1 u.0 u.1
      (says M₃ (omega arith) x y Equal v.0 v.1 w.0 w.1 v.2 w.2 e)
      (signed-says w.0 w.1 u.0 u.1)))
      ∙ sym (order-sized M₃ (omega arith) y z w.0 w.1 u.0 u.1 w.2 u.2))
      (view M₃ z (omega arith))

-- Every number equals itself; NaN does not, and equals nothing.
pub order-self : (x : Point) → (x ≡ nan → ⊥) → order_of x x ≡ Some Equal
order-self nan n = absurd (n refl)
order-self (infinite false) n = unfold order_of in refl
order-self (infinite true) n = unfold order_of in refl
order-self (finite false a) n = unfold order_of in ap Some (signed_is Equal false a false a refl)
order-self (finite true a) n = unfold order_of in ap Some (signed_is Equal true a true a refl)

-- Where two numbers are in no order, one of them is NaN.
pub unordered-nan : (x y : Point) → order_of x y ≡ None → (x ≡ nan) ⊎ (y ≡ nan)
unordered-nan x y e =
    ⊎_elim inl
    (λ v. ⊎_elim inr
    (λ w. absurd (subst Ordered (sym (order-sized M (omega arith) x y v.0 v.1 w.0 w.1 v.2 w.2) ∙ e) tt))
    (view M y (omega arith)))
    (view M x (omega arith))
  where
    M : ℕ
    M = suc (size x + size y)

abbrev NotEqual : Option Ordering → Type 0
NotEqual None = Unit {0}
NotEqual (Some Less) = Unit {0}
NotEqual (Some Equal) = ⊥
NotEqual (Some Greater) = Unit {0}

equal-sizes : (s : Bool) (a : ℕ) (t : Bool) (b : ℕ) → SaysSigned Equal s a t b → (finite s a ≡ finite t b) ⊎ ((a ≡ 0) × (b ≡ 0))
equal-sizes false a false b h = inl (ap (finite false) h)
equal-sizes false a true b h = inr (omega arith, omega arith)
equal-sizes true a false b h = inr (omega arith, omega arith)
equal-sizes true a true b h = inl (ap (finite true) (sym h))

-- Numbers that are equal, of whichever kinds, are one point: only the two zeros are two.
pub equal-points : (x y : Point) → order_of x y ≡ Some Equal → (x ≡ y) ⊎ ((size x ≡ 0) × (size y ≡ 0))
unfolding order_of
equal-points nan y e = absurd (subst NotEqual e tt)
equal-points (infinite s) nan e = absurd (subst NotEqual e tt)
equal-points (infinite false) (infinite false) e = inl refl
equal-points (infinite false) (infinite true) e = absurd (subst NotEqual e tt)
equal-points (infinite true) (infinite false) e = absurd (subst NotEqual e tt)
equal-points (infinite true) (infinite true) e = inl refl
equal-points (infinite false) (finite t b) e = absurd (subst NotEqual e tt)
equal-points (infinite true) (finite t b) e = absurd (subst NotEqual e tt)
equal-points (finite s a) nan e = absurd (subst NotEqual e tt)
equal-points (finite s a) (infinite false) e = absurd (subst NotEqual e tt)
equal-points (finite s a) (infinite true) e = absurd (subst NotEqual e tt)
equal-points (finite s a) (finite t b) e = equal-sizes s a t b (subst (λ (o : Ordering). SaysSigned o s a t b) (just e) (signed-says s a t b))
