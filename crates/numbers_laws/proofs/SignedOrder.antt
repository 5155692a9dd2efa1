-- Sizes with a sign, compared: what each answer of `signed_order` says, and when it is given. Assumes nothing.
use mathlib.Core.Path.{◌≡◌, refl, sym, ap, ◌∙◌}
use mathlib.Core.Bool.{Bool, true, false, not, cond}
use Prim.Native.Nat.{ℕ, zero, suc, ◌+◌, ◌≤◌, ◌<◌}
use native.Mathlib.Omega.{arith}
use lib.Dec.{ltb, eqb}
use lib.Arith.{lt_of_le-ne}
use borrow.Author.Tests.{lt-ltb, le-ltb, eq-eqb, ne_eqb, ltb-true, ltb-false, eqb-true, eqb-false}
use Rattle.std.specs.declared.cmp.Ordering.{Ordering}
use Rattle.std.specs.declared.cmp.Ordering.TheVariants.{Less, Equal, Greater}
use Rattle.std.specs.Ordering.{ordering_reverse}
use Rattle.numbers.specs.Order.{size_order, signed_order}

-- ---- sizes

pub size_less : (a b : ℕ) → a < b → size_order a b ≡ Less
unfolding size_order
size_less a b h = rw (lt-ltb a b h)

pub size-equal : (a b : ℕ) → a ≡ b → size_order a b ≡ Equal
unfolding size_order
size-equal a b e = rw (le-ltb a b (omega arith), eq-eqb a b e)

pub size-greater : (a b : ℕ) → b < a → size_order a b ≡ Greater
unfolding size_order
size-greater a b h = rw (le-ltb a b (omega arith), ne_eqb a b (λ e. omega arith))

-- what an order of two sizes says of them
abbrev pub Says : Ordering → ℕ → ℕ → Type 0
Says Less a b = a < b
Says Equal a b = a ≡ b
Says Greater a b = b < a

pub size-says : (a b : ℕ) → Says (size_order a b) a b
unfolding size_order
size-says a b = go (ltb a b) (eqb a b) (ltb-true a b) (ltb-false a b) (eqb-true a b) (eqb-false a b)
  where
    go : (l e : Bool) → (l ≡ true → a < b) → (l ≡ false → b ≤ a) → (e ≡ true → a ≡ b) → (e ≡ false → a ≡ b → ⊥) → Says (cond l Less (cond e Equal Greater)) a b
    go true e h k m n = h refl
    go false true h k m n = m refl
    go false false h k m n = lt_of_le-ne (k refl) (λ z. n refl (sym z))

-- ---- with signs

-- what an order of two signed sizes says of them
abbrev pub SaysSigned : Ordering → Bool → ℕ → Bool → ℕ → Type 0
SaysSigned o false a false b = Says o a b
SaysSigned Less false a true b = ⊥
SaysSigned Equal false a true b = a + b ≡ 0
SaysSigned Greater false a true b = 0 < a + b
SaysSigned Less true a false b = 0 < a + b
SaysSigned Equal true a false b = a + b ≡ 0
SaysSigned Greater true a false b = ⊥
SaysSigned o true a true b = Says o b a

above : (n : ℕ) → (n ≡ 0 → ⊥) → 0 < n
above zero h = absurd (h refl)
above (suc n) h = omega arith

pub signed-says : (s : Bool) (a : ℕ) (t : Bool) (b : ℕ) → SaysSigned (signed_order s a t b) s a t b
unfolding signed_order
signed-says false a false b = size-says a b
signed-says true a true b = size-says b a
signed-says false a true b = go (eqb (a + b) 0) (eqb-true (a + b) 0) (eqb-false (a + b) 0)
  where
    go : (e : Bool) → (e ≡ true → a + b ≡ 0) → (e ≡ false → a + b ≡ 0 → ⊥) → SaysSigned (cond e Equal Greater) false a true b
    go true m n = m refl
    go false m n = above (a + b) (n refl)
signed-says true a false b = go (eqb (a + b) 0) (eqb-true (a + b) 0) (eqb-false (a + b) 0)
  where
    go : (e : Bool) → (e ≡ true → a + b ≡ 0) → (e ≡ false → a + b ≡ 0 → ⊥) → SaysSigned (cond e Equal Less) true a false b
    go true m n = m refl
    go false m n = above (a + b) (n refl)

-- the other way round: what is so is answered
pub signed_is : (o : Ordering) (s : Bool) (a : ℕ) (t : Bool) (b : ℕ) → SaysSigned o s a t b → signed_order s a t b ≡ o
unfolding signed_order
signed_is Less false a false b h = size_less a b h
signed_is Equal false a false b h = size-equal a b h
signed_is Greater false a false b h = size-greater a b h
signed_is Less true a true b h = size_less b a h
signed_is Equal true a true b h = size-equal b a h
signed_is Greater true a true b h = size-greater b a h
signed_is Less false a true b h = absurd h
signed_is Equal false a true b h = rw (eq-eqb (a + b) 0 h)
signed_is Greater false a true b h = rw (ne_eqb (a + b) 0 (λ e. omega arith))
signed_is Less true a false b h = rw (ne_eqb (a + b) 0 (λ e. omega arith))
signed_is Equal true a false b h = rw (eq-eqb (a + b) 0 h)
signed_is Greater true a false b h = absurd h

-- ---- unlike signs

pub unlike-zero : (s : Bool) (a b : ℕ) → a ≡ 0 → b ≡ 0 → signed_order s a (not s) b ≡ Equal
unlike-zero false a b e f = signed_is Equal false a true b (omega arith)
unlike-zero true a b e f = signed_is Equal true a false b (omega arith)

pub unlike-some : (s : Bool) (a b : ℕ) → 0 < a + b → signed_order s a (not s) b ≡ cond s Less Greater
unlike-some false a b h = signed_is Greater false a true b h
unlike-some true a b h = signed_is Less true a false b h

pub ruleset unlike = (unlike-zero, unlike-some)

-- ---- sizes under maps that keep 0 and what is above it, and under one that grows

module _ (f g : ℕ → ℕ) (f-zero : f 0 ≡ 0) (g-zero : g 0 ≡ 0) (f-some : (n : ℕ) → 0 < n → 0 < f n) (g_some : (n : ℕ) → 0 < n → 0 < g n) where
  pub unlike-map : (s : Bool) (a b : ℕ) → signed_order s (f a) (not s) (g b) ≡ signed_order s a (not s) b
  unlike-map s zero zero = unlike-zero s (f 0) (g 0) f-zero g-zero ∙ sym (unlike-zero s 0 0 refl refl)
  unlike-map s zero (suc b) = unlike-some s (f 0) (g (suc b)) (right (f 0) (g (suc b)) (g_some (suc b) (omega arith))) ∙ sym (unlike-some s 0 (suc b) (omega arith))
    where
      right : (m n : ℕ) → 0 < n → 0 < m + n
      right m n h = omega arith
  unlike-map s (suc a) b = unlike-some s (f (suc a)) (g b) (left (f (suc a)) (g b) (f-some (suc a) (omega arith))) ∙ sym (unlike-some s (suc a) b (omega arith))
    where
      left : (m n : ℕ) → 0 < m → 0 < m + n
      left m n h = omega arith

module _ (f : ℕ → ℕ) (f-zero : f 0 ≡ 0) (grows : (a b : ℕ) → a < b → f a < f b) where
  size-map : (a b : ℕ) → size_order (f a) (f b) ≡ size_order a b
  size-map a b = go (size_order a b) (size-says a b)
    where
      go : (o : Ordering) → Says o a b → size_order (f a) (f b) ≡ o
      go Less h = size_less (f a) (f b) (grows a b h)
      go Equal h = size-equal (f a) (f b) (ap f h)
      go Greater h = size-greater (f a) (f b) (grows b a h)

  pub some : (n : ℕ) → 0 < n → 0 < f n
  some n h = above-first (f 0) (f n) (grows 0 n h)
    where
      above-first : (m n : ℕ) → m < n → 0 < n
      above-first m n h = omega arith

  pub signed-map : (s : Bool) (a : ℕ) (t : Bool) (b : ℕ) → signed_order s (f a) t (f b) ≡ signed_order s a t b
  signed-map false a false b = unfold signed_order in size-map a b
  signed-map false a true b = unlike-map f f f-zero f-zero some some false a b
  signed-map true a false b = unlike-map f f f-zero f-zero some some true a b
  signed-map true a true b = unfold signed_order in size-map b a

pub size-swap : (a b : ℕ) → size_order a b ≡ ordering_reverse (size_order b a)
size-swap a b = go (size_order b a) (size-says b a)
  where
    go : (o : Ordering) → Says o b a → size_order a b ≡ ordering_reverse o
    go Less h = size-greater a b h
    go Equal h = size-equal a b (sym h)
    go Greater h = size_less a b h
