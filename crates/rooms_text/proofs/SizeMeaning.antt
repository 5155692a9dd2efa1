-- The size of a value that stands, and what an index finds in a list that stands, are the definition's. Assumes nothing.
use Prim.Native.Nat.{ℕ, zero, suc, ◌+◌, ◌≤◌, ◌<◌}
use mathlib.Core.Path.{◌≡◌, refl, sym, ap, ◌∙◌, subst}
use mathlib.Core.Bool.{Bool, true, false, cond}
use Rattle.std.specs.Prelude.{Option, None, Some}
use Rattle.meaning.specs.Options.{bind}
use native.Mathlib.Omega.{arith}
use lib.Dec.{ltb}
use lib.IntN.{pos, negsuc}
use borrow.Author.Tests.{ltb-true, ltb-false}
use Rattle.numbers.specs.declared.double.Double.{Double}
use Rattle.numbers.specs.declared.double.Double.TheVariants as Bits
use Rattle.text.specs.Utf8.{code_points}
use Rattle.meaning.specs.Errors.{NoOverload, IndexOutOfBounds}
use Rattle.meaning.specs.Run.{pure, charged, after, on_value, ◌>>=◌, fail, or_fail}
use Rattle.meaning.specs.Value as Meaning
use Rattle.meaning.specs.Value.{null, bool, int, uint, double, string, bytes, scalar, list, map, optional_none, optional_of, nil, cons, nth, count, scalar_of}
use Rattle.meaning.specs.Calls.{scalar_size, size_rule}
use Rattle.meaning.specs.Maps as Maps
use Rattle.meaning.specs.Maps.{position_in, element_at, look_up}
use Rattle.rooms.specs.declared.value.Value.{Value}
use Rattle.rooms.specs.declared.value.CellSpace.{CellSpace}
use Rattle.rooms.specs.Value.{double_value}
use Rattle.rooms.specs.Rooms.{Rooms, cell_at}
use Rattle.rooms.specs.Stands.{Alive, StandsScalar, Stands, StandsCells}
use Rattle.rooms_text.specs.declared.sizes.Position.TheVariants as Position
use Rattle.rooms_text.specs.Sizes.{sized_rule, inside, position_of}
use Rattle.rooms_text.specs.Indexed.{sized, IndexIs}

-- ---- size

double-unsized : (r : Rooms) (x : Double) → sized r (double_value x) ≡ fail NoOverload
double-unsized r (Bits.Plain x) = refl
double-unsized r (Bits.Nan b) = refl

-- `sizes::size_in` answers what the definition's `size` does, of any value that stands.
pub size_ok : (L : Alive) (r : Rooms) (v : Meaning.Value) (m : Value) → Stands v L r m → sized r m ≡ size_rule v
unfolding Stands StandsScalar size_rule scalar_size
size_ok L r (scalar null) m h = ap (sized r) h
size_ok L r (scalar (bool b)) m h = ap (sized r) h
size_ok L r (scalar (int z)) m h = ap (sized r) h
size_ok L r (scalar (uint n)) m h = ap (sized r) h
size_ok L r (scalar (double d)) m h = ap (sized r) h.1 ∙ double-unsized r h.0
size_ok L r (scalar (string s)) m h = ap (sized r) h.2 ∙ ap (λ t. sized_rule (Some (code_points t))) h.3.spells
size_ok L r (scalar (bytes s)) m h = ap (sized r) h.2
size_ok L r (list vs) m h = ap (sized r) h.2
size_ok L r (map es) m h = ap (sized r) h.2
size_ok L r optional_none m h = ap (sized r) h
size_ok L r (optional_of v) m h = ap (sized r) h.2

-- ---- index

nth_past : (vs : Meaning.Values) (k : ℕ) → count vs ≤ k → nth vs k ≡ None
unfolding nth count
nth_past nil k h = refl
nth_past (cons v vs) zero h = absurd (omega arith)
nth_past (cons v vs) (suc k) h = nth_past vs k (omega arith)

nth-there : (vs : Meaning.Values) (k : ℕ) → k < count vs → (v : Meaning.Value) × (nth vs k ≡ Some v)
unfolding nth count
nth-there nil k h = absurd (omega arith)
nth-there (cons v vs) zero h = (v, refl)
nth-there (cons v vs) (suc k) h = nth-there vs k (omega arith)

-- the element of a list at an index is what stands in the cell there
pub nth-stands : (L : Alive) (r : Rooms) (vs : Meaning.Values) (space : CellSpace) (a i : ℕ) (v : Meaning.Value) → StandsCells vs L r space a → nth vs i ≡ Some v → L.cells space (a + i) × Stands v L r (cell_at r space (a + i))
unfolding Stands nth
nth-stands L r nil space a i v h e = absurd (no_none e)
  where
    no_none : {w : Meaning.Value} → ◌≡◌ {A = Option Meaning.Value} None (Some w) → ⊥
    no_none q = let z : ◌≡◌ {A = ℕ} 0 1 = cc in omega arith
nth-stands L r (cons w vs) space a zero v h e = subst (λ i. L.cells space i × Stands v L r (cell_at r space i)) (plus-zero a) (h.0, subst (λ u. Stands u L r (cell_at r space a)) same h.1)
  where
    same : w ≡ v
    same = cc

    plus-zero : (a : ℕ) → a ≡ a + 0
    plus-zero a = omega arith
nth-stands L r (cons w vs) space a (suc i) v h e = subst (λ j. L.cells space j × Stands v L r (cell_at r space j)) (shift a i) (nth-stands L r vs space (suc a) i v h.2 e)
  where
    shift : (a i : ℕ) → suc a + i ≡ a + suc i
    shift a i = omega arith

module _ (L : Alive) (r : Rooms) (vs : Meaning.Values) (s : CellSpace) (a : ℕ) (h : StandsCells vs L r s a) where
  -- an index that is a number from 0 on
  from_zero : (i : Meaning.Value) (k : ℕ) → look_up (list vs) i ≡ or_fail IndexOutOfBounds (nth vs k) → IndexIs L r s a (list vs) i (inside k (count vs))
  unfolding or_fail
  from_zero i k e = go (ltb k (count vs)) refl
    where
      go : (b : Bool) → ltb k (count vs) ≡ b → IndexIs L r s a (list vs) i (cond b (Position.At k) Position.Outside)
      go true t = (found.0, e ∙ ap (or_fail IndexOutOfBounds) found.1, lies.0, lies.1)
        where
          found : (v : Meaning.Value) × (nth vs k ≡ Some v)
          found = nth-there vs k (ltb-true k (count vs) t)

          lies : L.cells s (a + k) × Stands found.0 L r (cell_at r s (a + k))
          lies = nth-stands L r vs s a k found.0 h found.1
      go false t = e ∙ ap (or_fail IndexOutOfBounds) (nth_past vs k (ltb-false k (count vs) t))

  double-unsuited : (i : Meaning.Value) (x : Double) → look_up (list vs) i ≡ fail NoOverload → IndexIs L r s a (list vs) i (position_of (double_value x) (count vs))
  double-unsuited i (Bits.Plain x) e = e
  double-unsuited i (Bits.Nan b) e = e

  -- `sizes::position_in` says which cell of a list the definition's look-up finds, or which error it gives.
  pub index_ok : (i : Meaning.Value) (m : Value) → Stands i L r m → IndexIs L r s a (list vs) i (position_of m (count vs))
  unfolding Stands StandsScalar look_up Maps.position_of position_in element_at scalar_of bind or_fail ◌>>=◌ after charged on_value pure fail
  index_ok (scalar null) m g = subst (λ x. IndexIs L r s a (list vs) (scalar null) (position_of x (count vs))) (sym g) refl
  index_ok (scalar (bool b)) m g = subst (λ x. IndexIs L r s a (list vs) (scalar (bool b)) (position_of x (count vs))) (sym g) refl
  index_ok (scalar (int (pos k))) m g = subst (λ x. IndexIs L r s a (list vs) (scalar (int (pos k))) (position_of x (count vs))) (sym g) (from_zero (scalar (int (pos k))) k refl)
  index_ok (scalar (int (negsuc k))) m g = subst (λ x. IndexIs L r s a (list vs) (scalar (int (negsuc k))) (position_of x (count vs))) (sym g) refl
  index_ok (scalar (uint k)) m g = subst (λ x. IndexIs L r s a (list vs) (scalar (uint k)) (position_of x (count vs))) (sym g) (from_zero (scalar (uint k)) k refl)
  index_ok (scalar (double d)) m g = subst (λ x. IndexIs L r s a (list vs) (scalar (double d)) (position_of x (count vs))) (sym g.1) (double-unsuited (scalar (double d)) g.0 refl)
  index_ok (scalar (string t)) m g = subst (λ x. IndexIs L r s a (list vs) (scalar (string t)) (position_of x (count vs))) (sym g.2) refl
  index_ok (scalar (bytes t)) m g = subst (λ x. IndexIs L r s a (list vs) (scalar (bytes t)) (position_of x (count vs))) (sym g.2) refl
  index_ok (list ws) m g = subst (λ x. IndexIs L r s a (list vs) (list ws) (position_of x (count vs))) (sym g.2) refl
  index_ok (map es) m g = subst (λ x. IndexIs L r s a (list vs) (map es) (position_of x (count vs))) (sym g.2) refl
  index_ok optional_none m g = subst (λ x. IndexIs L r s a (list vs) optional_none (position_of x (count vs))) (sym g) refl
  index_ok (optional_of v) m g = subst (λ x. IndexIs L r s a (list vs) (optional_of v) (position_of x (count vs))) (sym g.2) refl
