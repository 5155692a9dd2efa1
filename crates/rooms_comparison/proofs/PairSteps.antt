-- The ways through `equality::pair`, over plain variables. Assumes nothing.
use Prim.Native.Nat.{ℕ, suc, ◌+◌, ◌-◌, ◌≤◌, ◌<◌}
use mathlib.Core.Path.{◌≡◌, refl, sym, ap, ◌∙◌}
use mathlib.Core.Bool.{Bool}
use native.Mathlib.Omega.{arith}
use native.Mathlib.Numerals.{add-one}
use lib.Dec.{ltb}
use borrow.Author.Tests.{lt-ltb, le-ltb, eq-eqb, ne_eqb}
use Rattle.rooms.specs.declared.value.Value.{Value}
use Rattle.rooms.specs.declared.value.CellSpace.{CellSpace}
use Rattle.rooms.specs.declared.value.Parts.{Parts}
use Rattle.rooms_comparison.specs.declared.pairs.Pairs.{Pairs}
use Rattle.rooms.specs.Value.{parts_of}
use Rattle.rooms.specs.Rooms.{Rooms, cell_at}
use Rattle.rooms_comparison.specs.Seen.{same_seen, seen_in}
use Rattle.rooms_comparison.specs.Equality.{pair, decided, Compare, elements_equal, entries_equal, elements_against, entries_against, present_against, parts_equal, equal_in}
use Rattle.rooms.specs.Spans.{row}

one_more : (n : ℕ) → (n ≡ 0 → ⊥) → n ≡ suc (n - 1)
one_more n h = omega arith

module _ (d limit : ℕ) (r : Rooms) (x y : Value) (k : ℕ) where
  -- how the parts are compared
  abbrev inner : Compare
  inner = λ v w j. equal_in (d - 1) limit r v w j

  pub pair-bottom : d ≡ 0 → Pairs.Unlike k ≡ equal_in d limit r x y k
  unfolding equal_in
  pair-bottom h = ap (λ n. equal_in n limit r x y k) (sym h)

  begun : (d ≡ 0 → ⊥) → equal_in d limit r x y k ≡ pair (ltb k limit) k (parts_equal inner limit r x y (parts_of x) (suc k))
  unfolding equal_in
  begun h = ap (λ n. equal_in n limit r x y k) (one_more d h)

  pub pair-out : (d ≡ 0 → ⊥) → limit ≤ k → Pairs.Out k ≡ equal_in d limit r x y k
  pair-out h l = sym (begun h ∙ ap (λ b. pair b k (parts_equal inner limit r x y (parts_of x) (suc k))) (le-ltb k limit l))

  opened : (d ≡ 0 → ⊥) → k < limit → equal_in d limit r x y k ≡ parts_equal inner limit r x y (parts_of x) (k + 1)
  opened h l = begun h ∙ (λ i. pair (lt-ltb k limit l i) k (parts_equal inner limit r x y (parts_of x) (sym (add-one k) i)))

  -- two lists
  module _ (h : d ≡ 0 → ⊥) (l : k < limit) (s : CellSpace) (a n : ℕ) (e : parts_of x ≡ Parts.Elements (row s a n)) where
    lists : (q : Parts) → parts_of y ≡ q → equal_in d limit r x y k ≡ elements_against inner r s a n q (k + 1)
    lists q g = opened h l ∙ ap (λ p. parts_equal inner limit r x y p (k + 1)) e ∙ ap (λ p. elements_against inner r s a n p (k + 1)) g

    pub lists-unlike : (q : Parts) → parts_of y ≡ q → elements_against inner r s a n q (k + 1) ≡ Pairs.Unlike (k + 1) → Pairs.Unlike (k + 1) ≡ equal_in d limit r x y k
    lists-unlike q g w = sym (lists q g ∙ w)

    pub lists-uneven : (t : CellSpace) (b m : ℕ) → parts_of y ≡ Parts.Elements (row t b m) → (n ≡ m → ⊥) → Pairs.Unlike (k + 1) ≡ equal_in d limit r x y k
    lists-uneven t b m g w = lists-unlike (Parts.Elements (row t b m)) g (rw (ne_eqb n m w) refl)

    pub lists-even : (t : CellSpace) (b m : ℕ) (p : Pairs) → parts_of y ≡ Parts.Elements (row t b m) → n ≡ m → p ≡ elements_equal inner r s a t b n (k + 1) → p ≡ equal_in d limit r x y k
    lists-even t b m p g w z = z ∙ sym (lists (Parts.Elements (row t b m)) g ∙ rw (eq-eqb n m w) refl)

  -- two maps
  module _ (h : d ≡ 0 → ⊥) (l : k < limit) (s : CellSpace) (a n : ℕ) (e : parts_of x ≡ Parts.Entries (row s a n)) where
    maps : (q : Parts) → parts_of y ≡ q → equal_in d limit r x y k ≡ entries_against inner limit r s a n q (k + 1)
    maps q g = opened h l ∙ ap (λ p. parts_equal inner limit r x y p (k + 1)) e ∙ ap (λ p. entries_against inner limit r s a n p (k + 1)) g

    pub maps-unlike : (q : Parts) → parts_of y ≡ q → entries_against inner limit r s a n q (k + 1) ≡ Pairs.Unlike (k + 1) → Pairs.Unlike (k + 1) ≡ equal_in d limit r x y k
    maps-unlike q g w = sym (maps q g ∙ w)

    pub maps-uneven : (t : CellSpace) (b m : ℕ) → parts_of y ≡ Parts.Entries (row t b m) → (n ≡ m → ⊥) → Pairs.Unlike (k + 1) ≡ equal_in d limit r x y k
    maps-uneven t b m g w = maps-unlike (Parts.Entries (row t b m)) g (rw (ne_eqb n m w) refl)

    pub maps-even : (t : CellSpace) (b m : ℕ) (p : Pairs) → parts_of y ≡ Parts.Entries (row t b m) → n ≡ m → p ≡ entries_equal inner limit r s a t b n n (k + 1) → p ≡ equal_in d limit r x y k
    maps-even t b m p g w z = z ∙ ap (λ i. entries_equal inner limit r s a t b i n (k + 1)) w ∙ sym (maps (Parts.Entries (row t b m)) g ∙ rw (eq-eqb n m w) refl)

  -- two present Optionals
  module _ (h : d ≡ 0 → ⊥) (l : k < limit) (s : CellSpace) (a : ℕ) (e : parts_of x ≡ Parts.Present s a) where
    presents : (q : Parts) → parts_of y ≡ q → equal_in d limit r x y k ≡ present_against inner r s a q (k + 1)
    presents q g = opened h l ∙ ap (λ p. parts_equal inner limit r x y p (k + 1)) e ∙ ap (λ p. present_against inner r s a p (k + 1)) g

    pub presents-unlike : (q : Parts) → parts_of y ≡ q → present_against inner r s a q (k + 1) ≡ Pairs.Unlike (k + 1) → Pairs.Unlike (k + 1) ≡ equal_in d limit r x y k
    presents-unlike q g w = sym (presents q g ∙ w)

    pub presents-parts : (t : CellSpace) (b : ℕ) (p : Pairs) → parts_of y ≡ Parts.Present t b → p ≡ inner (cell_at r s a) (cell_at r t b) (k + 1) → p ≡ equal_in d limit r x y k
    presents-parts t b p g z = z ∙ sym (presents (Parts.Present t b) g)

  pub plains : (d ≡ 0 → ⊥) → k < limit → parts_of x ≡ Parts.Nothing → (b : Bool) (p : Pairs) → p ≡ decided b (k + 1) → b ≡ same_seen (seen_in r x) (seen_in r y) → p ≡ equal_in d limit r x y k
  plains h l e b p z w = z ∙ ap (λ c. decided c (k + 1)) w ∙ sym (opened h l ∙ ap (λ q. parts_equal inner limit r x y q (k + 1)) e)
