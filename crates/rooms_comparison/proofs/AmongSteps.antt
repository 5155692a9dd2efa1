-- The ways through a turn of `among`, over plain variables. Assumes nothing.
use Prim.Native.Nat.{ℕ, suc, ◌+◌, ◌-◌, ◌≤◌, ◌<◌}
use mathlib.Core.Path.{◌≡◌, sym, ap, ◌∙◌}
use native.Mathlib.Omega.{arith}
use Rattle.rooms.specs.declared.value.Value.{Value}
use Rattle.rooms.specs.declared.value.Row.{Row}
use Rattle.rooms_comparison.specs.declared.pairs.Pairs.{Pairs}
use Rattle.rooms.specs.Rooms.{Rooms, cell_at}
use Rattle.rooms_comparison.specs.Equality.{or_else, equal_pairs, among_in}
use Rattle.rooms_comparison.proofs.LookUpSteps.{one_more, no_more, all_left}

-- where element `done` lies, and the one after it
pub next_element : (first done : ℕ) → suc (first + done) ≡ first + (done + 1)
next_element first done = omega arith

pub first_element : (first : ℕ) → first + 0 ≡ first
first_element first = omega arith

module _ (limit : ℕ) (r : Rooms) (x : Value) (row : Row) where
  -- among the elements from `done` on
  abbrev pub looked : (done k : ℕ) → Pairs
  looked done k = among_in limit r x row.space (row.first + done) (row.length - done) k

  pub looked-all : (k : ℕ) → looked 0 k ≡ among_in limit r x row.space row.first row.length k
  looked-all k = (λ i. among_in limit r x row.space (first_element row.first i) (all_left row.length i) k)

  look : (done k : ℕ) → done < row.length → looked done k ≡ or_else (equal_pairs limit r x (cell_at r row.space (row.first + done)) k) (λ j. looked (done + 1) j)
  unfolding among_in
  look done k h = ap (λ m. among_in limit r x row.space (row.first + done) m k) (one_more row.length done h) ∙ ap (λ a. or_else (equal_pairs limit r x (cell_at r row.space (row.first + done)) k) (λ j. among_in limit r x row.space a (row.length - (done + 1)) j)) (next_element row.first done)

  pub among_none : (done k : ℕ) → row.length ≤ done → Pairs.Unlike k ≡ looked done k
  unfolding among_in
  among_none done k h = ap (λ m. among_in limit r x row.space (row.first + done) m k) (sym (no_more row.length done h))

  -- an element that is compared
  asked : (done k : ℕ) (p : Pairs) → done < row.length → p ≡ equal_pairs limit r x (cell_at r row.space (row.first + done)) k → looked done k ≡ or_else p (λ j. looked (done + 1) j)
  asked done k p h e = look done k h ∙ ap (λ z. or_else z (λ j. looked (done + 1) j)) (sym e)

  pub among_same : (done k j : ℕ) (p : Pairs) → done < row.length → p ≡ equal_pairs limit r x (cell_at r row.space (row.first + done)) k → p ≡ Pairs.Same j → Pairs.Same j ≡ looked done k
  among_same done k j p h e q = sym (asked done k p h e ∙ ap (λ z. or_else z (λ i. looked (done + 1) i)) q)

  pub among-out : (done k j : ℕ) (p : Pairs) → done < row.length → p ≡ equal_pairs limit r x (cell_at r row.space (row.first + done)) k → p ≡ Pairs.Out j → Pairs.Out j ≡ looked done k
  among-out done k j p h e q = sym (asked done k p h e ∙ ap (λ z. or_else z (λ i. looked (done + 1) i)) q)

  pub among-on : (done k j : ℕ) (p : Pairs) → done < row.length → p ≡ equal_pairs limit r x (cell_at r row.space (row.first + done)) k → p ≡ Pairs.Unlike j → looked (done + 1) j ≡ looked done k
  among-on done k j p h e q = sym (asked done k p h e ∙ ap (λ z. or_else z (λ i. looked (done + 1) i)) q)
