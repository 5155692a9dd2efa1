-- The ways through a turn of a look-up's loop, over plain variables: what is left is what the definition says of the whole. Assumes nothing.
use Prim.Native.Nat.{ℕ, suc, ◌+◌, ◌-◌, ◌*◌, ◌≤◌, ◌<◌}
use mathlib.Core.Path.{◌≡◌, sym, ap, ◌∙◌}
use mathlib.Core.Bool.{Bool, true, false, cond}
use native.Mathlib.Omega.{arith}
use native.Mathlib.Numerals.{add-one}
use lib.Dec.{ltb}
use borrow.Author.Tests.{lt-ltb, le-ltb}
use Rattle.rooms.specs.declared.value.Value.{Value}
use Rattle.rooms.specs.declared.value.Row.{Row}
use Rattle.rooms_comparison.specs.declared.lookup.Found.{Found}
use Rattle.rooms.specs.Rooms.{Rooms, cell_at}
use Rattle.rooms_comparison.specs.Seen.{same_seen, seen_in}
use Rattle.rooms_comparison.specs.LookUp.{pair_found, find_in}

-- what is left of n once `done` are done: one, and the rest; nothing
pub one_more : (n done : ℕ) → done < n → n - done ≡ suc (n - (done + 1))
one_more n done h = omega arith

pub no_more : (n done : ℕ) → n ≤ done → n - done ≡ 0
no_more n done h = omega arith

-- where entry `done` lies, and the one after it
pub next-entry : (first done : ℕ) → suc (suc (first + 2 * done)) ≡ first + 2 * (done + 1)
next-entry first done = omega arith

pub first-entry : (first : ℕ) → first + 2 * 0 ≡ first
first-entry first = omega arith

pub all_left : (n : ℕ) → n - 0 ≡ n
all_left n = omega arith

module _ (limit : ℕ) (r : Rooms) (x : Value) (row : Row) where
  -- among the entries from `done` on
  abbrev pub finds : (done k : ℕ) → Found
  finds done k = find_in limit r x row.space (row.first + 2 * done) (row.length - done) k

  pub finds-all : (k : ℕ) → finds 0 k ≡ find_in limit r x row.space row.first row.length k
  finds-all k = (λ i. find_in limit r x row.space (first-entry row.first i) (all_left row.length i) k)

  turn : (done k : ℕ) → done < row.length → finds done k ≡ pair_found (ltb k limit) k (cond (same_seen (seen_in r x) (seen_in r (cell_at r row.space (row.first + 2 * done)))) (Found.At (suc (row.first + 2 * done)) (suc k)) (finds (done + 1) (suc k)))
  unfolding find_in
  turn done k h = ap (λ m. find_in limit r x row.space (row.first + 2 * done) m k) (one_more row.length done h) ∙ ap (λ a. pair_found (ltb k limit) k (cond (same_seen (seen_in r x) (seen_in r (cell_at r row.space (row.first + 2 * done)))) (Found.At (suc (row.first + 2 * done)) (suc k)) (find_in limit r x row.space a (row.length - (done + 1)) (suc k)))) (next-entry row.first done)

  pub find_none : (done k : ℕ) → row.length ≤ done → Found.Missing k ≡ finds done k
  unfolding find_in
  find_none done k h = ap (λ m. find_in limit r x row.space (row.first + 2 * done) m k) (sym (no_more row.length done h))

  pub find-out : (done k : ℕ) → done < row.length → limit ≤ k → Found.Out k ≡ finds done k
  find-out done k h l = sym (turn done k h ∙ ap (λ b. pair_found b k (cond (same_seen (seen_in r x) (seen_in r (cell_at r row.space (row.first + 2 * done)))) (Found.At (suc (row.first + 2 * done)) (suc k)) (finds (done + 1) (suc k)))) (le-ltb k limit l))

  paid : (done k : ℕ) (b : Bool) → done < row.length → k < limit → b ≡ same_seen (seen_in r x) (seen_in r (cell_at r row.space (row.first + 2 * done))) → finds done k ≡ cond b (Found.At (suc (row.first + 2 * done)) (suc k)) (finds (done + 1) (suc k))
  paid done k b h l e = turn done k h ∙ (λ i. pair_found (lt-ltb k limit l i) k (cond (sym e i) (Found.At (suc (row.first + 2 * done)) (suc k)) (finds (done + 1) (suc k))))

  pub find_at : (done k : ℕ) (b : Bool) → done < row.length → k < limit → b ≡ same_seen (seen_in r x) (seen_in r (cell_at r row.space (row.first + 2 * done))) → b ≡ true → Found.At (row.first + 2 * done + 1) (k + 1) ≡ finds done k
  find_at done k b h l e t = (λ i. Found.At (add-one (row.first + 2 * done) i) (add-one k i)) ∙ sym (paid done k b h l e ∙ ap (λ d. cond d (Found.At (suc (row.first + 2 * done)) (suc k)) (finds (done + 1) (suc k))) t)

  pub find-on : (done k : ℕ) (b : Bool) → done < row.length → k < limit → b ≡ same_seen (seen_in r x) (seen_in r (cell_at r row.space (row.first + 2 * done))) → b ≡ false → finds (done + 1) (k + 1) ≡ finds done k
  find-on done k b h l e t = ap (finds (done + 1)) (add-one k) ∙ sym (paid done k b h l e ∙ ap (λ d. cond d (Found.At (suc (row.first + 2 * done)) (suc k)) (finds (done + 1) (suc k))) t)
