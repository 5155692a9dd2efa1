-- The ways through a turn of the loops of `equality`, over plain variables: what is left is what the definition says of the whole. Assumes nothing.
use Prim.Native.Nat.{ℕ, suc, ◌+◌, ◌-◌, ◌*◌, ◌≤◌, ◌<◌}
use mathlib.Core.Path.{◌≡◌, sym, ap, ◌∙◌}
use native.Mathlib.Numerals.{add-one}
use Rattle.rooms.specs.declared.value.Row.{Row}
use Rattle.rooms_comparison.specs.declared.pairs.Pairs.{Pairs}
use Rattle.rooms_comparison.specs.declared.lookup.Found.{Found}
use Rattle.rooms.specs.Rooms.{Rooms, cell_at}
use Rattle.rooms_comparison.specs.LookUp.{find_in}
use Rattle.rooms_comparison.specs.Equality.{and_then, where_found, Compare, elements_equal, entries_equal}
use Rattle.rooms_comparison.proofs.LookUpSteps.{one_more, no_more, all_left, next-entry, first-entry}
use Rattle.rooms_comparison.proofs.AmongSteps.{next_element, first_element}

-- ---- elements

module _ (f : Compare) (r : Rooms) (row there : Row) where
  -- the elements from `done` on
  abbrev pub compared : (done k : ℕ) → Pairs
  compared done k = elements_equal f r row.space (row.first + done) there.space (there.first + done) (row.length - done) k

  pub compared-all : (k : ℕ) → compared 0 k ≡ elements_equal f r row.space row.first there.space there.first row.length k
  compared-all k = (λ i. elements_equal f r row.space (first_element row.first i) there.space (first_element there.first i) (all_left row.length i) k)

  pub elements-none : (done k : ℕ) → row.length ≤ done → Pairs.Same k ≡ compared done k
  unfolding elements_equal
  elements-none done k h = ap (λ m. elements_equal f r row.space (row.first + done) there.space (there.first + done) m k) (sym (no_more row.length done h))

  -- two elements that are compared
  element : (done k : ℕ) (p : Pairs) → done < row.length → p ≡ f (cell_at r row.space (row.first + done)) (cell_at r there.space (there.first + done)) k → compared done k ≡ and_then p (λ j. compared (done + 1) j)
  unfolding elements_equal
  element done k p h e = ap (λ m. elements_equal f r row.space (row.first + done) there.space (there.first + done) m k) (one_more row.length done h) ∙ (λ i. and_then (sym e i) (λ j. elements_equal f r row.space (next_element row.first done i) there.space (next_element there.first done i) (row.length - (done + 1)) j))

  pub elements-on : (done k j : ℕ) (p : Pairs) → done < row.length → p ≡ f (cell_at r row.space (row.first + done)) (cell_at r there.space (there.first + done)) k → p ≡ Pairs.Same j → compared (done + 1) j ≡ compared done k
  elements-on done k j p h e q = sym (element done k p h e ∙ ap (λ z. and_then z (λ i. compared (done + 1) i)) q)

  pub elements-unlike : (done k j : ℕ) (p : Pairs) → done < row.length → p ≡ f (cell_at r row.space (row.first + done)) (cell_at r there.space (there.first + done)) k → p ≡ Pairs.Unlike j → Pairs.Unlike j ≡ compared done k
  elements-unlike done k j p h e q = sym (element done k p h e ∙ ap (λ z. and_then z (λ i. compared (done + 1) i)) q)

  pub elements-out : (done k j : ℕ) (p : Pairs) → done < row.length → p ≡ f (cell_at r row.space (row.first + done)) (cell_at r there.space (there.first + done)) k → p ≡ Pairs.Out j → Pairs.Out j ≡ compared done k
  elements-out done k j p h e q = sym (element done k p h e ∙ ap (λ z. and_then z (λ i. compared (done + 1) i)) q)

-- ---- entries

module _ (f : Compare) (limit : ℕ) (r : Rooms) (row there : Row) where
  -- the entries from `done` on
  abbrev pub matched : (done k : ℕ) → Pairs
  matched done k = entries_equal f limit r row.space (row.first + 2 * done) there.space there.first there.length (row.length - done) k

  pub matched-all : (k : ℕ) → matched 0 k ≡ entries_equal f limit r row.space row.first there.space there.first there.length row.length k
  matched-all k = (λ i. entries_equal f limit r row.space (first-entry row.first i) there.space there.first there.length (all_left row.length i) k)

  pub entries_none : (done k : ℕ) → row.length ≤ done → Pairs.Same k ≡ matched done k
  unfolding entries_equal
  entries_none done k h = ap (λ m. entries_equal f limit r row.space (row.first + 2 * done) there.space there.first there.length m k) (sym (no_more row.length done h))

  -- the values of two entries, then the entries behind
  values : (done c j : ℕ) → Pairs
  values done c j = and_then (f (cell_at r row.space (suc (row.first + 2 * done))) (cell_at r there.space c) j) (λ i. matched (done + 1) i)

  -- a key that is looked up
  key : (done k : ℕ) (g : Found) → done < row.length → g ≡ find_in limit r (cell_at r row.space (row.first + 2 * done)) there.space there.first there.length k → matched done k ≡ where_found g (λ c j. values done c j)
  unfolding entries_equal values
  key done k g h e = ap (λ m. entries_equal f limit r row.space (row.first + 2 * done) there.space there.first there.length m k) (one_more row.length done h) ∙ (λ y. where_found (sym e y) (λ c j. and_then (f (cell_at r row.space (suc (row.first + 2 * done))) (cell_at r there.space c) j) (λ i. entries_equal f limit r row.space (next-entry row.first done y) there.space there.first there.length (row.length - (done + 1)) i)))

  pub entries-missing : (done k j : ℕ) (g : Found) → done < row.length → g ≡ find_in limit r (cell_at r row.space (row.first + 2 * done)) there.space there.first there.length k → g ≡ Found.Missing j → Pairs.Unlike j ≡ matched done k
  entries-missing done k j g h e q = sym (key done k g h e ∙ ap (λ z. where_found z (λ c i. values done c i)) q)

  pub entries-unfound : (done k j : ℕ) (g : Found) → done < row.length → g ≡ find_in limit r (cell_at r row.space (row.first + 2 * done)) there.space there.first there.length k → g ≡ Found.Out j → Pairs.Out j ≡ matched done k
  entries-unfound done k j g h e q = sym (key done k g h e ∙ ap (λ z. where_found z (λ c i. values done c i)) q)

  found : (done k c j : ℕ) (g : Found) (p : Pairs) → done < row.length → g ≡ find_in limit r (cell_at r row.space (row.first + 2 * done)) there.space there.first there.length k → g ≡ Found.At c j → p ≡ f (cell_at r row.space (row.first + 2 * done + 1)) (cell_at r there.space c) j → matched done k ≡ and_then p (λ i. matched (done + 1) i)
  unfolding values
  found done k c j g p h e q w = key done k g h e ∙ ap (λ z. where_found z (λ d i. values done d i)) q ∙ ap (λ z. and_then z (λ i. matched (done + 1) i)) ((λ i. f (cell_at r row.space (sym (add-one (row.first + 2 * done)) i)) (cell_at r there.space c) j) ∙ sym w)

  pub entries-on : (done k c j i : ℕ) (g : Found) (p : Pairs) → done < row.length → g ≡ find_in limit r (cell_at r row.space (row.first + 2 * done)) there.space there.first there.length k → g ≡ Found.At c j → p ≡ f (cell_at r row.space (row.first + 2 * done + 1)) (cell_at r there.space c) j → p ≡ Pairs.Same i → matched (done + 1) i ≡ matched done k
  entries-on done k c j i g p h e q w z = sym (found done k c j g p h e q w ∙ ap (λ y. and_then y (λ v. matched (done + 1) v)) z)

  pub entries-unlike : (done k c j i : ℕ) (g : Found) (p : Pairs) → done < row.length → g ≡ find_in limit r (cell_at r row.space (row.first + 2 * done)) there.space there.first there.length k → g ≡ Found.At c j → p ≡ f (cell_at r row.space (row.first + 2 * done + 1)) (cell_at r there.space c) j → p ≡ Pairs.Unlike i → Pairs.Unlike i ≡ matched done k
  entries-unlike done k c j i g p h e q w z = sym (found done k c j g p h e q w ∙ ap (λ y. and_then y (λ v. matched (done + 1) v)) z)

  pub entries-out : (done k c j i : ℕ) (g : Found) (p : Pairs) → done < row.length → g ≡ find_in limit r (cell_at r row.space (row.first + 2 * done)) there.space there.first there.length k → g ≡ Found.At c j → p ≡ f (cell_at r row.space (row.first + 2 * done + 1)) (cell_at r there.space c) j → p ≡ Pairs.Out i → Pairs.Out i ≡ matched done k
  entries-out done k c j i g p h e q w z = sym (found done k c j g p h e q w ∙ ap (λ y. and_then y (λ v. matched (done + 1) v)) z)
