-- The elements of a List record and the entries of a Map record, one at a time: where the next stands, what it is, and that it is smaller
-- than its record. Assumes nothing.
use Prim.Native.Nat.{ℕ, zero, suc, ◌+◌, ◌-◌, ◌*◌, ◌≤◌, ◌<◌}
use mathlib.Core.Path.{◌≡◌, refl, ◌∙◌, ap}
use mathlib.Core.Bool.{Bool, true, false}
use mathlib.Core.List.{List}
use native.Mathlib.Omega.{arith}
use native.Mathlib.Numerals.{sub-one}
use lib.Dec.{eqb}
use lib.ListN.{length, get_or}
use borrow.Author.Tests.{eqb-true, eqb-false}
use Rattle.meaning.specs.Expr.{Expr, Elements, Pairs, count_elements, count_pairs}
use Rattle.meaning.specs.Kinds.{list_kind, map_kind}
use Rattle.meaning.specs.Table.{Part, bare, marked, add_element, add_pair}
use Rattle.rooms.specs.declared.scope.Scope.{Scope}
use Rattle.rooms.specs.Rooms.{Rooms}
use Rattle.table_layout.specs.Layout.{word_at, after}
use Rattle.table_check.specs.declared.faults.Marks.TheVariants.{Anywhere, Values}
use Rattle.table_check.specs.Records.{expr_of, part_of, Sound, SoundPart, Row, elements_of, pairs_of}
use Rattle.table_check.proofs.Opened.{opened}
use Rattle.table_check.proofs.Parts.{part-marked, part-bare, part-extent, sound-extent, row_within, first-element, first-pair}
use Rattle.machine.specs.declared.outcome.Used.{Used}
use Rattle.machine.specs.Outcomes.{taking}
use Rattle.machine.specs.Containers as Containers
use Rattle.machine.specs.Machine.{body, elements, entries, machine}
use Rattle.eval_shapes.specs.Leaves.{unmarked_at}

-- ---- an operand that may be marked

-- the part with that mark, or without
abbrev part_as : Bool → ℕ → Expr → Part
part_as true p e = marked p e
part_as false p e = bare e

pub record PartAt (t x : List ℕ) (q : ℕ) : Type 0 where
  pub start : q + 3 ≤ length t
  -- the record that a mark stands on, or the record itself
  pub sound : Sound t x (unmarked_at t q)
  pub within : word_at t (unmarked_at t q + 1) ≤ word_at t (q + 1)
  pub is : part_of t x q ≡ part_as (eqb (get_or t q 0) 14) q (expr_of t x (unmarked_at t q))

module _ (t x : List ℕ) (q : ℕ) (s : SoundPart t x q) where
  start_of : q + 3 ≤ length t
  start_of = let e = part-extent t x q s in omega (arith, e.0, e.1)

  by-mark : (b : Bool) → eqb (get_or t q 0) 14 ≡ b → PartAt t x q
  by-mark true e =
      let m = part-marked t x q s (eqb-true (get_or t q 0) 14 e) in
      record { start = start_of; sound = rw e m.operand; within = rw e (omega (arith, m.ends)); is = rw e m.is }
  by-mark false e =
      let m = part-bare t x q s (eqb-false (get_or t q 0) 14 e) in
      record { start = start_of; sound = rw e m.0; within = rw e (omega arith); is = rw e m.1 }

  pub part_at : PartAt t x q
  part_at = by-mark (eqb (get_or t q 0) 14) refl

-- ---- what the machine does with it

module _ (t : List ℕ) (limit : ℕ) (s : Scope) (base m d : ℕ) (u : Used) (r : Rooms) where
  element-by : (b : Bool) (p : ℕ) (e : Expr) (es : Elements) →
      elements t limit (add_element (part_as b p e) es) s base m d u r ≡
      Containers.element b (machine t limit e) s base m d u r (λ n k w o. elements t limit es s base n k w o)
  unfolding add_element elements
  element-by true p e es = refl
  element-by false p e es = refl

  entry-by : (b : Bool) (at p : ℕ) (k e : Expr) (ps : Pairs) →
      entries t limit at (add_pair k (part_as b p e) ps) s base m d u r ≡
      Containers.entry limit at b (machine t limit k) (machine t limit e) s base m d u r (λ n h w o. entries t limit at ps s base n h w o)
  unfolding add_pair entries
  entry-by true at p k e ps = refl
  entry-by false at p k e ps = refl

  module _ (x : List ℕ) (q : ℕ) where
    pub element-does : SoundPart t x q → (es : Elements) →
        elements t limit (add_element (part_of t x q) es) s base m d u r ≡
        Containers.element (eqb (get_or t q 0) 14) (machine t limit (expr_of t x (unmarked_at t q))) s base m d u r (λ n k w o. elements t limit es s base n k w o)
    element-does h es = rw (part_at t x q h).is (element-by (eqb (get_or t q 0) 14) q (expr_of t x (unmarked_at t q)) es)

    pub entry-does : SoundPart t x q → (at : ℕ) (k : Expr) (ps : Pairs) →
        entries t limit at (add_pair k (part_of t x q) ps) s base m d u r ≡
        Containers.entry limit at (eqb (get_or t q 0) 14) (machine t limit k) (machine t limit (expr_of t x (unmarked_at t q))) s base m d u r
        (λ n h w o. entries t limit at ps s base n h w o)
    entry-does h at k ps = rw (part_at t x q h).is (entry-by (eqb (get_or t q 0) 14) at q k (expr_of t x (unmarked_at t q)) ps)

-- ---- how many

count-element : (y : Part) (es : Elements) → count_elements (add_element y es) ≡ suc (count_elements es)
unfolding add_element count_elements
count-element (bare e) es = refl
count-element (marked p e) es = refl

count-pair : (k : Expr) (y : Part) (ps : Pairs) → count_pairs (add_pair k y ps) ≡ suc (count_pairs ps)
unfolding add_pair count_pairs
count-pair k (bare e) ps = refl
count-pair k (marked p e) ps = refl

module _ (t x : List ℕ) where
  pub count-elements : (n q : ℕ) → count_elements (elements_of t x n q) ≡ n
  unfolding count_elements
  count-elements zero q = refl
  count-elements (suc n) q = count-element (part_of t x q) (elements_of t x n (after t q)) ∙ ap (λ (m : ℕ). suc m) (count-elements n (after t q))

  pub count-pairs : (n q : ℕ) → count_pairs (pairs_of t x n q) ≡ n
  unfolding count_pairs
  count-pairs zero q = refl
  count-pairs (suc n) q =
      count-pair (expr_of t x q) (part_of t x (after t q)) (pairs_of t x n (after t (after t q))) ∙ ap (λ (m : ℕ). suc m) (count-pairs n (after t (after t q)))

  -- ---- the elements that are left, of the record at p

  pub elements-next : (n q : ℕ) → 0 < n → elements_of t x n q ≡ add_element (part_of t x q) (elements_of t x (n - 1) (after t q))
  elements-next zero q h = absurd (omega arith)
  elements-next (suc n) q h = rw sub-one

  pub pairs_next : (n q : ℕ) → 0 < n →
      pairs_of t x n q ≡ add_pair (expr_of t x q) (part_of t x (after t q)) (pairs_of t x (n - 1) (after t (after t q)))
  pairs_next zero q h = absurd (omega arith)
  pairs_next (suc n) q h = rw sub-one

  -- n elements are left from q on
  pub record ElementsLeft (p n q : ℕ) : Type 0 where
    pub beyond : p + 5 ≤ q
    pub row : Row t x Anywhere (after t p) n q

  pub record EntriesLeft (p n q : ℕ) : Type 0 where
    pub beyond : p + 5 ≤ q
    pub row : Row t x Values (after t p) (2 * n) q

  pub record ElementNext (p n q : ℕ) : Type 0 where
    pub sound : SoundPart t x q
    pub part : PartAt t x q
    pub smaller : word_at t (unmarked_at t q + 1) < word_at t (p + 1)
    pub rest : ElementsLeft p (n - 1) (after t q)

  pub record EntryNext (p n q : ℕ) : Type 0 where
    pub key : Sound t x q
    pub key-start : q + 3 ≤ length t
    pub key-smaller : word_at t (q + 1) < word_at t (p + 1)
    pub sound : SoundPart t x (after t q)
    pub part : PartAt t x (after t q)
    pub smaller : word_at t (unmarked_at t (after t q) + 1) < word_at t (p + 1)
    pub rest : EntriesLeft p (n - 1) (after t (after t q))

  pub element-next : (p n q : ℕ) → 0 < n → ElementsLeft p n q → ElementNext p n q
  element-next p n q h l =
      let f = first-element t x (after t p) n q h l.row in
      let a = part_at t x q f.0 in
      let w = row_within t x Anywhere (after t p) (n - 1) (after t q) f.1 in
      record {
        sound = f.0;
        part = a;
        smaller = omega (arith, a.within, w, l.beyond);
        rest = record { beyond = omega (arith, l.beyond); row = f.1 };
      }

  pub entry_next : (p n q : ℕ) → 0 < n → EntriesLeft p n q → EntryNext p n q
  entry_next p n q h l =
      let f = first-pair t x (after t p) n q h l.row in
      let e = sound-extent t x q f.0 in
      let a = part_at t x (after t q) f.1 in
      let w = row_within t x Values (after t p) (2 * (n - 1)) (after t (after t q)) f.2 in
      record {
        key = f.0;
        key-start = omega (arith, e.0, e.1);
        key-smaller = omega (arith, w, l.beyond);
        sound = f.1;
        part = a;
        smaller = omega (arith, a.within, w, l.beyond);
        rest = record { beyond = omega (arith, l.beyond); row = f.2 };
      }

-- ---- the records

module _ (t x : List ℕ) (p : ℕ) (s : Sound t x p) where
  pub record ListAt : Type 0 where
    pub start : p + 5 ≤ length t
    pub left : ElementsLeft t x p (word_at t (p + 3)) (p + 5)
    pub does : (limit : ℕ) (c : Scope) (u : Used) (r : Rooms) →
        body t limit (expr_of t x p) c u r ≡
        taking (word_at t (p + 3)) u r (λ w o. elements t limit (elements_of t x (word_at t (p + 3)) (p + 5)) c u.cells 0 0 w o)

  pub record MapAt : Type 0 where
    pub start : p + 5 ≤ length t
    pub left : EntriesLeft t x p (word_at t (p + 3)) (p + 5)
    pub does : (limit : ℕ) (c : Scope) (u : Used) (r : Rooms) →
        body t limit (expr_of t x p) c u r ≡
        taking (2 * word_at t (p + 3)) u r (λ w o. entries t limit p (pairs_of t x (word_at t (p + 3)) (p + 5)) c u.cells 0 0 w o)

  pub list_at : get_or t p 0 ≡ 12 → ListAt
  unfolding body
  list_at b =
      let o = opened t x p list_kind b s in
      record {
        start = o.body;
        left = record { beyond = omega arith; row = o.row };
        does = λ limit c u r. rw (o.is, count-elements t x (word_at t (p + 3)) (p + 5));
      }

  pub map_at : get_or t p 0 ≡ 13 → MapAt
  unfolding body
  map_at b =
      let o = opened t x p map_kind b s in
      record {
        start = o.body;
        left = record { beyond = omega arith; row = o.row };
        does = λ limit c u r. rw (o.is, count-pairs t x (word_at t (p + 3)) (p + 5));
      }
