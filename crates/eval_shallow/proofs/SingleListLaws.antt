-- A List record of one element without a mark: which record is one, what its element is, and what it does by what its element does.
-- Assumes nothing.
use Prim.Native.Nat.{ℕ, zero, suc, ◌+◌, ◌<◌}
use mathlib.Core.Path.{◌≡◌, refl, sym, ◌∙◌, ap}
use mathlib.Core.Bool.{Bool, true, false, cond}
use mathlib.Core.List.{List}
use Rattle.std.specs.Prelude.{Option, None, Some}
use native.Mathlib.Omega.{arith}
use lib.Dec.{eqb}
use lib.ListN.{length, get_or}
use borrow.Author.Tests.{eqb-true, eqb-false, ne_eqb}
use Rattle.meaning.specs.Expr.{Expr, literal, name, unary, binary, conditional, select, list_of, map_of, comprehension, call, none_call, or_value, Elements, no_elements}
use Rattle.meaning.specs.Kinds.{list_kind}
use Rattle.meaning.specs.Table.{Part, bare, marked, add_element}
use Rattle.rooms.specs.declared.value.Value.{Value}
use Rattle.rooms.specs.declared.value.CellSpace.TheVariants as Cells
use Rattle.rooms.specs.declared.scope.Slot.{Slot}
use Rattle.rooms.specs.declared.scope.Scope.{Scope}
use Rattle.rooms.specs.declared.memory.Lent.{Lent}
use Rattle.rooms.specs.Rooms.{Rooms}
use Rattle.rooms.specs.Memory.{rooms_lent}
use Rattle.table_layout.specs.Layout.{head_bytes, word_at, after}
use Rattle.table_check.specs.Records.{expr_of, part_of, Sound, SoundPart, elements_of}
use Rattle.table_check.proofs.Opened.{opened}
use Rattle.table_check.proofs.Parts.{part-marked, part-bare}
use Rattle.machine.specs.declared.outcome.Used.{Used}
use Rattle.machine.specs.declared.outcome.Limit.TheVariants as Limit
use Rattle.machine.specs.declared.outcome.Outcome.{Outcome}
use Rattle.machine.specs.Outcomes.{whole}
use Rattle.machine.specs.Views.{part_in}
use Rattle.machine.specs.Machine.{body, machine}
use Rattle.eval_outcomes.specs.Gives.{Gives}
use Rattle.eval_containers.specs.declared.Container.TheVariants as Container
use Rattle.eval_containers.specs.declared.Begun.{Begun}
use Rattle.eval_containers.specs.declared.Ready.{Ready}
use Rattle.eval_containers.specs.Filling.{begun_of, added_of, made_of}
use Rattle.eval_shapes.specs.Leaves.{unmarked_at}
use Rattle.eval_shapes.proofs.KindLaws.{kind_in, kind-here, part-stands}
use Rattle.eval_shapes.proofs.Rows.{list_at, element-next}
use Rattle.eval_shallow.specs.declared.slots.Pair.{Pair}
use Rattle.eval_shallow.specs.Slots.{IsQuad, QuadHolds}
use Rattle.eval_shallow.specs.Shallow.{reach_of}
use Rattle.eval_shallow.proofs.Stops.{Is, Stops}
use Rattle.eval_shallow.specs.SingleLists.{alone, only_of, only_in, slots_of, single_of}
use Rattle.eval_shallow.proofs.BeginLaws.{begun-places, list_full, list-is}
use Rattle.eval_shallow.proofs.ListLaws.{no-element, element-stops, element-again}
use Rattle.rooms.specs.Spans.{row}

-- ---- the only element

alone-not : (e : Expr) (y : Part) (es : Elements) → alone e (add_element y es) ≡ None
unfolding add_element
alone-not e (bare f) es = refl
alone-not e (marked p f) es = refl

only-not : (y z : Part) (es : Elements) → only_of (add_element y (add_element z es)) ≡ None
unfolding add_element
only-not (bare e) z es = alone-not e z es
only-not (marked p e) z es = refl

-- of n elements from q on
abbrev pub only_at : (t x : List ℕ) (n q : ℕ) → Option Expr
only_at t x n q = cond (eqb n 1) (cond (eqb (get_or t q 0) 14) None (Some (expr_of t x q))) None

module _ (t x : List ℕ) where
  only_one : (q : ℕ) → SoundPart t x q → (b : Bool) → eqb (get_or t q 0) 14 ≡ b → only_of (add_element (part_of t x q) no_elements) ≡ cond b None (Some (expr_of t x q))
  unfolding add_element
  only_one q s true e = rw (part-marked t x q s (eqb-true (get_or t q 0) 14 e)).is
  only_one q s false e = rw (part-bare t x q s (eqb-false (get_or t q 0) 14 e)).1

  only_at_lem : (n q : ℕ) → (0 < n → SoundPart t x q) → only_of (elements_of t x n q) ≡ only_at t x n q
  only_at_lem zero q h = refl
  only_at_lem (suc zero) q h = only_one q (h (omega arith)) (eqb (get_or t q 0) 14) refl
  only_at_lem (suc (suc n)) q h =
      rw (ne_eqb (suc (suc n)) 1 (λ e. omega (arith, e))) (only-not (part_of t x q) (part_of t x (after t q)) (elements_of t x n (after t (after t q))))

  module _ (p : ℕ) (s : Sound t x p) (k : get_or t p 0 ≡ 12) where
    pub part_sound : 0 < word_at t (p + 3) → SoundPart t x (p + 5)
    part_sound h = (element-next t x p (word_at t (p + 3)) (p + 5) h (list_at t x p s k).left).sound

    only_here : only_in (expr_of t x p) ≡ only_at t x (word_at t (p + 3)) (p + 5)
    only_here = ap only_in (opened t x p list_kind k s).is ∙ only_at_lem (word_at t (p + 3)) (p + 5) part_sound

    pub slots-here : slots_of (only_at t x (word_at t (p + 3)) (p + 5)) ≡ single_of (expr_of t x p)
    slots-here = ap slots_of (sym only_here)

-- ---- no other record

no-list : (e : Expr) → (kind_in e ≡ 12 → ⊥) → None ≡ single_of e
no-list (literal p x) h = refl
no-list (name p n) h = refl
no-list (unary p o e) h = refl
no-list (binary p o e f) h = refl
no-list (conditional p c e f) h = refl
no-list (select p t f e) h = refl
no-list (list_of p es) h = absurd (h refl)
no-list (map_of p es) h = refl
no-list (comprehension p a i r s c t e) h = refl
no-list (call p f e) h = refl
no-list (none_call p) h = refl
no-list (or_value p e f) h = refl

is-list : (e : Expr) → IsQuad (single_of e) → kind_in e ≡ 12
is-list (literal p x) h = absurd h
is-list (name p n) h = absurd h
is-list (unary p o e) h = absurd h
is-list (binary p o e f) h = absurd h
is-list (conditional p c e f) h = absurd h
is-list (select p t f e) h = absurd h
is-list (list_of p es) h = refl
is-list (map_of p es) h = absurd h
is-list (comprehension p a i r s c t e) h = absurd h
is-list (call p f e) h = absurd h
is-list (none_call p) h = absurd h
is-list (or_value p e f) h = absurd h

-- ---- the slots, as the code finds them

module _ (t x : List ℕ) (p : ℕ) (s : Sound t x p) where
  pub other-kind : (get_or t p 0 ≡ 12 → ⊥) → None ≡ single_of (expr_of t x p)
  other-kind h = no-list (expr_of t x p) (λ e. h ((kind-here t x p s).known 12 (omega arith) e))

  module _ (k : get_or t p 0 ≡ 12) where
    -- no element, or more than one
    pub other-count : (word_at t (p + 3) ≡ 1 → ⊥) → None ≡ single_of (expr_of t x p)
    other-count h = rw (ne_eqb (word_at t (p + 3)) 1 h) at (slots-here t x p s k)

    module _ (n : word_at t (p + 3) ≡ 1) {q : ℕ} (at : q ≡ p + head_bytes (get_or t p 0)) where
      place : q ≡ p + 5
      place = at ∙ (opened t x p list_kind k s).first

      pub element-stands : q < length t
      element-stands = rw place (part-stands t x (p + 5) (part_sound t x p s k (omega (arith, n)))).here

      module _ {b : Bool} (m : b ≡ eqb (get_or t q 0) 14) where
        mark-at : b ≡ eqb (get_or t (p + 5) 0) 14
        mark-at = rw place at m

        pub marked-one : b ≡ true → None ≡ single_of (expr_of t x p)
        marked-one i = rw (n, sym mark-at ∙ i) at (slots-here t x p s k)

        pub bare-sound : b ≡ false → Sound t x q
        bare-sound i =
            rw place (part-bare t x (p + 5) (part_sound t x p s k (omega (arith, n))) (eqb-false (get_or t (p + 5) 0) 14 (sym mark-at ∙ i))).0

        pub bare-one : b ≡ false → reach_of (expr_of t x q) ≡ single_of (expr_of t x p)
        bare-one i = rw place (rw (n, sym mark-at ∙ i) at (slots-here t x p s k))

-- ---- what it does

pub record Single (t x : List ℕ) (p : ℕ) : Type 0 where
  pub kind : get_or t p 0 ≡ 12
  pub count : 1 ≡ word_at t (p + 3)
  pub place : p + head_bytes (get_or t p 0) ≡ p + 5
  pub bare : eqb (get_or t (p + 5) 0) 14 ≡ false
  pub part : SoundPart t x (p + 5)
  pub sound : Sound t x (p + 5)
  pub slots : single_of (expr_of t x p) ≡ reach_of (expr_of t x (p + 5))

by_tests : (a b : Bool) (e : Expr) → IsQuad (slots_of (cond a (cond b None (Some e)) None)) → (a ≡ true) × (b ≡ false)
by_tests true true e h = absurd h
by_tests true false e h = (refl, refl)
by_tests false b e h = absurd h

module _ (t x : List ℕ) (p : ℕ) (s : Sound t x p) where
  pub single-here : IsQuad (single_of (expr_of t x p)) → Single t x p
  single-here h =
      let k = (kind-here t x p s).known 12 (omega arith) (is-list (expr_of t x p) h) in
      let b = by_tests (eqb (word_at t (p + 3)) 1) (eqb (get_or t (p + 5) 0) 14) (expr_of t x (p + 5)) (rw (sym (slots-here t x p s k)) at h) in
      let n = eqb-true (word_at t (p + 3)) 1 b.0 in
      let place = (opened t x p list_kind k s).first in
      record {
        kind = k;
        count = sym n;
        place = place;
        bare = b.1;
        part = part_sound t x p s k (omega (arith, n));
        sound = bare-sound t x p s k n (sym place) refl b.1;
        slots = sym (bare-one t x p s k n (sym place) refl b.1);
      }

-- its element, as the code begins it
module _ (t x : List ℕ) (p : ℕ) (single : Single t x p) {q : ℕ} (at : q ≡ p + head_bytes (get_or t p 0)) where
  pub element-asked : IsQuad (single_of (expr_of t x p)) → Sound t x q × IsQuad (reach_of (expr_of t x q))
  element-asked h = rw (at ∙ single.place) (single.sound, rw single.slots at h)

  pub element-gives : (c : Scope) (v : Pair (Pair Slot)) → QuadHolds c (single_of (expr_of t x p)) v → (limit : ℕ) (u : Used) (r : Rooms) {y : List ℕ} → y ≡ x → {o : Outcome} {d : Rooms} →
      ((s : Scope) → QuadHolds s (reach_of (expr_of t y q)) v → Is o d (machine t limit (expr_of t y q) s u r)) → Is o d (machine t limit (expr_of t x (p + 5)) c u r)
  element-gives c v h limit u r j e = let f = rw (j, at ∙ single.place) at e in f c (rw single.slots at h)

abbrev begun-ready : Ready
begun-ready = record { count = 0; deep = 0 }

module _ (t x : List ℕ) (limit p : ℕ) (sound : Sound t x p) (single : Single t x p) (c : Scope) (u : Used)
    {b : Option Begun} {old begun-with : Lent} (begun : Gives b old begun-with (λ r. begun_of 1 1 u r)) where
  pub single-full : b ≡ None → {o : Outcome} → o ≡ Outcome.Exhausted Limit.Cells u → Is o (rooms_lent begun-with) (body t limit (expr_of t x p) c u (rooms_lent old))
  single-full = list_full t x limit p sound c u single.kind single.count begun

  module _ {g : Begun} (is : b ≡ Some g) {o : Outcome} (after-it : Lent)
      (element : Is o (rooms_lent after-it) (machine t limit (expr_of t x (p + 5)) c g.used (rooms_lent begun-with))) where
    unmarked-does : Is o (rooms_lent after-it) (machine t limit (expr_of t x (unmarked_at t (p + 5))) c g.used (rooms_lent begun-with))
    unmarked-does = rw single.bare element

    pub single-stops : Stops o → Is o (rooms_lent after-it) (body t limit (expr_of t x p) c u (rooms_lent old))
    single-stops h =
        let e = element-stops t x limit g.first c 1 (p + 5) (omega arith) single.part begun-ready g.used (rooms_lent begun-with) unmarked-does h in
        list-is t x limit p sound c u single.kind single.count begun is (rw (begun-places 1 1 u begun is).1 e)

    pub single-whole : {v : Value} {y : Used} → o ≡ Outcome.Value v y → {k : Ready} {new : Lent} → Gives k after-it new (λ r. added_of g.first begun-ready (part_in r false v) r) →
        {a : Outcome} → a ≡ whole k.deep (λ d. made_of Container.List d (row Cells.Evaluation g.first k.count)) y → Is a (rooms_lent new) (body t limit (expr_of t x p) c u (rooms_lent old))
    single-whole {v} {y} i {k} {new} added e =
        let f = element-again t x limit g.first c 1 (p + 5) (omega arith) single.part begun-ready g.used (rooms_lent begun-with) unmarked-does i (sym single.bare) added in
        let d = ap (λ (a : Outcome). (a, rooms_lent new)) e ∙ (sym (no-element t x limit g.first c 0 (after t (p + 5)) refl k y (rooms_lent new)) ∙ f) in
        list-is t x limit p sound c u single.kind single.count begun is (rw (begun-places 1 1 u begun is).1 d)
