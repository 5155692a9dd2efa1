-- A comprehension up to its loop: init, range, what it goes over and which loop is run, over what the calls for them ensure. Assumes nothing.
use Prim.Native.Nat.{ℕ, ◌+◌, ◌<◌}
use mathlib.Core.Path.{◌≡◌, refl, sym, ◌∙◌, ap, subst}
use mathlib.Core.Bool.{Bool, true, false, cond, ◌&&◌}
use mathlib.Core.List.{List}
use Rattle.std.specs.Prelude.{Option, None, Some}
use native.Mathlib.Omega.{arith}
use lib.ListN.{get_or}
use borrow.Author.Tests.{ltb-true}
use Rattle.meaning.specs.Look.{named}
use Rattle.meaning.specs.Meaning.{look}
use Rattle.rooms.specs.declared.value.Value.{Value}
use Rattle.rooms.specs.declared.scope.Scope.{Scope}
use Rattle.rooms.specs.Value.{parts_of}
use Rattle.rooms.specs.Rooms.{Rooms}
use Rattle.rooms.specs.Scope.{stored}
use Rattle.table_layout.specs.Layout.{word_at, after, head_bytes}
use Rattle.table_check.specs.Records.{expr_of, Sound}
use Rattle.table_check.proofs.Opened.{both_of}
use Rattle.machine.specs.declared.outcome.Used.{Used}
use Rattle.machine.specs.declared.outcome.Error.TheVariants as Error
use Rattle.machine.specs.declared.outcome.Outcome.{Outcome}
use Rattle.machine.specs.Outcomes.{Res}
use Rattle.machine.specs.declared.items.Items.{Items}
use Rattle.machine.specs.Comprehension.{AppendStep, items_parts, on_items, empty_parts, turns, append_turns, nothing_gathered, loop_from}
use Rattle.machine.specs.Machine.{body, machine, append_step}
use Rattle.eval_shapes.specs.declared.comprehensions.Appending.{Appending}
use Rattle.eval_shapes.specs.declared.comprehensions.Places.{Places}
use Rattle.eval_shapes.specs.Comprehensions.{places_at, loop_at, path_of, path_seen, append_at, PathIn}
use Rattle.eval_shapes.proofs.SeenOfRecords.{literal-seen}
use Rattle.eval_shapes.proofs.ComprehensionLaws.{ComprehensionAt, open_path, turns-taken, appends-taken}
use Rattle.eval_shallow.proofs.Stops.{Is, Stops, stops-there, goes_on}

-- ---- the append path is only there with a literal for a condition

cond-some : {A : Type 0} (b : Bool) (m : Option A) {a : A} → cond b m None ≡ Some a → (b ≡ true) × (m ≡ Some a)
cond-some true m e = (refl, e)
cond-some false m e = let z : ◌≡◌ {A = ℕ} 0 1 = cc in absurd (omega arith)

literal-condition : (t x : List ℕ) (limit : ℕ) (c : Places) (start : Value) → Sound t x c.condition → {path : AppendStep} → path_of t x limit c start ≡ Some path →
    get_or t c.condition 0 < 7
literal-condition t x limit c start s e =
    let f = cond-some (empty_parts (parts_of start)) (open_path t x limit c) e in
    let g = cond-some ((look (expr_of t x c.condition)).is_literal && named c.accumulator (look (expr_of t x c.result)).is_name)
    (append_step t limit c.accumulator (expr_of t x c.step)) f.1 in
    ltb-true (get_or t c.condition 0) 7
    (literal-seen t x c.condition s ∙ (both_of (look (expr_of t x c.condition)).is_literal (named c.accumulator (look (expr_of t x c.result)).is_name) g.0).0)

-- ---- the record

-- the range is the first operand, and the init follows it
module _ (t x : List ℕ) (limit p : ℕ) (at : ComprehensionAt t x p) {over second : ℕ} (first-is : over ≡ p + head_bytes (get_or t p 0)) (second_is : second ≡ after t over)
    (s : Scope) (u : Used) (r : Rooms) where
  abbrev whole : Res
  whole = body t limit (expr_of t x p) s u r

  abbrev init : Res
  init = machine t limit (expr_of t x (after t (p + 5))) s u r

  abbrev range : Used → Rooms → Res
  range w z = machine t limit (expr_of t x (p + 5)) s w z

  over-is : over ≡ p + 5
  over-is = first-is ∙ at.first

  second_at : second ≡ after t (p + 5)
  second_at = second_is ∙ ap (λ (n : ℕ). after t n) over-is

  init-is : {o : Outcome} {z : Rooms} → Is o z (machine t limit (expr_of t x second) s u r) → Is o z init
  init-is e = e ∙ ap (λ (n : ℕ). machine t limit (expr_of t x n) s u r) second_at

  range-is : {o : Outcome} {z : Rooms} (w : Used) (y : Rooms) → Is o z (machine t limit (expr_of t x over) s w y) → Is o z (range w y)
  range-is w y e = e ∙ ap (λ (n : ℕ). machine t limit (expr_of t x n) s w y) over-is

  pub init-stops : {o : Outcome} {z : Rooms} → Is o z (machine t limit (expr_of t x second) s u r) → Stops o → Is o z whole
  init-stops e h = stops-there init (init-is e) h _ ∙ sym (at.does limit s u r)

  module _ {o : Outcome} {z : Rooms} (one : Is o z (machine t limit (expr_of t x second) s u r)) {start : Value} {w : Used} (begun : o ≡ Outcome.Value start w)
      {o' : Outcome} {z' : Rooms} (two : Is o' z' (machine t limit (expr_of t x over) s w z)) where
    pub range-stops : Stops o' → Is o' z' whole
    range-stops h = stops-there (range w z) (range-is w z two) h _ ∙ (goes_on init (init-is one) begun _ ∙ sym (at.does limit s u r))

    module _ {v : Value} {y : Used} (value : o' ≡ Outcome.Value v y) {k : Option Items} (seen : k ≡ items_parts (parts_of v)) where
      abbrev from : Items → Res
      from items = loop_from (loop_at t x limit p (places_at t p)) (open_path t x limit (places_at t p)) start items s y z'

      goes : on_items p y z' k (λ items. from items) ≡ whole
      goes =
          ap (λ i. on_items p y z' i (λ items. from items)) seen ∙ (goes_on (range w z) (range-is w z two) value _ ∙ (goes_on init (init-is one) begun _ ∙ sym (at.does limit s u r)))

      pub no-range : k ≡ None → Is (Outcome.Error Error.IterableWanted p y) z' whole
      no-range e = ap (λ k. on_items p y z' k (λ items. from items)) (sym e) ∙ goes

      module _ {items : Items} (is : k ≡ Some items) {places : Places} (e : places ≡ places_at t p)
          (path : Option Appending) (path-is : (limit : ℕ) → path_seen t x limit path ≡ path_of t x limit places start) where
        loops : loop_from (loop_at t x limit p places) (open_path t x limit places) start items s y z' ≡ whole
        loops =
            ap (λ (c : Places). loop_from (loop_at t x limit p c) (open_path t x limit c) start items s y z') e ∙
            (ap (λ k. on_items p y z' k (λ items. from items)) (sym is) ∙ goes)

        path-at : {f : Option Appending} → path ≡ f → path_of t x limit places start ≡ path_seen t x limit f
        path-at f = sym (path-is limit) ∙ ap (λ f. path_seen t x limit f) f

        pub turns-are : path ≡ None → {o'' : Outcome} {z'' : Rooms} →
            Is o'' z'' (turns (loop_at t x limit p places) items.space items.stride items.count items.first None (stored s places.accumulator start) y z') → Is o'' z'' whole
        turns-are f g = g ∙ (sym (turns-taken t x limit places (loop_at t x limit p places) start items s y z' (path-at f)) ∙ loops)

        pub appends-are : {f : Appending} → path ≡ Some f → {o'' : Outcome} {z'' : Rooms} →
            Is o'' z'' (append_turns (loop_at t x limit p places) (append_at t x limit f) items.space items.stride items.count items.first nothing_gathered s y z') → Is o'' z'' whole
        appends-are {f} h g =
            g ∙ (sym (appends-taken t x limit places (loop_at t x limit p places) start items s y z' (append_at t x limit f) (path-at h)) ∙ loops)

-- ---- what the loops ask

-- of the append path that is run in the record at p: of its condition, its guard, which may be its list, and its list
pub record Run (t x : List ℕ) (p condition guard list : ℕ) : Type 0 where
  pub literal : get_or t condition 0 < 7
  pub guard-sound : Sound t x guard
  pub list-sound : Sound t x list
  pub guard-smaller : word_at t (guard + 1) < word_at t (p + 1)
  pub list-smaller : word_at t (list + 1) < word_at t (p + 1)

module _ (t x : List ℕ) (p : ℕ) (at : ComprehensionAt t x p) {places : Places} (e : places ≡ places_at t p) where
  pub condition-sound : Sound t x places.condition
  condition-sound = rw e at.condition

  pub step-sound : Sound t x places.step
  step-sound = rw e at.step

  pub result-sound : Sound t x places.result
  result-sound = rw e at.result

  pub accumulator-small : places.accumulator < 128
  accumulator-small = rw e at.accumulator-below

  pub item-small : places.item < 128
  item-small = rw e at.item-below

  pub operands-smaller : word_at t (places.condition + 1) + word_at t (places.step + 1) + word_at t (places.result + 1) + 1 < word_at t (p + 1)
  operands-smaller = rw e (omega (arith, at.extents))

  -- on the append path the condition is a literal
  pub literal-asked : (start : Value) (path : Option Appending) → ((limit : ℕ) → path_seen t x limit path ≡ path_of t x limit places start) →
      {f : Appending} → path ≡ Some f → get_or t places.condition 0 < 7
  literal-asked start path path-is f = literal-condition t x 0 places start condition-sound (sym (path-is 0) ∙ ap (λ f. path_seen t x 0 f) f)

  module _ (start : Value) (path : Option Appending) (path-is : (limit : ℕ) → path_seen t x limit path ≡ path_of t x limit places start) (inside : PathIn t x places.step path) where
    pub plain-run : {list : ℕ} → path ≡ Some (record { guard = None; list = list }) → Run t x p places.condition list list
    plain-run f =
        let i = subst (λ f. PathIn t x places.step f) f inside in
        record {
          literal = literal-asked start path path-is f;
          guard-sound = i.0;
          list-sound = i.0;
          guard-smaller = omega (arith, i.1, operands-smaller);
          list-smaller = omega (arith, i.1, operands-smaller);
        }

    pub guarded-run : {guard list : ℕ} → path ≡ Some (record { guard = Some guard; list = list }) → Run t x p places.condition guard list
    guarded-run f =
        let i = subst (λ f. PathIn t x places.step f) f inside in
        record {
          literal = literal-asked start path path-is f;
          guard-sound = i.0;
          list-sound = i.1;
          guard-smaller = omega (arith, i.2, operands-smaller);
          list-smaller = omega (arith, i.2, operands-smaller);
        }
