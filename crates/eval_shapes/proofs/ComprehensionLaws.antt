-- A comprehension: its operands and names, and what the machine does with them, the append path told apart as the code tells it.
-- Assumes nothing.
use Prim.Native.Nat.{ℕ, ◌+◌, ◌≤◌, ◌<◌}
use mathlib.Core.Path.{◌≡◌, refl}
use mathlib.Core.Bool.{Bool, true, false, cond, ◌&&◌}
use mathlib.Core.List.{List}
use Rattle.std.specs.Prelude.{Option, None, Some}
use native.Mathlib.Omega.{arith}
use lib.ListN.{length, get_or}
use Rattle.meaning.specs.Kinds.{comprehension_kind}
use Rattle.meaning.specs.Look.{named}
use Rattle.meaning.specs.Meaning.{look}
use Rattle.rooms.specs.declared.value.Value.{Value}
use Rattle.rooms.specs.declared.scope.Scope.{Scope}
use Rattle.rooms.specs.Rooms.{Rooms}
use Rattle.rooms.specs.Value.{parts_of}
use Rattle.rooms.specs.Scope.{stored}
use Rattle.table_layout.specs.Layout.{head_bytes, word_at, after}
use Rattle.table_check.specs.Records.{expr_of, Sound}
use Rattle.table_check.proofs.Opened.{both_of, opened}
use Rattle.table_check.proofs.FieldLaws.{name_below}
use Rattle.machine.specs.declared.outcome.Used.{Used}
use Rattle.machine.specs.declared.items.Items.{Items}
use Rattle.machine.specs.Comprehension.{Loop, AppendStep, empty_parts, turns, append_turns, nothing_gathered, loop_from, comprehends}
use Rattle.machine.specs.Machine.{body, machine, append_step}
use Rattle.eval_shapes.specs.declared.comprehensions.Places.{Places}
use Rattle.eval_shapes.specs.Comprehensions.{places_at, loop_at, path_of}

-- the append path of the operands, whatever is begun from
abbrev pub open_path : (t x : List ℕ) (limit : ℕ) → Places → Option AppendStep
open_path t x limit c =
    cond ((look (expr_of t x c.condition)).is_literal && named c.accumulator (look (expr_of t x c.result)).is_name)
    (append_step t limit c.accumulator (expr_of t x c.step)) None

module _ (t x : List ℕ) (p : ℕ) where
  pub record ComprehensionAt : Type 0 where
    pub start : p + 5 ≤ length t
    pub first : p + head_bytes (get_or t p 0) ≡ p + 5
    pub range : Sound t x (p + 5)
    pub init : Sound t x (after t (p + 5))
    pub condition : Sound t x (places_at t p).condition
    pub step : Sound t x (places_at t p).step
    pub result : Sound t x (places_at t p).result
    pub accumulator-below : (places_at t p).accumulator < 128
    pub item-below : (places_at t p).item < 128
    pub extents : 5 + (word_at t (p + 5 + 1) + (word_at t (after t (p + 5) + 1) + (word_at t ((places_at t p).condition + 1) + (word_at t ((places_at t p).step + 1) + word_at t ((places_at t p).result + 1))))) ≡
        word_at t (p + 1)
    pub does : (limit : ℕ) (s : Scope) (u : Used) (r : Rooms) → body t limit (expr_of t x p) s u r ≡
        comprehends (loop_at t x limit p (places_at t p)) (open_path t x limit (places_at t p)) (machine t limit (expr_of t x (after t (p + 5))))
        (machine t limit (expr_of t x (p + 5))) s u r

  pub comprehension-at : Sound t x p → get_or t p 0 ≡ 15 → ComprehensionAt
  unfolding body
  comprehension-at s b =
      let o = opened t x p comprehension_kind b s in
      let r = o.row in
      let n = both_of _ _ o.fits in
      record {
        start = o.body;
        first = o.first;
        range = r.0;
        init = r.1.0;
        condition = r.1.1.0;
        step = r.1.1.1.0;
        result = r.1.1.1.1.0;
        accumulator-below = name_below _ n.0;
        item-below = name_below _ n.1;
        extents = omega (arith, r.1.1.1.1.1);
        does = λ limit c u q. rw o.is;
      }

-- as the function finds them
pub places-are : (t : List ℕ) (p init : ℕ) → init ≡ after t (p + 5) → (a : ℕ) → a ≡ get_or t (p + 3) 0 → (i : ℕ) → i ≡ get_or t (p + 4) 0 →
    (condition : ℕ) → condition ≡ after t init → (step : ℕ) → step ≡ after t condition → (result : ℕ) → result ≡ after t step →
    ◌≡◌ {A = Places} (record { accumulator = a; item = i; condition = condition; step = step; result = result }) (places_at t p)
places-are t p init e a f i g condition h step j result k = rw (k, j, h, e, f, g)

-- ---- which loop is run

module _ (c : Loop) (start : Value) (items : Items) (s : Scope) (u : Used) (r : Rooms) where
  turns-by : (b : Bool) (path : Option AppendStep) → empty_parts (parts_of start) ≡ b → cond b path None ≡ None →
      loop_from c path start items s u r ≡
      turns c items.space items.stride items.count items.first None (stored s c.accumulator start) u r
  turns-by b None e f = refl
  turns-by true (Some path) e f = let z : ◌≡◌ {A = ℕ} 0 1 = cc in absurd (omega arith)
  turns-by false (Some path) e f = rw e

  appends-by : (b : Bool) (path : Option AppendStep) (found : AppendStep) → empty_parts (parts_of start) ≡ b → cond b path None ≡ Some found →
      loop_from c path start items s u r ≡
      append_turns c found items.space items.stride items.count items.first nothing_gathered s u r
  appends-by true None found e f = let z : ◌≡◌ {A = ℕ} 0 1 = cc in absurd (omega arith)
  appends-by false None found e f = let z : ◌≡◌ {A = ℕ} 0 1 = cc in absurd (omega arith)
  appends-by true (Some path) found e f = let g : path ≡ found = cc in rw (e, g)
  appends-by false (Some path) found e f = let z : ◌≡◌ {A = ℕ} 0 1 = cc in absurd (omega arith)

module _ (t x : List ℕ) (limit : ℕ) (places : Places) (c : Loop) (start : Value) (items : Items) (s : Scope) (u : Used) (r : Rooms) where
  -- without the append path
  pub turns-taken : path_of t x limit places start ≡ None →
      loop_from c (open_path t x limit places) start items s u r ≡
      turns c items.space items.stride items.count items.first None (stored s c.accumulator start) u r
  turns-taken e = turns-by c start items s u r (empty_parts (parts_of start)) (open_path t x limit places) refl e

  -- with it
  pub appends-taken : (path : AppendStep) → path_of t x limit places start ≡ Some path →
      loop_from c (open_path t x limit places) start items s u r ≡
      append_turns c path items.space items.stride items.count items.first nothing_gathered s u r
  appends-taken path e = appends-by c start items s u r (empty_parts (parts_of start)) (open_path t x limit places) path refl e
