-- What a comprehension sees of its operands' records, as the code has it: their places, a fold, the append path.
use Rattle.std.specs.Prelude.{ℕ, ◌+◌, ◌<◌, Bool, true, false, cond, ◌&&◌, List, get_or, Option, None, Some}
use Rattle.meaning.specs.Expr.{LogicalFold, Binary, logic, equals, not_equals, index, opt_index, opt_select, arith, compare, is_in}
use Rattle.meaning.specs.Look.{of_name, named}
use Rattle.meaning.specs.Meaning.{look}
use Rattle.rooms.specs.declared.value.Value.{Value}
use Rattle.rooms.specs.Value.{parts_of}
use Rattle.table_layout.specs.Layout.{word_at, after}
use Rattle.table_check.specs.Records.{Sound, expr_of}
use Rattle.machine.specs.Outcomes.{Does}
use Rattle.machine.specs.Comprehension as Machine
use Rattle.machine.specs.Comprehension.{AppendStep, empty_parts}
use Rattle.machine.specs.Machine.{machine, append_step}
use Rattle.eval_shapes.specs.declared.comprehensions.Appending.{Appending}
use Rattle.eval_shapes.specs.declared.comprehensions.Places.{Places}

-- ---- the operands

-- of the comprehension at p
abbrev pub places_at : List ℕ → ℕ → Places
places_at t p =
    let c : ℕ = after t (after t (p + 5)) in
    record { accumulator = get_or t (p + 3) 0; item = get_or t (p + 4) 0; condition = c; step = after t c; result = after t (after t c) }

abbrev pub loop_at : (t x : List ℕ) (limit p : ℕ) → Places → Machine.Loop
loop_at t x limit p c =
    record {
      place = p;
      accumulator = c.accumulator;
      item = c.item;
      fold = of_name c.accumulator (look (expr_of t x c.step)).folds;
      condition = machine t limit (expr_of t x c.condition);
      step = machine t limit (expr_of t x c.step);
      result = machine t limit (expr_of t x c.result);
    }

abbrev pub fold_in : Binary → Option LogicalFold
fold_in (logic f) = Some f
fold_in equals = None
fold_in not_equals = None
fold_in index = None
fold_in opt_index = None
fold_in opt_select = None
fold_in (arith o) = None
fold_in (compare c) = None
fold_in is_in = None

-- ---- the append path

-- of a comprehension with these operands, whose init gave `start`
abbrev pub path_of : (t x : List ℕ) (limit : ℕ) → Places → Value → Option AppendStep
path_of t x limit c start =
    cond (empty_parts (parts_of start))
    (cond ((look (expr_of t x c.condition)).is_literal && named c.accumulator (look (expr_of t x c.result)).is_name)
    (append_step t limit c.accumulator (expr_of t x c.step)) None)
    None

-- ---- the items list of `accumulator + [..]`

-- what the record at a place does, if there is one
abbrev pub items_seen : (t x : List ℕ) (limit : ℕ) → Option ℕ → Option Does
items_seen t x limit None = None
items_seen t x limit (Some l) = Some (machine t limit (expr_of t x l))

-- an accepted record, shorter than the one at p
abbrev pub ItemsIn : (t x : List ℕ) → ℕ → Option ℕ → Type 0
ItemsIn t x p None = Unit {0}
ItemsIn t x p (Some l) = Sound t x l × (word_at t (l + 1) < word_at t (p + 1))

-- ---- the places of a guard and an items list

abbrev pub append_at : (t x : List ℕ) (limit : ℕ) → Appending → AppendStep
append_at t x limit a = record { guard = items_seen t x limit a.guard; items = machine t limit (expr_of t x a.list) }

abbrev pub path_seen : (t x : List ℕ) (limit : ℕ) → Option Appending → Option AppendStep
path_seen t x limit None = None
path_seen t x limit (Some a) = Some (append_at t x limit a)

-- accepted records, together shorter than the step
abbrev pub GuardIn : (t x : List ℕ) → (step : ℕ) → (guard : Option ℕ) → (list : ℕ) → Type 0
GuardIn t x p None l = Sound t x l × (word_at t (l + 1) < word_at t (p + 1))
GuardIn t x p (Some g) l = Sound t x g × Sound t x l × (word_at t (g + 1) + word_at t (l + 1) < word_at t (p + 1))

abbrev pub PathIn : (t x : List ℕ) → (step : ℕ) → Option Appending → Type 0
PathIn t x p None = Unit {0}
PathIn t x p (Some a) = GuardIn t x p a.guard a.list
