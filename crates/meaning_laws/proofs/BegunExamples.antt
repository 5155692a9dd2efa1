-- Two of the places where an error would be caught, and exhaustion is not: the left error of `||`, and a fold's step that would hold an
-- error pending. Both through the general theorem. Rests on Begun. Assumes nothing.
use Prim.Native.Nat.{ℕ}
use mathlib.Core.Path.{◌≡◌, refl, sym, ◌∙◌, ap}
use mathlib.Core.List.{[], ◌∷◌, ◌++◌}
use Rattle.std.specs.Prelude.{None, Some}
use Rattle.meaning.specs.Options.{bind}
use mathlib.Core.Bool.{Bool, true, false}
use native.Mathlib.Omega.{arith}
use lib.IntN.{pos}
use Rattle.meaning.specs.Errors.{UndeclaredReference, Steps}
use Rattle.meaning.specs.Value.{bool, int, scalar, list, nil, cons, count, nesting, nesting_in, bool_of, bool_in, scalar_of, value_list, join}
use Rattle.meaning.specs.Expr.{And, Or, logic, Expr, literal, name, binary, list_of, comprehension, no_elements, element, count_elements}
use Rattle.meaning.specs.Run.{step, cells, nest, value, Trace, pure, charged, after, on_value, ◌>>=◌, fail, or_fail, from_operand, operand, placed, here, begin}
use Rattle.meaning.specs.Logic.{absorbing}
use Rattle.meaning.specs.Containers.{having, keeping, ready_in, kept, append, element_rule, pad, finished, list_rule, into}
use Rattle.meaning.specs.Comprehension.{Scope, empty_scope, store, items_of}
use Rattle.meaning.specs.Look.{a_fold, binary_look, of_name, named, append_step}
use Rattle.meaning.specs.Meaning.{run, look}
use Rattle.meaning.specs.Limited.{exhausted, limit_of, limited}
use Rattle.meaning_laws.specs.Charges.{steps_in, cells_in, bytes_in}
use Rattle.meaning_laws.specs.Begins.{GaveBool, Begins, right_of, loop_of, Reaches, itself, inside, step_of_item, no_append}
use Rattle.meaning_laws.proofs.Begun.{operand-exhausts, part-exhausts}

-- ---- `x || true` with x unbound: three steps

abbrev pub either_true : Expr
either_true = binary 0 (logic Or) (name 4 0) (literal 8 (bool true))

-- a name that is unbound gives no Bool
unbound : (p n : ℕ) (s : Scope) → s n ≡ None → (b : Bool) → ¬ GaveBool (run (name p n) s) b
unfolding run begin charged here or_fail fail placed
unbound p n s e b g =
    let q : placed p (or_fail UndeclaredReference None).1 ≡ value g.0 = ap (λ o. placed p (or_fail UndeclaredReference o).1) (sym e) ∙ g.1 in
    let z : ◌≡◌ {A = ℕ} 0 1 = cc in
    omega arith

-- the left operand is an error and does not decide, so the right one is begun
right-begun : Begins either_true empty_scope (step ∷ step ∷ []) (literal 8 (bool true)) empty_scope
unfolding run begin charged here or_fail fail empty_scope
right-begun = right_of {o = logic Or} (unbound 4 0 empty_scope refl (absorbing Or))

-- With two steps lent, `x || true` is exhausted of steps with count 2, and not true.
pub either-true-exhausted : limited (record { steps = 2; cells = 0; bytes = 0 }) (run either_true empty_scope) ≡
    exhausted Steps (record { steps = 2; cells = 0; bytes = 0 })
unfolding run begin charged here pure steps_in cells_in bytes_in limit_of
either-true-exhausted =
    operand-exhausts right-begun (record { steps = 2; cells = 0; bytes = 0 }) (record { steps = 2; cells = 0; bytes = 0 }) Steps
    (record {
      made = step ∷ step ∷ [];
      next = step;
      rest = [];
      whole = refl;
      within = record { counts = omega arith; nests = tt };
      counted = refl;
      passes = omega arith;
      limit = refl;
    })

-- ---- all over [7] of x, with x unbound: eight steps

-- the accumulator is name 1, the item name 2, and x name 3
abbrev pub all_unbound : Expr
all_unbound =
    comprehension 0 1 2 (list_of 1 (element (literal 2 (int (pos 7))) no_elements)) (literal 3 (bool true)) (literal 4 (bool true))
    (binary 5 (logic And) (name 6 1) (name 7 3)) (name 8 1)

abbrev begun_scope : Scope
begun_scope = store empty_scope 1 (scalar (bool true))

abbrev item_scope : Scope
item_scope = store begun_scope 2 (scalar (int (pos 7)))

abbrev charges : Trace
charges = step ∷ step ∷ step ∷ cells (cons (scalar (int (pos 7))) nil) ∷ step ∷ nest 1 ∷ step ∷ []

step-begun : Begins all_unbound empty_scope charges (binary 5 (logic And) (name 6 1) (name 7 3)) item_scope
unfolding run begin charged here or_fail fail pure empty_scope placed items_of bool_of bind scalar_of bool_in value_list into ◌>>=◌ after
    list_rule pad element_rule count_elements having ready_in operand on_value keeping from_operand append finished kept join
    nesting nesting_in look binary_look a_fold of_name append_step named
step-begun =
    loop_of {v = scalar (bool true)} {w = list (cons (scalar (int (pos 7))) nil)} {xs = scalar (int (pos 7)) ∷ []} refl refl refl no_append
    (step_of_item (scalar (bool true), refl, refl))

-- the accumulator is true, which does not decide `&&`
accumulator-open : ¬ GaveBool (run (name 6 1) item_scope) (absorbing And)
unfolding run begin charged here or_fail pure store empty_scope placed absorbing bool_of bind scalar_of bool_in
accumulator-open g =
    let r : scalar (bool true) ≡ g.0 = let q = g.1 in cc in
    let t : Some true ≡ Some false = ap bool_of r ∙ g.2 in
    let z : ◌≡◌ {A = ℕ} 0 1 = cc in
    omega arith

x-reached : Reaches all_unbound empty_scope (charges ++ (step ∷ step ∷ [])) (name 7 3) item_scope
unfolding run begin charged here or_fail pure empty_scope store
x-reached = inside step-begun (inside {before = step ∷ step ∷ []} (right_of {o = logic And} accumulator-open) itself)

-- With seven steps lent it is exhausted of steps with counts 7 and 1, and no error is held pending in its place.
pub all-unbound-exhausted : limited (record { steps = 7; cells = 1; bytes = 0 }) (run all_unbound empty_scope) ≡
    exhausted Steps (record { steps = 7; cells = 1; bytes = 0 })
unfolding run begin charged here or_fail fail empty_scope store steps_in cells_in bytes_in count limit_of
all-unbound-exhausted =
    part-exhausts x-reached (record { steps = 7; cells = 1; bytes = 0 }) (record { steps = 7; cells = 1; bytes = 0 }) Steps
    (record {
      made = charges ++ (step ∷ step ∷ []);
      next = step;
      rest = [];
      whole = refl;
      within = record { counts = omega arith; nests = (omega arith, tt) };
      counted = refl;
      passes = omega arith;
      limit = refl;
    })
