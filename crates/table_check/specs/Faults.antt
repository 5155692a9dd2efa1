-- Which operands of a record may be marked, and the first fault of a record whose head is whole.
use Rattle.std.specs.Prelude.{ℕ, zero, suc, ◌%◌, Bool, true, false, not, cond, List, eqb, Result, Ok, Err}
use Rattle.meaning.specs.Errors.{refusal_at}
use Rattle.meaning.specs.declared.refusal.Refusal.{Refusal}
use Rattle.meaning.specs.declared.refusal.Reason.TheVariants.{RecordNesting, WrongField, MisplacedMark}
use Rattle.meaning.specs.Kinds.{ExprKind, null_kind, bool_kind, int_kind, uint_kind, double_kind, string_kind, bytes_kind, name_kind, unary_kind, binary_kind, conditional_kind, select_kind, list_kind, map_kind, comprehension_kind, function_kind, Kind, mark, expr}
use Rattle.table_check.specs.declared.faults.Marks.{Marks}
use Rattle.table_check.specs.declared.faults.Marks.TheVariants.{Nowhere, Anywhere, Values}
use Rattle.table_check.specs.Fits.{fields_fit}

-- ---- marks

abbrev pub expr_marks : ExprKind → Marks
expr_marks null_kind = Nowhere
expr_marks bool_kind = Nowhere
expr_marks int_kind = Nowhere
expr_marks uint_kind = Nowhere
expr_marks double_kind = Nowhere
expr_marks string_kind = Nowhere
expr_marks bytes_kind = Nowhere
expr_marks name_kind = Nowhere
expr_marks unary_kind = Nowhere
expr_marks binary_kind = Nowhere
expr_marks conditional_kind = Nowhere
expr_marks select_kind = Nowhere
expr_marks list_kind = Anywhere
expr_marks map_kind = Values
expr_marks comprehension_kind = Nowhere
expr_marks function_kind = Nowhere

-- which of them may be marked
unfoldable pub marks_of : Kind → Marks
marks_of mark = Nowhere
marks_of (expr k) = expr_marks k

-- whether the next one may be marked; the number is how many operands are left
abbrev pub may_mark : Marks → ℕ → Bool
may_mark Nowhere left = false
may_mark Anywhere left = true
may_mark Values left = eqb (left % 2) 1

-- a mark where none may stand
abbrev pub misplaced_of : Kind → Bool → Bool
misplaced_of mark marked = not marked
misplaced_of (expr k) marked = false

-- ---- faults

-- The first fault of the record at p, whose head is whole, in the order of the numbers, with `levels` levels left.
abbrev pub fault_of : List ℕ → (p : ℕ) → Kind → List ℕ → (levels : ℕ) → Bool → Result (Unit {0}) Refusal
fault_of text p k ns zero marked = Err (refusal_at RecordNesting p)
fault_of text p k ns (suc left) marked =
    cond (fields_fit text k ns) (cond (misplaced_of k marked) (Err (refusal_at MisplacedMark p)) (Ok tt)) (Err (refusal_at WrongField p))
