-- Module 1 on rooms: arithmetic, and `+` on texts and lists, which copies both operands to the end of what is used.
use Rattle.std.specs.Prelude.{ℕ, ◌+◌, max, List, ℤ, Result, Ok, Err}
use Rattle.numbers.specs.declared.error.ArithmeticError.{ArithmeticError}
use Rattle.numbers.specs.declared.double.Double.{Double}
use Rattle.numbers.specs.declared.order.Number.{Number}
use Rattle.numbers.specs.Int as Int
use Rattle.numbers.specs.Double as Double
use Rattle.meaning.specs.Expr.{Arith, add, sub, div, mul, rem}
use Rattle.meaning.specs.Numbers.{int_arith, uint_arith}
use Rattle.rooms.specs.declared.value.Value.{Value}
use Rattle.rooms.specs.declared.value.TextSpace.{TextSpace}
use Rattle.rooms.specs.declared.value.TextSpace.TheVariants as Text
use Rattle.rooms.specs.declared.value.CellSpace.{CellSpace}
use Rattle.rooms.specs.declared.value.CellSpace.TheVariants as Cells
use Rattle.rooms.specs.declared.value.Plain.{Plain}
use Rattle.rooms.specs.declared.value.Parts.{Parts}
use Rattle.rooms.specs.Value.{plain_of, parts_of, nesting_of, double_value}
use Rattle.rooms.specs.Rooms.{Rooms}
use Rattle.rooms_taking.specs.Taking.{text_room, taken_of, copied, pasted}
use Rattle.machine.specs.declared.outcome.Used.{Used}
use Rattle.machine.specs.declared.outcome.Error.TheVariants as Error
use Rattle.machine.specs.declared.outcome.Limit.TheVariants as Limit
use Rattle.machine.specs.declared.outcome.Outcome.{Outcome}
use Rattle.machine.specs.Outcomes.{Res, with_bytes, with_words, with_text, no_overload, on_taken, taking}
use Rattle.rooms.specs.Spans.{span, row}

-- ---- numbers

abbrev pub answer_out : ℕ → Used → Result Value ArithmeticError → Outcome
answer_out p u (Ok v) = Outcome.Value v u
answer_out p u (Err e) = Outcome.Error (Error.Arithmetic e) p u

abbrev pub int_out : ℕ → Used → Result ℤ ArithmeticError → Outcome
int_out p u (Ok z) = Outcome.Value (Value.Int z) u
int_out p u (Err e) = Outcome.Error (Error.Arithmetic e) p u

abbrev pub uint_out : ℕ → Used → Result ℕ ArithmeticError → Outcome
uint_out p u (Ok n) = Outcome.Value (Value.Uint n) u
uint_out p u (Err e) = Outcome.Error (Error.Arithmetic e) p u

abbrev pub double_out : Used → Double → Outcome
double_out u d = Outcome.Value (double_value d) u

abbrev pub doubles_out : ℕ → Used → Arith → Double → Double → Outcome
doubles_out p u add a b = double_out u (Double.add_of a b)
doubles_out p u sub a b = double_out u (Double.sub_of a b)
doubles_out p u div a b = double_out u (Double.div_of a b)
doubles_out p u mul a b = double_out u (Double.mul_of a b)
doubles_out p u rem a b = no_overload p u

abbrev pub numbers_out : ℕ → Used → Arith → Number → Number → Outcome
numbers_out p u o (Number.Int a) (Number.Int b) = int_out p u (int_arith o a b)
numbers_out p u o (Number.Int a) (Number.Uint b) = no_overload p u
numbers_out p u o (Number.Int a) (Number.Double b) = no_overload p u
numbers_out p u o (Number.Uint a) (Number.Int b) = no_overload p u
numbers_out p u o (Number.Uint a) (Number.Uint b) = uint_out p u (uint_arith o a b)
numbers_out p u o (Number.Uint a) (Number.Double b) = no_overload p u
numbers_out p u o (Number.Double a) (Number.Int b) = no_overload p u
numbers_out p u o (Number.Double a) (Number.Uint b) = no_overload p u
numbers_out p u o (Number.Double a) (Number.Double b) = doubles_out p u o a b

abbrev pub number_arith : ℕ → Used → Arith → Number → Plain → Outcome
number_arith p u o a Plain.Null = no_overload p u
number_arith p u o a (Plain.Bool b) = no_overload p u
number_arith p u o a (Plain.Number b) = numbers_out p u o a b
number_arith p u o a (Plain.String sp) = no_overload p u
number_arith p u o a (Plain.Bytes sp) = no_overload p u
number_arith p u o a Plain.OptionalNone = no_overload p u
number_arith p u o a Plain.Other = no_overload p u

abbrev pub negate_number : ℕ → Used → Number → Outcome
negate_number p u (Number.Int z) = int_out p u (Int.neg_of z)
negate_number p u (Number.Uint n) = no_overload p u
negate_number p u (Number.Double d) = double_out u (Double.neg_of d)

abbrev pub negate_plain : ℕ → Used → Plain → Outcome
negate_plain p u Plain.Null = no_overload p u
negate_plain p u (Plain.Bool b) = no_overload p u
negate_plain p u (Plain.Number n) = negate_number p u n
negate_plain p u (Plain.String sp) = no_overload p u
negate_plain p u (Plain.Bytes sp) = no_overload p u
negate_plain p u Plain.OptionalNone = no_overload p u
negate_plain p u Plain.Other = no_overload p u

-- ---- texts

-- n bytes of a space from a on, and m of another from b on, one after the other at the end of the evaluation's text
abbrev pub both_texts : Rooms → (to : ℕ) → TextSpace → (a n : ℕ) → TextSpace → (b m : ℕ) → List ℕ
both_texts r to s a n t b m = pasted r.literal r.binding_text t (pasted r.literal r.binding_text s r.text a to n) b (to + n) m

abbrev pub text_sum : (ℕ → ℕ → Value) → TextSpace → (a n : ℕ) → TextSpace → (b m : ℕ) → Used → Rooms → Res
text_sum make s a n t b m u r =
    on_taken (taken_of (text_room r.text) u.bytes (n + m))
    (λ end. (Outcome.Value (make u.bytes (n + m)) (with_bytes u end), with_text r (both_texts r u.bytes s a n t b m)))
    (Outcome.Exhausted Limit.Text u, r)

abbrev pub string_sum : ℕ → TextSpace → (a n : ℕ) → Plain → Used → Rooms → Res
string_sum p s a n Plain.Null u r = (no_overload p u, r)
string_sum p s a n (Plain.Bool b) u r = (no_overload p u, r)
string_sum p s a n (Plain.Number b) u r = (no_overload p u, r)
string_sum p s a n (Plain.String sp) u r = text_sum (λ f k. Value.String (span Text.Evaluation f k)) s a n sp.space sp.first sp.length u r
string_sum p s a n (Plain.Bytes sp) u r = (no_overload p u, r)
string_sum p s a n Plain.OptionalNone u r = (no_overload p u, r)
string_sum p s a n Plain.Other u r = (no_overload p u, r)

abbrev pub bytes_sum : ℕ → TextSpace → (a n : ℕ) → Plain → Used → Rooms → Res
bytes_sum p s a n Plain.Null u r = (no_overload p u, r)
bytes_sum p s a n (Plain.Bool b) u r = (no_overload p u, r)
bytes_sum p s a n (Plain.Number b) u r = (no_overload p u, r)
bytes_sum p s a n (Plain.String sp) u r = (no_overload p u, r)
bytes_sum p s a n (Plain.Bytes sp) u r = text_sum (λ f k. Value.Bytes (span Text.Evaluation f k)) s a n sp.space sp.first sp.length u r
bytes_sum p s a n Plain.OptionalNone u r = (no_overload p u, r)
bytes_sum p s a n Plain.Other u r = (no_overload p u, r)

-- ---- lists

-- the sum nests as deep as the deeper list, so its nesting needs no test
abbrev pub both_lists : (deep : ℕ) → CellSpace → (a n : ℕ) → CellSpace → (b m : ℕ) → Used → Rooms → Res
both_lists d s a n t b m u r =
    taking (n + m) u r
    (λ w q. (
      Outcome.Value (Value.List d (row Cells.Evaluation u.cells (n + m))) w,
      with_words q (copied q.binding_cells t (copied q.binding_cells s q.cells a u.cells n) b (u.cells + n) m),
    ))

abbrev pub list_sum : ℕ → (deep : ℕ) → CellSpace → (a n : ℕ) → Parts → Used → Rooms → Res
list_sum p d s a n (Parts.Elements ro) u r = both_lists d s a n ro.space ro.first ro.length u r
list_sum p d s a n (Parts.Entries ro) u r = (no_overload p u, r)
list_sum p d s a n (Parts.Present t b) u r = (no_overload p u, r)
list_sum p d s a n Parts.Nothing u r = (no_overload p u, r)

-- ---- by what the left operand is

-- text and lists have `+` alone
abbrev pub only_add : ℕ → Arith → (Used → Rooms → Res) → Used → Rooms → Res
only_add p add k u r = k u r
only_add p sub k u r = (no_overload p u, r)
only_add p div k u r = (no_overload p u, r)
only_add p mul k u r = (no_overload p u, r)
only_add p rem k u r = (no_overload p u, r)

abbrev pub parts_arith : ℕ → Arith → Value → Value → Parts → Used → Rooms → Res
parts_arith p o v w (Parts.Elements ro) u r = only_add p o (λ z q. list_sum p (max (nesting_of v) (nesting_of w)) ro.space ro.first ro.length (parts_of w) z q) u r
parts_arith p o v w (Parts.Entries ro) u r = (no_overload p u, r)
parts_arith p o v w (Parts.Present s a) u r = (no_overload p u, r)
parts_arith p o v w Parts.Nothing u r = (no_overload p u, r)

abbrev pub plain_arith : ℕ → Arith → Value → Value → Plain → Used → Rooms → Res
plain_arith p o v w Plain.Null u r = (no_overload p u, r)
plain_arith p o v w (Plain.Bool b) u r = (no_overload p u, r)
plain_arith p o v w (Plain.Number a) u r = (number_arith p u o a (plain_of w), r)
plain_arith p o v w (Plain.String sp) u r = only_add p o (λ z q. string_sum p sp.space sp.first sp.length (plain_of w) z q) u r
plain_arith p o v w (Plain.Bytes sp) u r = only_add p o (λ z q. bytes_sum p sp.space sp.first sp.length (plain_of w) z q) u r
plain_arith p o v w Plain.OptionalNone u r = (no_overload p u, r)
plain_arith p o v w Plain.Other u r = parts_arith p o v w (parts_of v) u r

abbrev pub arithmetic : ℕ → Arith → Value → Value → Used → Rooms → Res
arithmetic p o v w u r = plain_arith p o v w (plain_of v) u r
