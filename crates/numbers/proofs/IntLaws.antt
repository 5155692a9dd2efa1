-- The laws of arithmetic on Int: what a caller cites, so that no proof above opens a definition. Assumes nothing.
use mathlib.Core.Path.{◌≡◌, refl, sym, ap, ◌∙◌}
use mathlib.Core.Bool.{true, false}
use Prim.Native.Nat.{◌^◌, ◌≤◌, ◌<◌}
use native.Mathlib.Omega.{arith}
use lib.IntN.{ℤ, pos, negsuc, neg_ℤ, ◌+ℤ◌, ◌-ℤ◌, ◌*ℤ◌}
use lib.Signed.{mag, quot_z, rem_z}
use borrow.Author.Tests.{lt-ltb, le-ltb, ltb-true, ne_eqb}
use Rattle.numbers.specs.declared.error.ArithmeticError.TheVariants.{Overflow, DivisionByZero, RemainderByZero}
use borrow.Author.Rules.{sfits_of}
use Rattle.std.specs.Prelude.{Option, None, Some, Ok, Err, ok_or, FitsSigned, SomeIff}
use Rattle.std.specs.Int.{cast_unsigned, CanDivide}
use mir.Syntax.{w64}
use mir.Val.{to_z}
use mir.ValLaws.{to_z-of_z}
use Rattle.numbers.specs.Int.{in_range, is_zero, answer, add_of, sub_of, mul_of, neg_of, div_of, rem_of}

-- ---- in range and out of range: `mag` is n for n and for -(n + 1)

pub in-range : (z : ℤ) → mag z < 2 ^ 63 → in_range z ≡ true
in-range (pos n) h = lt-ltb n (2 ^ 63) h
in-range (negsuc n) h = lt-ltb n (2 ^ 63) h

pub range_small : (z : ℤ) → in_range z ≡ true → mag z < 2 ^ 63
range_small (pos n) h = ltb-true n (2 ^ 63) h
range_small (negsuc n) h = ltb-true n (2 ^ 63) h

pub out_of_range : (z : ℤ) → 2 ^ 63 ≤ mag z → in_range z ≡ false
out_of_range (pos n) h = le-ltb n (2 ^ 63) h
out_of_range (negsuc n) h = le-ltb n (2 ^ 63) h

pub answer-in : (z : ℤ) → mag z < 2 ^ 63 → answer z ≡ Ok z
unfolding answer
answer-in z h = rw (in-range z h)

pub answer-out : (z : ℤ) → 2 ^ 63 ≤ mag z → answer z ≡ Err Overflow
unfolding answer
answer-out z h = rw (out_of_range z h)

-- ---- each operation by the laws above

pub add-answer : (a b : ℤ) → add_of a b ≡ answer (a +ℤ b)
unfolding add_of
add-answer a b = refl

pub sub-answer : (a b : ℤ) → sub_of a b ≡ answer (a -ℤ b)
unfolding sub_of
sub-answer a b = refl

pub mul-answer : (a b : ℤ) → mul_of a b ≡ answer (a *ℤ b)
unfolding mul_of
mul-answer a b = refl

pub neg_answer : (a : ℤ) → neg_of a ≡ answer (neg_ℤ a)
unfolding neg_of
neg_answer a = refl

-- ---- a zero divisor comes before the range

pub div-zero : (a : ℤ) → div_of a (pos 0) ≡ Err DivisionByZero
unfolding div_of
div-zero a = refl

pub rem-zero : (a : ℤ) → rem_of a (pos 0) ≡ Err RemainderByZero
unfolding rem_of
rem-zero a = refl

-- ---- another divisor: the quotient is in range, or it is not

pub div-answer : (a b : ℤ) → is_zero b ≡ false → div_of a b ≡ answer (quot_z a b)
unfolding div_of
div-answer a b z = rw z

pub rem-in : (a b : ℤ) → is_zero b ≡ false → mag (quot_z a b) < 2 ^ 63 → rem_of a b ≡ Ok (rem_z a b)
unfolding rem_of
rem-in a b z h = rw (z, in-range (quot_z a b) h)

pub rem-out : (a b : ℤ) → is_zero b ≡ false → 2 ^ 63 ≤ mag (quot_z a b) → rem_of a b ≡ Err Overflow
unfolding rem_of
rem-out a b z h = rw (z, out_of_range (quot_z a b) h)

-- -2 ^ 63 / -1 and -2 ^ 63 % -1 are out of range
pub min-div : div_of (negsuc 9223372036854775807) (negsuc 0) ≡ Err Overflow
min-div = div-answer (negsuc 9223372036854775807) (negsuc 0) refl ∙ answer-out _ (omega arith)

pub min-rem : rem_of (negsuc 9223372036854775807) (negsuc 0) ≡ Err Overflow
min-rem = rem-out (negsuc 9223372036854775807) (negsuc 0) refl (omega arith)

-- ---- what std's checked methods give, as an answer

too-large : (z : ℤ) → (FitsSigned w64 z → ⊥) → 2 ^ 63 ≤ mag z
too-large z h = let out : mag z < 2 ^ 63 → ⊥ = λ k. h (sfits_of k) in omega arith

pub checked : (z : ℤ) (o : Option ℤ) → SomeIff o (FitsSigned w64 z) z → ok_or o Overflow ≡ answer z
checked z None h = sym (answer-out z (too-large z h))
checked z (Some x) h = ap Ok h.1 ∙ sym (answer-in z h.0.sfits)

not-zero : (b : ℤ) → (cast_unsigned w64 b ≡ 0 → ⊥) → is_zero b ≡ false
not-zero (pos n) h = ne_eqb n 0 h
not-zero (negsuc n) h = refl

pub divided : (a b : ℤ) (o : Option ℤ) → SomeIff o (CanDivide w64 a b) (quot_z a b) → (cast_unsigned w64 b ≡ 0 → ⊥) → ok_or o Overflow ≡ div_of a b
divided a b None h n = sym (div-answer a b (not-zero b n) ∙ answer-out _ (too-large _ (λ k. h (omega (arith, n), k))))
divided a b (Some x) h n = ap Ok h.1 ∙ sym (div-answer a b (not-zero b n) ∙ answer-in _ h.0.1.sfits)

pub remains : (a b : ℤ) (o : Option ℤ) → SomeIff o (CanDivide w64 a b) (rem_z a b) → (cast_unsigned w64 b ≡ 0 → ⊥) → ok_or o Overflow ≡ rem_of a b
remains a b None h n = sym (rem-out a b (not-zero b n) (too-large _ (λ k. h (omega (arith, n), k))))
remains a b (Some x) h n = ap Ok h.1 ∙ sym (rem-in a b (not-zero b n) h.0.1.sfits)

is-zero : (b : ℤ) → FitsSigned w64 b → cast_unsigned w64 b ≡ 0 → b ≡ pos 0
is-zero b h e = sym (to_z-of_z w64 b h) ∙ ap (to_z w64) e

pub div_zero : (a b : ℤ) → FitsSigned w64 b → cast_unsigned w64 b ≡ 0 → div_of a b ≡ Err DivisionByZero
div_zero a b h e = rw (is-zero b h e) (div-zero a)

pub rem_zero : (a b : ℤ) → FitsSigned w64 b → cast_unsigned w64 b ≡ 0 → rem_of a b ≡ Err RemainderByZero
rem_zero a b h e = rw (is-zero b h e) (rem-zero a)

-- what the functions' proofs cite
pub ruleset answers = (add-answer, sub-answer, mul-answer, neg_answer, checked, divided, remains, div_zero, rem_zero)
