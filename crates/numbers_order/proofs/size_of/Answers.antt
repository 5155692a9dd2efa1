-- `size_of` meets its contract, case by case by `SizeLaws`. Assumes nothing.
use mathlib.Core.Path.{◌≡◌, sym, ap, ◌∙◌}
use Prim.Native.Nat.{ℕ, suc, ◌-◌, ◌/◌, ◌%◌, ◌^◌, ◌<◌}
use native.Mathlib.Nat.{mod-lt}
use native.Mathlib.Omega.{arith}
use lib.Dec.{lit<}
use Rattle.numbers.specs.Double.{size_of, units}
use Rattle.numbers_order.specs.Size.{cut}
use Rattle.numbers_order.proofs.SizeLaws.{size-zero, size_small, size-mixed, size-whole, size-huge}
use Rattle.numbers_order.proofs.size_of.Goals as goal

-- the exponent's field, as a successor where it is not 0
abbrev field : ℕ → ℕ
field b = b % 2 ^ 63 / 2 ^ 52

low : (b : ℕ) → b % 2 ^ 52 < 2 ^ 52
low b = mod-lt b (lit< tt)

at_field : (b f : ℕ) → field b ≡ f → cut (size_of b) ≡ cut (units f (b % 2 ^ 52))
unfolding size_of
at_field b f e = ap (λ (x : ℕ). cut (units x (b % 2 ^ 52))) e

pub returns-then-exponent-eq0 : goal.returns-then-exponent-eq0
returns-then-exponent-eq0 c = sym (at_field c.args.bits 0 c.if-exponent-eq0.true ∙ size-zero (c.args.bits % 2 ^ 52) (low c.args.bits))

pub returns-then-exponent-lt-EXPONENT_OF_ONE : goal.returns-then-exponent-lt-EXPONENT_OF_ONE
returns-then-exponent-lt-EXPONENT_OF_ONE c =
    let e : field c.args.bits ≡ suc (field c.args.bits - 1) = omega (arith, c.if-exponent-eq0.false) in
    sym (at_field c.args.bits (suc (field c.args.bits - 1)) e ∙ size_small (field c.args.bits - 1) (c.args.bits % 2 ^ 52) (low c.args.bits) (omega (arith, c.if-exponent-lt-EXPONENT_OF_ONE.true)))

pub returns-then-exponent-lt-ALL_WHOLE : goal.returns-then-exponent-lt-ALL_WHOLE
returns-then-exponent-lt-ALL_WHOLE c =
    let e : field c.args.bits ≡ suc (field c.args.bits - 1) = omega (arith, c.if-exponent-eq0.false) in
    sym (at_field c.args.bits (suc (field c.args.bits - 1)) e ∙ size-mixed (field c.args.bits - 1) (c.args.bits % 2 ^ 52) (low c.args.bits) (omega (arith, c.if-exponent-lt-EXPONENT_OF_ONE.false)) (omega (arith, c.if-exponent-lt-ALL_WHOLE.true)) (1075 - field c.args.bits) (omega (arith, c.if-exponent-lt-ALL_WHOLE.true)))

pub returns-then-exponent-lt-BEYOND_INTEGERS : goal.returns-then-exponent-lt-BEYOND_INTEGERS
returns-then-exponent-lt-BEYOND_INTEGERS c =
    let e : field c.args.bits ≡ suc (field c.args.bits - 1) = omega (arith, c.if-exponent-eq0.false) in
    sym (at_field c.args.bits (suc (field c.args.bits - 1)) e ∙ size-whole (field c.args.bits - 1) (c.args.bits % 2 ^ 52) (low c.args.bits) (field c.args.bits - 1075) (omega (arith, c.if-exponent-lt-ALL_WHOLE.false)) (omega (arith, c.if-exponent-lt-BEYOND_INTEGERS.true)))

pub returns : goal.returns
returns c =
    let e : field c.args.bits ≡ suc (field c.args.bits - 1) = omega (arith, c.if-exponent-eq0.false) in
    sym (at_field c.args.bits (suc (field c.args.bits - 1)) e ∙ size-huge (field c.args.bits - 1) (c.args.bits % 2 ^ 52) (omega (arith, c.if-exponent-lt-BEYOND_INTEGERS.false)))
