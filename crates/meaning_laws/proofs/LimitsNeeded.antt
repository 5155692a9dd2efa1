-- Why values are well formed under limits only: without them a list may have more elements than an Int counts, and its size is no Int.
-- Rests on nothing but the definition. Assumes nothing.
use Prim.Native.Nat.{◌^◌}
use mathlib.Core.Path.{◌≡◌, refl}
use mathlib.Core.Bool.{false}
use Rattle.std.specs.Prelude.{Some}
use lib.IntN.{pos}
use Rattle.numbers.specs.Int.{in_range}
use Rattle.meaning.specs.Value.{int, scalar, list, Values, count}
use Rattle.meaning.specs.Expr.{name, call, size_call}
use Rattle.meaning.specs.Run.{value, begin, charged, here, placed, operand, from_operand, or_fail, pure, after, on_value, ◌>>=◌}
use Rattle.meaning.specs.Calls.{counted, size_rule, call_rule}
use Rattle.meaning.specs.Comprehension.{Scope}
use Rattle.meaning.specs.Meaning.{of_one, run}

-- size(x) of a list of 2 ^ 63 elements, with no limits
pub size-out-of-range : (s : Scope) (vs : Values) → s 0 ≡ Some (list vs) → count vs ≡ 2 ^ 63
    → ((run (call 0 size_call (name 4 0)) s).1 ≡ value (scalar (int (pos (2 ^ 63))))) × (in_range (pos (2 ^ 63)) ≡ false)
unfolding run begin charged here placed of_one operand from_operand or_fail pure after on_value ◌>>=◌ call_rule size_rule counted
size-out-of-range s vs e n = (rw (e, n), refl)
