-- The rules write what they should, on the smallest example with an operand: `!true`. Assumes nothing.
use mathlib.Core.Path.{refl}
use mathlib.Core.List.{[], ◌∷◌}
use mathlib.Core.Bool.{true}
use native.Mathlib.Omega.{arith}
use Rattle.meaning.specs.Value.{bool}
use Rattle.meaning.specs.Expr.{not_op, unary, literal}
use Rattle.meaning_laws.specs.Written.{Spells}

-- 08 08 00 01 01 04 00 01 spells `!true`, with the root at byte 0 and its operand at byte 4.
pub not-true : Spells (8 ∷ 8 ∷ 0 ∷ 1 ∷ 1 ∷ 4 ∷ 0 ∷ 1 ∷ []) [] (unary 0 not_op (literal 4 (bool true)))
not-true = record {
  written = record {
    here = refl;
    rest = 1 ∷ 4 ∷ 0 ∷ 1 ∷ [];
    bytes = refl;
    fit = (omega arith, (omega arith, tt));
    follow = record { here = refl; rest = []; bytes = refl; fit = (omega arith, (omega arith, tt)); follow = refl };
  };
  at_least = omega arith;
  at_most = omega arith;
  nests = omega arith;
}
