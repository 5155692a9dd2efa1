-- A List record of one element without a mark, and the slots that it reads where its element is within reach.
use Rattle.std.specs.Prelude.{ℕ, Option, None, Some}
use Rattle.meaning.specs.Expr.{Expr, literal, name, unary, binary, conditional, select, list_of, map_of, comprehension, call, none_call, or_value, Elements, no_elements, element, marked_element}
use Rattle.eval_shallow.specs.declared.slots.Pair.{Pair}
use Rattle.eval_shallow.specs.Shallow.{reach_of}

-- ---- its element

abbrev pub alone : Expr → Elements → Option Expr
alone e no_elements = Some e
alone e (element f es) = None
alone e (marked_element p f es) = None

abbrev pub only_of : Elements → Option Expr
only_of no_elements = None
only_of (element e es) = alone e es
only_of (marked_element p e es) = None

abbrev pub only_in : Expr → Option Expr
only_in (literal p x) = None
only_in (name p n) = None
only_in (unary p o e) = None
only_in (binary p o e f) = None
only_in (conditional p c e f) = None
only_in (select p t f e) = None
only_in (list_of p es) = only_of es
only_in (map_of p es) = None
only_in (comprehension p a i r s c t e) = None
only_in (call p f e) = None
only_in (none_call p) = None
only_in (or_value p e f) = None

-- ---- the slots

abbrev pub slots_of : Option Expr → Option (Pair (Pair ℕ))
slots_of None = None
slots_of (Some e) = reach_of e

abbrev pub single_of : Expr → Option (Pair (Pair ℕ))
single_of e = slots_of (only_in e)
