-- Module 3, maps: look-up in a Map or a List, and `in`.
use Rattle.std.specs.Prelude.{Option, None, Some, Bool, true, false, ℤ, pos, negsuc}
use Rattle.meaning.specs.Options.{bind}
use Rattle.meaning.specs.Errors.{NoOverload, NoSuchKey, IndexOutOfBounds}
use Rattle.meaning.specs.Value.{Scalar, null, bool, int, uint, double, string, bytes, Value, scalar, list, map, optional_none, optional_of, Values, nth, scalar_of}
use Rattle.meaning.specs.Comparison.{find, among, compared}
use Rattle.meaning.specs.Run.{Rule, ◌>>=◌, fail, or_fail, truth}

-- what a map can be asked for
unfoldable pub probe_in : Scalar → Option Scalar
probe_in null = None
probe_in (bool b) = Some (bool b)
probe_in (int z) = Some (int z)
probe_in (uint n) = Some (uint n)
probe_in (double d) = None
probe_in (string s) = Some (string s)
probe_in (bytes s) = None

unfoldable pub probe_of : Value → Option Scalar
probe_of v = bind (scalar_of v) probe_in

-- what a list can be asked for
unfoldable pub position_in : Scalar → Option ℤ
position_in null = None
position_in (bool b) = None
position_in (int z) = Some z
position_in (uint n) = Some (pos n)
position_in (double d) = None
position_in (string s) = None
position_in (bytes s) = None

unfoldable pub position_of : Value → Option ℤ
position_of v = bind (scalar_of v) position_in

unfoldable pub element_at : Values → ℤ → Option Value
element_at vs (pos n) = nth vs n
element_at vs (negsuc n) = None

-- the value in a container at an index or a key
unfoldable pub look_up : Value → Value → Rule Value
look_up (scalar x) i = fail NoOverload
look_up (list vs) i = do
  z ← or_fail NoOverload (position_of i)
  or_fail IndexOutOfBounds (element_at vs z)
look_up (map es) i = do
  x ← or_fail NoOverload (probe_of i)
  found ← compared (find x es)
  or_fail NoSuchKey found
look_up optional_none i = fail NoOverload
look_up (optional_of v) i = fail NoOverload

unfoldable pub is_found : Option Value → Bool
is_found None = false
is_found (Some v) = true

unfoldable pub in_rule : Value → Value → Rule Value
in_rule v (scalar x) = fail NoOverload
in_rule v (list ws) = do
  b ← compared (among v ws)
  truth b
in_rule v (map es) = do
  x ← or_fail NoOverload (probe_of v)
  found ← compared (find x es)
  truth (is_found found)
in_rule v optional_none = fail NoOverload
in_rule v (optional_of w) = fail NoOverload
