-- What may be there or not, handed on.
use Rattle.std.specs.Prelude.{Option, None, Some}

-- what f makes of the value, if there is one
unfoldable pub bind : {A B : Type 0} → Option A → (A → Option B) → Option B
bind None f = None
bind (Some x) f = f x
