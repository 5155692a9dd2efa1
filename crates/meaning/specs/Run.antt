-- Runs: what evaluation charges, in order, and its result. There is no limit here, so no rule can see one, and exhaustion is no result that a
-- rule could catch. A record's error has a place; a rule knows no place, and the record adds it.
use Rattle.std.specs.Prelude.{ℕ, List, [], ◌∷◌, ◌++◌, Bool, true, false, Option, None, Some}
use Rattle.meaning.specs.Errors.{Error, UnexpectedType, a_bool, ErrorAt}
use Rattle.meaning.specs.Value.{bool, Value, scalar, Values, nesting, bool_of}

-- cells and text are charged together with what they hold once the run has ended in a value
pub data Charge : Type 0 where
  step : Charge
  cells : Values → Charge
  text : List ℕ → Charge
  -- the nesting of a new value
  nest : ℕ → Charge

abbrev pub Trace : Type 0
Trace = List Charge

pub data Result (E A : Type 0) : Type 0 where
  value : A → Result E A
  error : E → Result E A

abbrev pub Run : Type 0 → Type 0 → Type 0
Run E A = Trace × Result E A

-- what a record gives
abbrev pub Eval : Type 0 → Type 0
Eval A = Run ErrorAt A

-- an error of the rule itself, or of an operand's record
pub data Raised : Type 0 where
  by_rule : Error → Raised
  by_operand : ErrorAt → Raised

-- what a rule gives
abbrev pub Rule : Type 0 → Type 0
Rule A = Run Raised A

-- ---- runs one after the other

unfoldable pub pure : {E A : Type 0} → A → Run E A
pure a = ([], value a)

unfoldable pub charged : {E A : Type 0} → Trace → Run E A → Run E A
charged t r = (t ++ r.0, r.1)

-- go on from whatever came
unfoldable pub after : {E F A B : Type 0} → Run E A → (Result E A → Run F B) → Run F B
after r k = charged r.0 (k r.1)

unfoldable pub on_value : {E A B : Type 0} → (A → Run E B) → Result E A → Run E B
on_value k (value a) = k a
on_value k (error e) = ([], error e)

-- go on from a value; an error ends it. This is what `x ← r` means in a `do`
unfoldable pub ◌>>=◌ : {E A B : Type 0} → Run E A → (A → Run E B) → Run E B
◌>>=◌ r k = after r (on_value k)

-- ---- rules and records

unfoldable pub fail : {A : Type 0} → Error → Rule A
fail e = ([], error (by_rule e))

unfoldable pub or_fail : {A : Type 0} → Error → Option A → Rule A
or_fail e None = fail e
or_fail e (Some a) = pure a

unfoldable pub from_operand : {A : Type 0} → Result ErrorAt A → Result Raised A
from_operand (value a) = value a
from_operand (error e) = error (by_operand e)

-- an operand, evaluated for its value
unfoldable pub operand : {A : Type 0} → Eval A → Rule A
operand r = (r.0, from_operand r.1)

unfoldable pub placed : {A : Type 0} → ℕ → Result Raised A → Result ErrorAt A
placed p (value a) = value a
placed p (error (by_rule e)) = error (record { error = e; place = p })
placed p (error (by_operand e)) = error e

-- the rule's own error is an error at p
unfoldable pub here : {A : Type 0} → ℕ → Rule A → Eval A
here p r = (r.0, placed p r.1)

-- the record at p: a step, then its rule
unfoldable pub begin : {A : Type 0} → ℕ → Rule A → Eval A
begin p r = charged (step ∷ []) (here p r)

-- ---- what many rules share

unfoldable pub truth : Bool → Rule Value
truth b = pure (scalar (bool b))

-- an operand that has to be a Bool
unfoldable pub try_bool : Eval Value → Rule Bool
try_bool r = do
  v ← operand r
  or_fail (UnexpectedType a_bool) (bool_of v)

-- the first if it is true, else the second
unfoldable pub choose : {A : Type 0} → Rule A → Rule A → Bool → Rule A
choose r s true = r
choose r s false = s

-- a value built at once: its cells, then its nesting
unfoldable pub built : Values → Value → Rule Value
built ws v = charged (cells ws ∷ nest (nesting v) ∷ []) (pure v)
