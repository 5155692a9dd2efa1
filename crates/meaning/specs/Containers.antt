-- Module 8, containers: what a List record and a Map record build. Both take their cells as they begin and fill them as parts become
-- ready. So what was ready is known also where an error ends the making.
use Rattle.std.specs.Prelude.{ℕ, zero, suc, ◌*◌, [], ◌∷◌, Bool, true, false, Option, None, Some}
use Rattle.meaning.specs.Errors.{DuplicateKey, UnsupportedKeyType}
use Rattle.meaning.specs.Value.{null, Key, Value, scalar, list, map, Values, nil, cons, Entries, empty, entry, join, add_entry, key_scalar, key_of, nesting}
use Rattle.meaning.specs.Comparison.{find, compared}
use Rattle.meaning.specs.Optionals.{Unwrapped, NotOptional, PresentOptional, NoneOptional, unwrap_optional}
use Rattle.meaning.specs.Run.{cells, nest, Result, value, error, Raised, Run, Eval, Rule, pure, charged, after, ◌>>=◌, fail, or_fail, operand}

-- ---- in the making

-- an error comes with what was ready
abbrev pub Making : Type 0 → Type 0
Making A = Run (A × Raised) A

unfoldable pub keeping : {A B : Type 0} → A → Result Raised B → Result (A × Raised) B
keeping ready (value b) = value b
keeping ready (error e) = error (ready, e)

-- a part of the making, begun when `ready` was ready
unfoldable pub having : {A B : Type 0} → A → Rule B → Run (A × Raised) B
having ready r = (r.0, keeping ready r.1)

unfoldable pub ready_in : {A : Type 0} → Result (A × Raised) A → A
ready_in (value a) = a
ready_in (error e) = e.0

-- ---- marks

unfoldable pub unmarked : Unwrapped → Option Value
unmarked (NotOptional v) = Some v
unmarked (PresentOptional v) = Some v
unmarked NoneOptional = None

-- what an element or an entry's value adds; without a mark, itself
unfoldable pub kept : (marked : Bool) → Value → Option Value
kept true v = unmarked (unwrap_optional v)
kept false v = Some v

-- ---- elements

unfoldable pub append : Values → Option Value → Values
append vs None = vs
append vs (Some v) = join vs (cons v nil)

-- one element, then the rest
unfoldable pub element_rule : (marked : Bool) → Eval Value → (Values → Making Values) → Values → Making Values
element_rule marked element rest vs = do
  v ← having vs (operand element)
  rest (append vs (kept marked v))

-- ---- entries

unfoldable pub add_new : Entries → Key → Value → Option Value → Rule Entries
add_new es k v None = pure (add_entry es k v)
add_new es k v (Some w) = fail DuplicateKey

-- a marked none adds nothing, and is not tested
unfoldable pub insert : Entries → Key → Option Value → Rule Entries
insert es k None = pure es
insert es k (Some v) = do
  found ← compared (find (key_scalar k) es)
  add_new es k v found

-- key, its kind, value, the duplicate test
unfoldable pub entry_rule : (marked : Bool) → Eval Value → Eval Value → Entries → Rule Entries
entry_rule marked key element es = do
  v ← operand key
  k ← or_fail UnsupportedKeyType (key_of v)
  w ← operand element
  insert es k (kept marked w)

-- one entry, then the rest
unfoldable pub pair_rule : (marked : Bool) → Eval Value → Eval Value → (Entries → Making Entries) → Entries → Making Entries
pair_rule marked key element rest es = do
  more ← having es (entry_rule marked key element es)
  rest more

-- ---- the records

-- n cells: those given, then Null
unfoldable pub pad : ℕ → Values → Values
pad zero vs = nil
pad (suc n) nil = cons (scalar null) (pad n nil)
pad (suc n) (cons v vs) = cons v (pad n vs)

-- a key's cell, then its value's
abbrev pub cells_an_entry : ℕ
cells_an_entry = 2

unfoldable pub entry_cells : Entries → Values
entry_cells empty = nil
entry_cells (entry k v es) = cons (scalar (key_scalar k)) (cons v (entry_cells es))

-- the parts, whole as one value, or the error that ended their making
unfoldable pub finished : {A : Type 0} → (A → Value) → Result (A × Raised) A → Rule A
finished container (value a) = charged (nest (nesting (container a)) ∷ []) (pure a)
finished container (error e) = ([], error e.1)

-- a record of n elements, and one of n pairs: cells as it begins, nesting when it is whole
unfoldable pub list_rule : ℕ → Making Values → Rule Values
list_rule n making = charged (cells (pad n (ready_in making.1)) ∷ []) (after making (finished list))

unfoldable pub map_rule : ℕ → Making Entries → Rule Entries
map_rule n making = charged (cells (pad (cells_an_entry * n) (entry_cells (ready_in making.1))) ∷ []) (after making (finished map))

-- the value that the parts make
unfoldable pub into : {A : Type 0} → (A → Value) → Rule A → Rule Value
into container parts = do
  a ← parts
  pure (container a)
