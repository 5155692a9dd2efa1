-- What is shown of a value is the text of the value that is read there: `shown-written`. Assumes nothing.
-- The lemmas compare a text with what is read at a place. That may be no value; they say nothing about such a place.
use Prim.Native.Nat.{ℕ, zero, suc}
use Prim.Native.Char.{code}
use mathlib.Core.Path.{◌≡◌, refl, sym, subst}
use mathlib.Core.List.{List, [], ◌∷◌, ◌++◌}
use Rattle.std.specs.Prelude.{Option, None, Some}
use Rattle.meaning.specs.Options.{bind}
use Rattle.meaning.specs.Value as Meaning
use Rattle.meaning.specs.Value.{null, bool, int, uint, double, string, bytes, Key, scalar, list, map, optional_none, optional_of, cons, count, entry, count_entries, key_scalar, key_in, key_of, scalar_of}
use Rattle.rooms.specs.declared.value.Value.{Value}
use Rattle.rooms.specs.declared.value.CellSpace.{CellSpace}
use Rattle.rooms.specs.Value.{parts_of, nesting_of}
use Rattle.rooms.specs.Rooms.{Rooms, cell_at}
use Rattle.rooms.specs.Reading.{Reader, elements_in, entries_in, read_by, read_to, reading}
use Rattle.rooms_comparison.specs.Seen.{seen_in}
use Rattle.line_pieces.specs.Spelled.{ascii}
use Rattle.line_values.specs.Written.{written_scalar, separator, written, written_values, written_entries}
use Rattle.line_values.specs.Shown.{Show, elements_shown, entries_shown, parts_shown, shown_to, shown_in}

abbrev Shows : Option Meaning.Value → List ℕ → Type 0
Shows None s = Unit {0}
Shows (Some v) s = s ≡ written v

abbrev ShowsKey : Option Key → List ℕ → Type 0
ShowsKey None s = Unit {0}
ShowsKey (Some k) s = s ≡ written_scalar (key_scalar k)

abbrev ShowsValues : Option Meaning.Values → ℕ → List ℕ → Type 0
ShowsValues None n s = Unit {0}
ShowsValues (Some vs) n s = (n ≡ count vs) × (s ≡ written_values vs)

abbrev ShowsEntries : Option Meaning.Entries → ℕ → List ℕ → Type 0
ShowsEntries None n s = Unit {0}
ShowsEntries (Some es) n s = (n ≡ count_entries es) × (s ≡ written_entries es)

-- ---- elements

element-more : (x : Option Meaning.Value) (y : Option Meaning.Values) (n : ℕ) (u t : List ℕ) → Shows x u → ShowsValues y n t → ShowsValues (bind x (λ v. bind y (λ vs. Some (cons v vs)))) (suc n) (u ++ separator n ++ t)
unfolding bind written count
element-more None y n u t e f = tt
element-more (Some v) None n u t e f = tt
element-more (Some v) (Some vs) n u t e f = (λ i. suc (f.0 i), λ i. e i ++ separator (f.0 i) ++ f.1 i)

elements-shown : (f : Reader) (g : Show) (r : Rooms) (s : CellSpace) → ((m : Value) → Shows (f m) (g m)) → (a n : ℕ) → ShowsValues (elements_in f r s a n) n (elements_shown g r s a n)
unfolding elements_in elements_shown written count
elements-shown f g r s h a zero = (refl, refl)
elements-shown f g r s h a (suc n) =
    element-more (f (cell_at r s a)) (elements_in f r s (suc a) n) n (g (cell_at r s a)) (elements_shown g r s (suc a) n) (h (cell_at r s a)) (elements-shown f g r s h (suc a) n)

-- ---- entries

key-shown : (v : Meaning.Value) → ShowsKey (key_of v) (written v)
unfolding bind key_of key_in scalar_of key_scalar written
key-shown (scalar null) = tt
key-shown (scalar (bool b)) = refl
key-shown (scalar (int z)) = refl
key-shown (scalar (uint n)) = refl
key-shown (scalar (double d)) = tt
key-shown (scalar (string s)) = refl
key-shown (scalar (bytes s)) = tt
key-shown (list vs) = tt
key-shown (map es) = tt
key-shown optional_none = tt
key-shown (optional_of v) = tt

key-of : (x : Option Meaning.Value) (u : List ℕ) → Shows x u → ShowsKey (bind x key_of) u
unfolding bind
key-of None u e = tt
key-of (Some v) u e = subst (ShowsKey (key_of v)) (sym e) (key-shown v)

entry_more : (x : Option Key) (y : Option Meaning.Value) (z : Option Meaning.Entries) (n : ℕ) (u t w : List ℕ) → ShowsKey x u → Shows y t → ShowsEntries z n w → ShowsEntries (bind x (λ k. bind y (λ v. bind z (λ es. Some (entry k v es))))) (suc n) (u ++ ascii ": " ++ t ++ separator n ++ w)
unfolding bind written count_entries
entry_more None y z n u t w e f g = tt
entry_more (Some k) None z n u t w e f g = tt
entry_more (Some k) (Some v) None n u t w e f g = tt
entry_more (Some k) (Some v) (Some es) n u t w e f g = (λ i. suc (g.0 i), λ i. e i ++ ascii ": " ++ f i ++ separator (g.0 i) ++ g.1 i)

entries-shown : (f : Reader) (g : Show) (r : Rooms) (s : CellSpace) → ((m : Value) → Shows (f m) (g m)) → (a n : ℕ) → ShowsEntries (entries_in f r s a n) n (entries_shown g r s a n)
unfolding entries_in entries_shown written count_entries
entries-shown f g r s h a zero = (refl, refl)
entries-shown f g r s h a (suc n) =
    entry_more (bind (f (cell_at r s a)) key_of) (f (cell_at r s (suc a))) (entries_in f r s (suc (suc a)) n) n (g (cell_at r s a)) (g (cell_at r s (suc a))) (entries_shown g r s (suc (suc a)) n)
    (key-of (f (cell_at r s a)) (g (cell_at r s a)) (h (cell_at r s a))) (h (cell_at r s (suc a))) (entries-shown f g r s h (suc (suc a)) n)

-- ---- values

list-shown : (x : Option Meaning.Values) (n : ℕ) (s : List ℕ) → ShowsValues x n s → Shows (bind x (λ vs. Some (list vs))) (ascii "List [" ++ s ++ code "]" ∷ [])
unfolding bind written
list-shown None n s e = tt
list-shown (Some vs) n s e = λ i. ascii "List [" ++ e.1 i ++ code "]" ∷ []

map-shown : (x : Option Meaning.Entries) (n : ℕ) (s : List ℕ) → ShowsEntries x n s → Shows (bind x (λ es. Some (map es))) (ascii "Map {" ++ s ++ code "}" ∷ [])
unfolding bind written
map-shown None n s e = tt
map-shown (Some es) n s e = λ i. ascii "Map {" ++ e.1 i ++ code "}" ∷ []

optional-shown : (x : Option Meaning.Value) (s : List ℕ) → Shows x s → Shows (bind x (λ v. Some (optional_of v))) (ascii "Optional of " ++ s)
unfolding bind written
optional-shown None s e = tt
optional-shown (Some v) s e = λ i. ascii "Optional of " ++ e i

value-shown : (f : Reader) (g : Show) (r : Rooms) → ((m : Value) → Shows (f m) (g m)) → (m : Value) → Shows (read_by f r m) (parts_shown g r m (parts_of m))
unfolding seen_in written
value-shown f g r h Value.Null = refl
value-shown f g r h (Value.Bool b) = refl
value-shown f g r h (Value.Int z) = refl
value-shown f g r h (Value.Uint n) = refl
value-shown f g r h (Value.Double x) = refl
value-shown f g r h (Value.Nan b) = refl
value-shown f g r h (Value.String sp) = refl
value-shown f g r h (Value.Bytes sp) = refl
value-shown f g r h (Value.List d ro) = list-shown (elements_in f r ro.space ro.first ro.length) ro.length (elements_shown g r ro.space ro.first ro.length) (elements-shown f g r ro.space h ro.first ro.length)
value-shown f g r h (Value.Map d ro) = map-shown (entries_in f r ro.space ro.first ro.length) ro.length (entries_shown g r ro.space ro.first ro.length) (entries-shown f g r ro.space h ro.first ro.length)
value-shown f g r h Value.OptionalNone = refl
value-shown f g r h (Value.OptionalOf d s a) = optional-shown (f (cell_at r s a)) (g (cell_at r s a)) (h (cell_at r s a))
value-shown f g r h Value.Absent = tt

read-shown : (n : ℕ) (r : Rooms) (m : Value) → Shows (read_to n r m) (shown_to n r m)
unfolding read_to shown_to
read-shown zero r m = tt
read-shown (suc n) r m = value-shown (λ part. read_to n r part) (λ part. shown_to n r part) r (read-shown n r) m

-- the text of a value that reads as v is v's
pub shown-written : (r : Rooms) (m : Value) (v : Meaning.Value) → reading r m ≡ Some v → shown_in r m ≡ written v
unfolding reading shown_in
shown-written r m v h = subst (λ x. Shows x (shown_to (suc (nesting_of m)) r m)) h (read-shown (suc (nesting_of m)) r m)
