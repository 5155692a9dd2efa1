-- What a binding's table spells is a well-formed value: its literals are sound, no two keys of a map match, and it nests no deeper than
-- its lists and maps do. Rests on MatchingKeys and Reading. Assumes nothing.
use Prim.Native.Nat.{ℕ, max, ◌≤◌}
use mathlib.Core.Path.{◌≡◌, refl}
use Rattle.std.specs.Prelude.{Option, None, Some}
use mathlib.Core.Bool.{true, not}
use native.Mathlib.Omega.{arith}
use borrow.Author.Tests.{leb-true}
use Rattle.meaning.specs.Limits.{deepest_value}
use Rattle.meaning.specs.Value.{Scalar, null, bool, int, uint, double, string, bytes, Key, key_scalar, key_in, Value, Entries, empty, entry, add_entry, nesting, nesting_in, nesting_over}
use Rattle.meaning.specs.Expr.{Expr, literal, name, unary, binary, conditional, select, list_of, map_of, comprehension, call, none_call, or_value, Elements, no_elements, element, marked_element, Pairs, no_pairs, pair, marked_pair}
use Rattle.meaning.specs.Comparison.{find}
use Rattle.meaning.specs.Maps.{is_found}
use Rattle.meaning.specs.Spelling.{Literal, scalar_at, list_at, map_at, Literals, no_literals, literals, LiteralPairs, no_literal_pairs, literal_pairs, literal_of, literals_of, literal_pairs_of, literal_nesting, literals_nesting, literal_pairs_nesting, new_key, key_literal, spelled, spelled_elements, spelled_entries, spelled_root}
use Rattle.meaning.specs.WellFormed.{SoundScalar, Sound, SoundElements, SoundEntries, WellFormed}
use Rattle.meaning_laws.specs.Formed.{Formed, FormedElements, FormedPairs}
use Rattle.meaning_laws.specs.Each.{Reads}
use Rattle.meaning_laws.proofs.MatchingKeys.{not_found, added-not-found}
use Rattle.meaning_laws.proofs.Fine.{Perhaps}
use Rattle.meaning_laws.proofs.Reading.{reads-got, reads-refused, reads-bind, reads_then, reads-demand, reads-weaker}

-- ---- literals

abbrev mutual
  pub SoundLiteral : Literal → Type 0
  SoundLiteral (scalar_at p x) = SoundScalar x
  SoundLiteral (list_at p ls) = SoundLiterals ls
  SoundLiteral (map_at p ls) = SoundLiteralPairs ls

  pub SoundLiterals : Literals → Type 0
  SoundLiterals no_literals = Unit {0}
  SoundLiterals (literals l ls) = SoundLiteral l × SoundLiterals ls

  pub SoundLiteralPairs : LiteralPairs → Type 0
  SoundLiteralPairs no_literal_pairs = Unit {0}
  SoundLiteralPairs (literal_pairs l m ls) = SoundLiteral l × SoundLiteral m × SoundLiteralPairs ls

mutual
  unfolding literal_of

  -- A binding made of formed literals is made of sound ones.
  pub literal-sound : (e : Expr) → Formed e → Reads SoundLiteral (literal_of e)
  literal-sound (literal p x) w = reads-got _ w.0
  literal-sound (name p n) w = reads-refused
  literal-sound (unary p o e) w = reads-refused
  literal-sound (binary p o e f) w = reads-refused
  literal-sound (conditional p c e f) w = reads-refused
  literal-sound (select p test field e) w = reads-refused
  literal-sound (list_of p es) w = reads-bind (literals-sound es w) (λ ls f. reads-got _ f)
  literal-sound (map_of p ps) w = reads-bind (literal-pairs-sound ps w) (λ ls f. reads-got _ f)
  literal-sound (comprehension p a i range init condition step result) w = reads-refused
  literal-sound (call p f e) w = reads-refused
  literal-sound (none_call p) w = reads-refused
  literal-sound (or_value p e f) w = reads-refused

  literals-sound : (es : Elements) → FormedElements es → Reads SoundLiterals (literals_of es)
  literals-sound no_elements w = reads-got _ tt
  literals-sound (element e es) w = reads-bind (literal-sound e w.0) (λ l f. reads-bind (literals-sound es w.1) (λ ls g. reads-got _ (f, g)))
  literals-sound (marked_element p e es) w = reads-refused

  literal-pairs-sound : (ps : Pairs) → FormedPairs ps → Reads SoundLiteralPairs (literal_pairs_of ps)
  literal-pairs-sound no_pairs w = reads-got _ tt
  literal-pairs-sound (pair k e ps) w =
      reads-bind (literal-sound k w.0)
      (λ l f. reads-bind (literal-sound e w.1) (λ m g. reads-bind (literal-pairs-sound ps w.2) (λ ls h. reads-got _ (f, g, h))))
  literal-pairs-sound (marked_pair k p e ps) w = reads_then (literal_of k) reads-refused

-- ---- keys

abbrev NewKey : Entries → Key → Type 0
NewKey es k = SoundScalar (key_scalar k) × ((find (key_scalar k) es).1 ≡ None)

key-sound : (x : Scalar) → SoundScalar x → Perhaps (λ k. SoundScalar (key_scalar k)) (key_in x)
unfolding key_in key_scalar
key-sound null f = tt
key-sound (bool b) f = f
key-sound (int z) f = f
key-sound (uint n) f = f
key-sound (double d) f = tt
key-sound (string s) f = f
key-sound (bytes s) f = tt

-- what was demanded not to be found is absent
pub was-not-found : (o : Option Value) → not (is_found o) ≡ true → o ≡ None
unfolding is_found
was-not-found None e = refl
was-not-found (Some v) e = cc

new_key-sound : (es : Entries) (p : ℕ) (o : Option Key) → Perhaps (λ k. SoundScalar (key_scalar k)) o → Reads (NewKey es) (new_key es p o)
unfolding new_key
new_key-sound es p None h = reads-refused
new_key-sound es p (Some k) h = reads-demand _ _ p (λ e. reads-got k (h, was-not-found (find (key_scalar k) es).1 e))

key_literal-sound : (es : Entries) (l : Literal) → SoundLiteral l → Reads (NewKey es) (key_literal es l)
unfolding key_literal
key_literal-sound es (scalar_at p x) h = new_key-sound es p (key_in x) (key-sound x h)
key_literal-sound es (list_at p ls) h = reads-refused
key_literal-sound es (map_at p ls) h = reads-refused

add-sound : (es : Entries) (k : Key) (v : Value) → SoundEntries es → NewKey es k → Sound v → SoundEntries (add_entry es k v)
unfolding add_entry find
add-sound empty k v f g h = (g.0, h, refl, tt)
add-sound (entry j w es) k v f g h =
    let apart = not_found (key_scalar k) j w es g.1 in
    (f.0, f.1, added-not-found j k v es apart.0 f.2, add-sound es k v f.3 (g.0, apart.1) h)

pub add-nesting : (es : Entries) (k : Key) (v : Value) → nesting_over (add_entry es k v) ≡ max (nesting_over es) (nesting v)
unfolding add_entry nesting_over
add-nesting empty k v = omega arith
add-nesting (entry j w es) k v = let e = add-nesting es k v in omega arith

-- ---- values

mutual
  unfolding spelled nesting literal_nesting

  spelled-sound : (l : Literal) → SoundLiteral l → Reads (λ v. Sound v × (nesting v ≤ literal_nesting l)) (spelled l)
  spelled-sound (scalar_at p x) w = reads-got _ (w, omega arith)
  spelled-sound (list_at p ls) w = reads-bind (spelled-elements-sound ls w) (λ vs f. reads-got _ (f.0, let n = f.1 in omega arith))
  spelled-sound (map_at p ls) w = reads-bind (spelled-entries-sound ls w empty tt) (λ es f. reads-got _ (f.0, let n = f.1 in omega arith))

  spelled-elements-sound : (ls : Literals) → SoundLiterals ls → Reads (λ vs. SoundElements vs × (nesting_in vs ≤ literals_nesting ls)) (spelled_elements ls)
  spelled-elements-sound no_literals w = reads-got _ (tt, omega arith)
  spelled-elements-sound (literals l ls) w =
      reads-bind (spelled-sound l w.0)
      (λ v f. reads-bind (spelled-elements-sound ls w.1) (λ vs g. reads-got _ ((f.0, g.0), let m = f.1 in let n = g.1 in omega arith)))

  spelled-entries-sound : (ls : LiteralPairs) → SoundLiteralPairs ls → (es : Entries) → SoundEntries es
      → Reads (λ fs. SoundEntries fs × (nesting_over fs ≤ max (nesting_over es) (literal_pairs_nesting ls))) (spelled_entries ls es)
  spelled-entries-sound no_literal_pairs w es h = reads-got _ (h, omega arith)
  spelled-entries-sound (literal_pairs l m ls) w es h =
      reads-bind (key_literal-sound es l w.0)
      (λ k f. reads-bind (spelled-sound m w.1)
      (λ v g. reads-weaker (λ fs i. (i.0, let n = i.1 in let d = g.1 in omega (arith, add-nesting es k v)))
      (spelled-entries-sound ls w.2 (add_entry es k v) (add-sound es k v h f g.0))))

-- The value that it spells, if it is not refused, is well formed.
pub spelled-well-formed : (l : Literal) → SoundLiteral l → Reads WellFormed (spelled_root l)
unfolding spelled_root
spelled-well-formed l w =
    reads-demand _ _ _
    (λ e. reads-weaker (λ v f. record { sound = f.0; nests = let n = f.1 in omega (arith, leb-true (literal_nesting l) deepest_value e) }) (spelled-sound l w))
