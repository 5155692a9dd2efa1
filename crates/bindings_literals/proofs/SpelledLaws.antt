-- What the code finds of a table's keys is what the definition's spelling finds; and what the spelled value is, part by part, with the cells
-- and the bytes that it takes. Assumes nothing.
use Prim.Native.Nat.{ℕ}
use mathlib.Core.Path.{◌≡◌, refl, sym, ap, ◌∙◌}
use mathlib.Core.List.{List, [], ◌∷◌, ◌++◌}
use Rattle.std.specs.Option.{option_or}
use Rattle.std.specs.Prelude.{Option, None, Some}
use mathlib.Core.Bool.{Bool, true, false, not, ◌&&◌, ◌||◌, cond}
use native.Mathlib.Omega.{arith}
use Rattle.meaning.specs.declared.refusal.Reason.TheVariants.{UnsoundBinding}
use Rattle.meaning.specs.Value.{Scalar, null, bool, int, uint, double, string, bytes, Key, int_key, uint_key, bool_key, string_key, key_scalar, key_in, Value, scalar, list, map, Values, nil, cons, Entries, empty, entry, add_entry}
use Rattle.meaning.specs.Comparison.{scalar_equal, tick, find}
use Rattle.meaning.specs.Maps.{is_found}
use Rattle.meaning.specs.Expr.{Expr, literal, name, unary, binary, conditional, select, list_of, map_of, comprehension, call, none_call, or_value, Elements, no_elements, element, marked_element, Pairs, no_pairs, pair, marked_pair}
use Rattle.meaning.specs.Heads.{Got, got, refused, ◌>>=◌, ◌>>◌, demand}
use Rattle.meaning.specs.Bindings as meant
use Rattle.meaning.specs.Bindings.{text_bytes, cells_of, bytes_of}
use Rattle.meaning.specs.Spelling.{Literal, scalar_at, list_at, map_at, Literals, no_literals, literals, LiteralPairs, no_literal_pairs, literal_pairs, literal_of, literals_of, literal_pairs_of, new_key, key_literal, spelled, spelled_elements, spelled_entries}
use Rattle.meaning_laws.specs.Each.{Reads}
use Rattle.meaning_laws.proofs.Reading.{reads-got, reads-refused, reads-bind, reads_then, reads-demand, reads-weaker, was_read}
use Rattle.table_check.specs.Fits.{is_some}
use Rattle.bindings_literals.specs.Literals.{literal_in, literals_in, literal_pairs_in}
use Rattle.bindings_literals.specs.Judging.{fault_in, matches, is_among, key_fault, keys_in, keys_among, keys_over, cells_for, cells_among, cells_over, bytes_for, bytes_among, bytes_over}
use Rattle.bindings_literals.proofs.JudgeLaws.{fault-map}

-- ---- a table of literals is what its records are

mutual
  unfolding literal_of literal_in

  pub literal-in : (e : Expr) → Reads (λ l. literal_in e ≡ l) (literal_of e)
  literal-in (literal p x) = reads-got _ refl
  literal-in (name p n) = reads-refused
  literal-in (unary p o e) = reads-refused
  literal-in (binary p o e f) = reads-refused
  literal-in (conditional p c e f) = reads-refused
  literal-in (select p test field e) = reads-refused
  literal-in (list_of p es) = reads-bind (literals-in es) (λ ls f. reads-got _ (ap (λ (m : Literals). list_at p m) f))
  literal-in (map_of p ps) = reads-bind (pairs-in ps) (λ ls f. reads-got _ (ap (λ (m : LiteralPairs). map_at p m) f))
  literal-in (comprehension p a i range init condition step result) = reads-refused
  literal-in (call p f e) = reads-refused
  literal-in (none_call p) = reads-refused
  literal-in (or_value p e f) = reads-refused

  literals-in : (es : Elements) → Reads (λ ls. literals_in es ≡ ls) (literals_of es)
  literals-in no_elements = reads-got _ refl
  literals-in (element e es) = reads-bind (literal-in e) (λ l f. reads-bind (literals-in es) (λ ls g. reads-got _ (λ i. literals (f i) (g i))))
  literals-in (marked_element p e es) = reads-refused

  pairs-in : (ps : Pairs) → Reads (λ ls. literal_pairs_in ps ≡ ls) (literal_pairs_of ps)
  pairs-in no_pairs = reads-got _ refl
  pairs-in (pair k e ps) =
      reads-bind (literal-in k) (λ l f. reads-bind (literal-in e) (λ m g. reads-bind (pairs-in ps) (λ ls h. reads-got _ (λ i. literal_pairs (f i) (g i) (h i)))))
  pairs-in (marked_pair k p e ps) = reads_then (literal_of k) reads-refused

-- ---- keys

-- those before are the keys of the entries so far
abbrev Matching : List Literal → Entries → Type 0
Matching before es = (x : Scalar) → is_among x before ≡ is_found (find x es).1

or-false : (b : Bool) → (b || false) ≡ b
or-false true = refl
or-false false = refl

or-again : (a b c : Bool) → ((a || b) || c) ≡ (a || (b || c))
or-again true b c = refl
or-again false b c = refl

among-added : (x : Scalar) (ls : List Literal) (l : Literal) → is_among x (ls ++ (l ∷ [])) ≡ (is_among x ls || matches x l)
unfolding is_among
among-added x [] l = or-false (matches x l)
among-added x (m ∷ ls) l = ap (λ b. matches x m || b) (among-added x ls l) ∙ sym (or-again (matches x m) (is_among x ls) (matches x l))

found-cond : (b : Bool) (v : Value) (o : ℕ × Option Value) → is_found (tick (cond b (0, Some v) o)).1 ≡ (b || is_found o.1)
unfolding is_found tick
found-cond true v o = refl
found-cond false v o = refl

found-added : (x : Scalar) (es : Entries) (k : Key) (v : Value) → is_found (find x (add_entry es k v)).1 ≡ (is_found (find x es).1 || scalar_equal x (key_scalar k))
unfolding find add_entry is_found
found-added x empty k v = found-cond (scalar_equal x (key_scalar k)) v (0, None) ∙ or-false (scalar_equal x (key_scalar k))
found-added x (entry j w es) k v =
    found-cond (scalar_equal x (key_scalar j)) w (find x (add_entry es k v))
    ∙ (ap (λ b. scalar_equal x (key_scalar j) || b) (found-added x es k v)
    ∙ (sym (or-again (scalar_equal x (key_scalar j)) (is_found (find x es).1) (scalar_equal x (key_scalar k)))
    ∙ ap (λ b. b || scalar_equal x (key_scalar k)) (sym (found-cond (scalar_equal x (key_scalar j)) w (find x es)))))

matching-added : (before : List Literal) (es : Entries) (p : ℕ) (k : Key) (v : Value) → Matching before es →
    Matching (before ++ (scalar_at p (key_scalar k) ∷ [])) (add_entry es k v)
unfolding matches
matching-added before es p k v m x =
    among-added x before (scalar_at p (key_scalar k)) ∙ (ap (λ b. b || scalar_equal x (key_scalar k)) (m x) ∙ sym (found-added x es k v))

key-scalar : (x : Scalar) (k : Key) → key_in x ≡ Some k → x ≡ key_scalar k
unfolding key_in key_scalar
key-scalar null k e = let z : ◌≡◌ {A = ℕ} 0 1 = cc in absurd (omega arith)
key-scalar (bool b) k e = let f : bool_key b ≡ k = cc in ap key_scalar f
key-scalar (int z) k e = let f : int_key z ≡ k = cc in ap key_scalar f
key-scalar (uint n) k e = let f : uint_key n ≡ k = cc in ap key_scalar f
key-scalar (double d) k e = let z : ◌≡◌ {A = ℕ} 0 1 = cc in absurd (omega arith)
key-scalar (string s) k e = let f : string_key s ≡ k = cc in ap key_scalar f
key-scalar (bytes s) k e = let z : ◌≡◌ {A = ℕ} 0 1 = cc in absurd (omega arith)

demanded : (b : Bool) (p : ℕ) (k : Key) → fault_in (◌>>◌ (demand (not b) UnsoundBinding p) (got k)) ≡ cond (not b) None (Some p)
unfolding demand ◌>>◌ ◌>>=◌
demanded true p k = refl
demanded false p k = refl

new-fault : (before : List Literal) (es : Entries) → Matching before es → (p : ℕ) (x : Scalar) (o : Option Key) → key_in x ≡ o →
    fault_in (new_key es p o) ≡ cond (is_some o && not (is_among x before)) None (Some p)
unfolding new_key
new-fault before es m p x None e = refl
new-fault before es m p x (Some k) e =
    let f : is_found (find (key_scalar k) es).1 ≡ is_among x before = ap (λ (y : Scalar). is_found (find y es).1) (sym (key-scalar x k e)) ∙ sym (m x) in
    demanded (is_found (find (key_scalar k) es).1) p k ∙ ap (λ b. cond (not b) None (Some p)) f

key-fault : (before : List Literal) (es : Entries) → Matching before es → (l : Literal) → fault_in (key_literal es l) ≡ key_fault before l
unfolding key_literal key_fault
key-fault before es m (scalar_at p x) = new-fault before es m p x (key_in x) refl
key-fault before es m (list_at p ls) = refl
key-fault before es m (map_at p ls) = refl

-- a key that is read is a scalar
abbrev KeyAt : Literal → Key → Type 0
KeyAt l k = (p : ℕ) × (l ≡ scalar_at p (key_scalar k))

new-read : (es : Entries) (p : ℕ) (x : Scalar) (o : Option Key) → key_in x ≡ o → Reads (λ k. KeyAt (scalar_at p x) k) (new_key es p o)
unfolding new_key
new-read es p x None e = reads-refused
new-read es p x (Some k) e = reads-demand _ UnsoundBinding p (λ d. reads-got k (p, ap (λ (y : Scalar). scalar_at p y) (key-scalar x k e)))

key-read : (es : Entries) (l : Literal) → Reads (λ k. KeyAt l k) (key_literal es l)
unfolding key_literal
key-read es (scalar_at p x) = new-read es p x (key_in x) refl
key-read es (list_at p ls) = reads-refused
key-read es (map_at p ls) = reads-refused

-- ---- the first fault of the keys

fault-bind : {A B : Type 0} (g : Got A) (k : A → Got B) (f h : Option ℕ) → fault_in g ≡ f → ((a : A) → g ≡ got a → fault_in (k a) ≡ h) →
    fault_in (◌>>=◌ g k) ≡ option_or f h
unfolding ◌>>=◌
fault-bind (got a) k f h e i = rw (← e) (i a refl)
fault-bind (refused r p) k f h e i = rw (← e)

nothing : (x : Scalar) → is_among x [] ≡ is_found (find x empty).1
unfolding is_among find is_found
nothing x = refl

mutual
  unfolding spelled keys_in

  pub spelled-fault : (l : Literal) → fault_in (spelled l) ≡ keys_in l
  spelled-fault (scalar_at p x) = refl
  spelled-fault (list_at p ls) = fault-map (spelled_elements ls) (λ vs. list vs) ∙ elements-fault ls
  spelled-fault (map_at p ls) = fault-map (spelled_entries ls empty) (λ es. map es) ∙ entries-fault ls [] empty (λ x. nothing x)

  elements-fault : (ls : Literals) → fault_in (spelled_elements ls) ≡ keys_among ls
  elements-fault no_literals = refl
  elements-fault (literals l ls) =
      fault-bind (spelled l) _ (keys_in l) (keys_among ls) (spelled-fault l) (λ v e. fault-map (spelled_elements ls) (λ vs. cons v vs) ∙ elements-fault ls)

  entries-fault : (ls : LiteralPairs) (before : List Literal) (es : Entries) → Matching before es → fault_in (spelled_entries ls es) ≡ keys_over before ls
  entries-fault no_literal_pairs before es m = refl
  entries-fault (literal_pairs l n ls) before es m =
      fault-bind (key_literal es l) _ (key_fault before l) (option_or (keys_in l) (option_or (keys_in n) (keys_over (before ++ (l ∷ [])) ls))) (key-fault before es m l)
      (λ k e. let a = was_read (key-read es l) e in
      rw a.1
      (fault-bind (spelled n) _ (keys_in n) (keys_over (before ++ (scalar_at a.0 (key_scalar k) ∷ [])) ls) (spelled-fault n)
      (λ v f. entries-fault ls (before ++ (scalar_at a.0 (key_scalar k) ∷ [])) (add_entry es k v) (matching-added before es a.0 k v m))))

-- ---- the value, part by part

-- one after the other
unfoldable pub join_entries : Entries → Entries → Entries
join_entries empty fs = fs
join_entries (entry k v es) fs = entry k v (join_entries es fs)

mutual
  pub data Spells : Literal → Value → Type 0 where
    spells_scalar : (p : ℕ) (x : Scalar) → Spells (scalar_at p x) (scalar x)
    spells_list : (p : ℕ) {ls : Literals} {vs : Values} → SpellsAll ls vs → Spells (list_at p ls) (list vs)
    spells_map : (p : ℕ) {ls : LiteralPairs} {es : Entries} → SpellsPairs ls es → Spells (map_at p ls) (map es)

  pub data SpellsAll : Literals → Values → Type 0 where
    spells_none : SpellsAll no_literals nil
    spells_more : {l : Literal} {v : Value} {ls : Literals} {vs : Values} → Spells l v → SpellsAll ls vs → SpellsAll (literals l ls) (cons v vs)

  pub data SpellsPairs : LiteralPairs → Entries → Type 0 where
    spells_no_pairs : SpellsPairs no_literal_pairs empty
    spells_pair : (p : ℕ) (x : Scalar) (k : Key) {m : Literal} {v : Value} {ls : LiteralPairs} {es : Entries} → x ≡ key_scalar k → Spells m v →
        SpellsPairs ls es → SpellsPairs (literal_pairs (scalar_at p x) m ls) (entry k v es)

join-empty : (es : Entries) → es ≡ join_entries es empty
unfolding join_entries
join-empty empty = refl
join-empty (entry k v es) = ap (λ (fs : Entries). entry k v fs) (join-empty es)

join_added : (es : Entries) (k : Key) (v : Value) (fs : Entries) → join_entries (add_entry es k v) fs ≡ join_entries es (entry k v fs)
unfolding join_entries add_entry
join_added empty k v fs = refl
join_added (entry j w es) k v fs = ap (λ (gs : Entries). entry j w gs) (join_added es k v fs)

abbrev Behind : Entries → LiteralPairs → Entries → Type 0
Behind es ls gs = (fs : Entries) × (gs ≡ join_entries es fs) × SpellsPairs ls fs

mutual
  unfolding spelled join_entries

  pub spelled-spells : (l : Literal) → Reads (λ v. Spells l v) (spelled l)
  spelled-spells (scalar_at p x) = reads-got _ (spells_scalar p x)
  spelled-spells (list_at p ls) = reads-bind (elements-spell ls) (λ vs f. reads-got _ (spells_list p f))
  spelled-spells (map_at p ls) = reads-bind (entries-spell ls empty) (λ es f. reads-got _ (rw f.1 (spells_map p f.2)))

  elements-spell : (ls : Literals) → Reads (λ vs. SpellsAll ls vs) (spelled_elements ls)
  elements-spell no_literals = reads-got _ spells_none
  elements-spell (literals l ls) = reads-bind (spelled-spells l) (λ v f. reads-bind (elements-spell ls) (λ vs g. reads-got _ (spells_more f g)))

  entries-spell : (ls : LiteralPairs) (es : Entries) → Reads (λ gs. Behind es ls gs) (spelled_entries ls es)
  entries-spell no_literal_pairs es = reads-got _ (empty, join-empty es, spells_no_pairs)
  entries-spell (literal_pairs l m ls) es =
      reads-bind (key-read es l)
      (λ k a. reads-bind (spelled-spells m)
      (λ v f. reads-weaker (λ gs b. (entry k v b.0, b.1 ∙ join_added es k v b.0, rw a.1 (spells_pair a.0 (key_scalar k) k refl f b.2))) (entries-spell ls (add_entry es k v))))

-- ---- what it takes

mutual
  unfolding cells_of cells_for cells_among cells_over

  pub spells-cells : {l : Literal} {v : Value} → Spells l v → cells_of v ≡ cells_for l
  spells-cells (spells_scalar p x) = refl
  spells-cells (spells_list p s) = all-cells s
  spells-cells (spells_map p s) = pairs-cells s

  all-cells : {ls : Literals} {vs : Values} → SpellsAll ls vs → meant.cells_in vs ≡ cells_among ls
  all-cells spells_none = refl
  all-cells (spells_more s r) = let e = spells-cells s in let f = all-cells r in omega arith

  pairs-cells : {ls : LiteralPairs} {es : Entries} → SpellsPairs ls es → meant.cells_over es ≡ cells_over ls
  pairs-cells spells_no_pairs = refl
  pairs-cells (spells_pair p x k q s r) = let e = spells-cells s in let f = pairs-cells r in omega arith

mutual
  unfolding bytes_of bytes_for bytes_among bytes_over

  pub spells-bytes : {l : Literal} {v : Value} → Spells l v → bytes_of v ≡ bytes_for l
  spells-bytes (spells_scalar p x) = refl
  spells-bytes (spells_list p s) = all-bytes s
  spells-bytes (spells_map p s) = pairs-bytes s

  all-bytes : {ls : Literals} {vs : Values} → SpellsAll ls vs → meant.bytes_in vs ≡ bytes_among ls
  all-bytes spells_none = refl
  all-bytes (spells_more s r) = let e = spells-bytes s in let f = all-bytes r in omega arith

  pairs-bytes : {ls : LiteralPairs} {es : Entries} → SpellsPairs ls es → meant.bytes_over es ≡ bytes_over ls
  pairs-bytes spells_no_pairs = refl
  pairs-bytes (spells_pair p x k q s r) = let d = ap text_bytes q in let e = spells-bytes s in let f = pairs-bytes r in omega arith
