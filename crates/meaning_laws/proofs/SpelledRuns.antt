-- What a binding's table spells is what evaluating it gives: the same value, with the bits of its Doubles and the order of its entries, and
-- no value exactly where evaluation ends in an error. And how deep that value nests. Rests on Reading and Spelled. Assumes nothing.
use Prim.Native.Nat.{ℕ, max}
use mathlib.Core.Path.{◌≡◌, refl, sym, ◌∙◌, ap, subst}
use Rattle.std.specs.Prelude.{Option, None, Some}
use Rattle.meaning.specs.Options.{bind}
use mathlib.Core.Bool.{false, not}
use native.Mathlib.Omega.{arith}
use Rattle.meaning.specs.Errors.{ErrorAt, UnsupportedKeyType}
use Rattle.meaning.specs.declared.refusal.Reason.{Reason}
use Rattle.meaning.specs.declared.refusal.Reason.TheVariants.{UnsoundBinding}
use Rattle.meaning.specs.Value.{Key, key_scalar, key_in, key_of, scalar_of, Value, list, map, Values, nil, cons, Entries, empty, join, add_entry, nesting, nesting_in, nesting_over}
use Rattle.meaning.specs.Expr.{Expr, literal, name, unary, binary, conditional, select, list_of, map_of, comprehension, call, none_call, or_value, Elements, no_elements, element, marked_element, Pairs, no_pairs, pair, marked_pair}
use Rattle.meaning.specs.Comparison.{find, compared}
use Rattle.meaning.specs.Maps.{is_found}
use Rattle.meaning.specs.Run.{Result, value, error, Raised, by_rule, by_operand, Run, Eval, Rule, pure, charged, after, on_value, fail, or_fail, from_operand, operand, placed, here, begin}
use Rattle.meaning.specs.Run as Run
use Rattle.meaning.specs.Containers.{keeping, having, kept, append, element_rule, add_new, insert, entry_rule, pair_rule, finished, list_rule, map_rule, into}
use Rattle.meaning.specs.Comprehension.{Scope}
use Rattle.meaning.specs.Meaning.{run, run_elements, run_pairs}
use Rattle.meaning.specs.Heads.{Got, got, refused, ◌>>=◌, ◌>>◌, demand}
use Rattle.meaning.specs.Spelling.{Literal, scalar_at, list_at, map_at, Literals, no_literals, literals, LiteralPairs, no_literal_pairs, literal_pairs, literal_of, literals_of, literal_pairs_of, literal_nesting, literals_nesting, literal_pairs_nesting, new_key, key_literal, spelled, spelled_elements, spelled_entries}
use Rattle.meaning_laws.specs.Each.{Only, Reads}
use Rattle.meaning_laws.proofs.Spelled.{add-nesting}
use Rattle.meaning_laws.proofs.Reading.{reads-got, reads-refused, reads-bind, reads_then, reads-weaker, was_read}

-- ---- spelling beside evaluation

abbrev Comes : {E A B : Type 0} → (A → B) → Got A → Result E B → Type 0
Comes f (got a) r = r ≡ value (f a)
Comes {E} f (refused why p) r = (e : E) × (r ≡ error e)

-- what is spelled comes, through f, as the result's value; where nothing is spelled, the result is an error
record Alike {E A B : Type 0} (f : A → B) (g : Got A) (r : Result E B) : Type 0 where
  comes : Comes f g r

abbrev same : {A : Type 0} → A → A
same a = a

-- one after the other
alike-bind : {E A B C D : Type 0} {f : A → B} {h : C → D} {g : Got A} {k : A → Got C} {x : Result E B} (l : B → Run E D) → Alike f g x
    → ((a : A) → Alike h (k a) (l (f a)).1) → Alike h (◌>>=◌ g k) (on_value l x).1
unfolding ◌>>=◌ on_value
alike-bind {E} {A} {B} {C} {D} {f} {h} {g} {k} {x} l a b = go g a.comes
  where
    go : (y : Got A) → Comes f y x → Alike h (◌>>=◌ y k) (on_value l x).1
    go (got y) e = rw e (b y)
    go (refused why p) e = record { comes = (e.0, rw e.1) }

-- with something done to what is spelled
alike-map : {E A B C : Type 0} {f : A → B} {h : C → B} {g : Got A} {x : Result E B} (k : A → C) → ((a : A) → f a ≡ h (k a)) → Alike f g x
    → Alike h (◌>>=◌ g (λ a. got (k a))) x
unfolding ◌>>=◌
alike-map {E} {A} {B} {C} {f} {h} {g} {x} k equal a = go g a.comes
  where
    go : (y : Got A) → Comes f y x → Alike h (◌>>=◌ y (λ a. got (k a))) x
    go (got y) e = record { comes = e ∙ ap value (equal y) }
    go (refused why p) e = record { comes = e }

-- through what keeps values and keeps errors
record Keeps {E F B : Type 0} (m : Result E B → Result F B) : Type 0 where
  values : (b : B) → m (value b) ≡ value b
  errors : (e : E) → (d : F) × (m (error e) ≡ error d)

alike-through : {E F A B : Type 0} {f : A → B} {g : Got A} {x : Result E B} (m : Result E B → Result F B) → Keeps m → Alike f g x → Alike f g (m x)
alike-through {E} {F} {A} {B} {f} {g} {x} m keeps a = go g a.comes
  where
    go : (y : Got A) → Comes f y x → Alike f y (m x)
    go (got y) e = record { comes = ap m e ∙ keeps.values (f y) }
    go (refused why p) e = record { comes = ((keeps.errors e.0).0, ap m e.1 ∙ (keeps.errors e.0).1) }

operand-keeps : {B : Type 0} → Keeps (from_operand {A = B})
unfolding from_operand
operand-keeps = record { values = λ b. refl; errors = λ e. (_, refl) }

keeping-keeps : {A B : Type 0} (ready : A) → Keeps (keeping {B = B} ready)
unfolding keeping
keeping-keeps ready = record { values = λ b. refl; errors = λ e. (_, refl) }

finished-keeps : {A : Type 0} (container : A → Value) → Keeps (λ x. (finished container x).1)
unfolding finished charged pure
finished-keeps container = record { values = λ b. refl; errors = λ e. (_, refl) }

placed-keeps : {A : Type 0} (p : ℕ) → Keeps (placed {A = A} p)
unfolding placed
placed-keeps {A} p = record { values = λ b. refl; errors = go }
  where
    go : (e : Raised) → (d : ErrorAt) × (placed {A = A} p (error e) ≡ error d)
    go (by_rule e) = (_, refl)
    go (by_operand e) = (_, refl)

-- ---- lists

join_one : (vs : Values) (v : Value) (ws : Values) → join (join vs (cons v nil)) ws ≡ join vs (cons v ws)
unfolding join
join_one nil v ws = refl
join_one (cons u vs) v ws = ap (cons u) (join_one vs v ws)

join-none : (vs : Values) → join vs nil ≡ vs
unfolding join
join-none nil = refl
join-none (cons u vs) = ap (cons u) (join-none vs)

-- a container made of its parts, as its record gives it
whole : {A : Type 0} (container : A → Value) (g : Got A) (x : Result (A × Raised) A) (p : ℕ) → Alike same g x
    → Alike same (◌>>=◌ g (λ a. got (container a))) (placed p (on_value (λ a. pure (container a)) (finished container x).1).1)
unfolding pure
whole container g x p a =
    alike-through (placed p) (placed-keeps p)
    (alike-bind (λ a. pure (container a)) (alike-through (λ y. (finished container y).1) (finished-keeps container) a) (λ a. record { comes = refl }))

-- ---- entries

-- a key's scalar, then the value, then the duplicate test: the two tests of a key come to the same as one test before the value
module _ (es : Entries) (m : Literal) (part : Eval Value) (b : Alike same (spelled m) part.1) where
  abbrev spelled_from : Got Key → Got Entries
  spelled_from g = ◌>>=◌ g (λ k. ◌>>=◌ (spelled m) (λ v. got (add_entry es k v)))

  abbrev run_from : Option Key → Rule Entries
  run_from o = Run.◌>>=◌ (or_fail UnsupportedKeyType o) (λ k. Run.◌>>=◌ (operand part) (λ w. insert es k (kept false w)))

  twice : (k : Key) (w : Value) (n : ℕ) (x : Result ErrorAt Value)
      → (e : Raised) × ((on_value (λ v. Run.◌>>=◌ (compared (n, Some w)) (add_new es k v)) (from_operand x)).1 ≡ error e)
  unfolding Run.◌>>=◌ after charged on_value compared pure from_operand add_new fail
  twice k w n (value v) = (_, refl)
  twice k w n (error e) = (_, refl)

  tested : (k : Key) (p n : ℕ) (o : Option Value)
      → Alike same (spelled_from (◌>>◌ (demand (not (is_found o)) UnsoundBinding p) (got k)))
      (on_value (λ w. Run.◌>>=◌ (compared (n, o)) (add_new es k w)) (from_operand part.1)).1
  unfolding ◌>>=◌ ◌>>◌ demand is_found add_new pure Run.◌>>=◌ after charged on_value compared
  tested k p n None = alike-bind _ (alike-through from_operand operand-keeps b) (λ v. record { comes = refl })
  tested k p n (Some w) = record { comes = twice k w n part.1 }

  from_key : (p : ℕ) (o : Option Key) → Alike same (spelled_from (new_key es p o)) (run_from o).1
  unfolding new_key ◌>>=◌ Run.◌>>=◌ after charged on_value or_fail fail pure operand insert kept
  from_key p None = record { comes = (_, refl) }
  from_key p (Some k) = tested k p (find (key_scalar k) es).0 (find (key_scalar k) es).1

  no_key : {A : Type 0} (container : A → Value) → ((a : A) → key_of (container a) ≡ None) → (key : Eval Value) (g : Got A)
      → Alike same (◌>>=◌ g (λ a. got (container a))) key.1 → (e : Raised) × ((entry_rule false key part es).1 ≡ error e)
  unfolding ◌>>=◌ entry_rule Run.◌>>=◌ after charged on_value operand from_operand or_fail fail
  no_key container never key (got a) x = (by_rule UnsupportedKeyType, rw (x.comes, never a))
  no_key container never key (refused why p) x = (by_operand x.comes.0, rw x.comes.1)

  entry-spelled : (l : Literal) (key : Eval Value) → Alike same (spelled l) key.1
      → Alike same (spelled_from (key_literal es l)) (entry_rule false key part es).1
  unfolding spelled key_literal entry_rule Run.◌>>=◌ after charged on_value operand from_operand key_of scalar_of bind ◌>>=◌
  entry-spelled (scalar_at p x) key a = rw a.comes (from_key p (key_in x))
  entry-spelled (list_at p ls) key a = record { comes = no_key list (λ vs. refl) key (spelled_elements ls) a }
  entry-spelled (map_at p ls) key a = record { comes = no_key map (λ vs. refl) key (spelled_entries ls empty) a }

-- ---- expressions

-- one entry and then the rest, cut either way
cut-spelling : (g : Got Key) (h : Got Value) (f : Key → Value → Entries) (k : Entries → Got Entries)
    → ◌>>=◌ (◌>>=◌ g (λ a. ◌>>=◌ h (λ b. got (f a b)))) k ≡ ◌>>=◌ g (λ a. ◌>>=◌ h (λ b. k (f a b)))
unfolding ◌>>=◌
cut-spelling (got a) (got b) f k = refl
cut-spelling (got a) (refused why p) f k = refl
cut-spelling (refused why p) h f k = refl

module _ (s : Scope) where
  mutual
    unfolding literal_of spelled run into list_rule map_rule element_rule pair_rule begin here having kept append operand Run.◌>>=◌ after charged pure placed join

    run-spelled : (e : Expr) → Reads (λ l. Alike same (spelled l) (run e s).1) (literal_of e)
    run-spelled (literal p x) = reads-got _ (record { comes = refl })
    run-spelled (name p n) = reads-refused
    run-spelled (unary p o e) = reads-refused
    run-spelled (binary p o e f) = reads-refused
    run-spelled (conditional p c e f) = reads-refused
    run-spelled (select p test field e) = reads-refused
    run-spelled (list_of p es) = reads-bind (run-elements es) (λ ls h. reads-got _ (whole list _ _ p (h nil)))
    run-spelled (map_of p ps) = reads-bind (run-pairs ps) (λ ls h. reads-got _ (whole map _ _ p (h empty)))
    run-spelled (comprehension p a i range init condition step result) = reads-refused
    run-spelled (call p f e) = reads-refused
    run-spelled (none_call p) = reads-refused
    run-spelled (or_value p e f) = reads-refused

    run-elements : (es : Elements) → Reads (λ ls. (vs : Values) → Alike (join vs) (spelled_elements ls) (run_elements es s vs).1) (literals_of es)
    run-elements no_elements = reads-got _ (λ vs. record { comes = ap value (sym (join-none vs)) })
    run-elements (element e es) =
        reads-bind (run-spelled e)
        (λ l f. reads-bind (run-elements es)
        (λ ls g. reads-got _
        (λ vs. alike-bind _ (alike-through (keeping vs) (keeping-keeps vs) (alike-through from_operand operand-keeps f))
        (λ v. alike-map (cons v) (join_one vs v) (g (join vs (cons v nil)))))))
    run-elements (marked_element p e es) = reads-refused

    run-pairs : (ps : Pairs) → Reads (λ ls. (es : Entries) → Alike same (spelled_entries ls es) (run_pairs ps s es).1) (literal_pairs_of ps)
    run-pairs no_pairs = reads-got _ (λ es. record { comes = refl })
    run-pairs (pair k e ps) =
        reads-bind (run-spelled k)
        (λ l f. reads-bind (run-spelled e)
        (λ m g. reads-bind (run-pairs ps) (λ ls h. reads-got _
        (λ es. subst (λ (x : Got Entries). Alike same x (run_pairs (pair k e ps) s es).1)
        (cut-spelling (key_literal es l) (spelled m) (add_entry es) (spelled_entries ls))
        (alike-bind _ (alike-through (keeping es) (keeping-keeps es) (entry-spelled es m (run e s) g l (run k s) f)) h)))))
    run-pairs (marked_pair k p e ps) = reads_then (literal_of k) reads-refused

module _ (e : Expr) (l : Literal) (made : literal_of e ≡ got l) where
  alike-spelled : (s : Scope) → Alike same (spelled l) (run e s).1
  alike-spelled s = was_read (run-spelled s e) made

  -- What a table of literals spells is what evaluating it gives, whatever is bound: bit for bit, and entries in their order.
  pub spelling-runs : (v : Value) → spelled l ≡ got v → (s : Scope) → (run e s).1 ≡ value v
  spelling-runs v h s = subst (λ (g : Got Value). Comes same g (run e s).1) h (alike-spelled s).comes

  -- Where it spells none, for a key that is no key or matches an earlier one, evaluating it is an error.
  pub unspelled-fails : (why : Reason) (p : ℕ) → spelled l ≡ refused why p → (s : Scope) → (d : ErrorAt) × ((run e s).1 ≡ error d)
  unspelled-fails why p h s = subst (λ (g : Got Value). Comes same g (run e s).1) h (alike-spelled s).comes

  -- So a value that evaluating it gives, over any bindings, is the one that it spells.
  pub running-spells : (v : Value) (s : Scope) → (run e s).1 ≡ value v → spelled l ≡ got v
  running-spells v s h = go (spelled l) (alike-spelled s).comes
    where
      go : (g : Got Value) → Comes same g (run e s).1 → g ≡ got v
      go (got w) c = cc
      go (refused why p) c = let d = c.1 in absurd (let z : ◌≡◌ {A = ℕ} 0 1 = cc in omega arith)

-- ---- nesting

key-flat : (es : Entries) (l : Literal) → Reads (λ k. literal_nesting l ≡ 0) (key_literal es l)
unfolding key_literal literal_nesting
key-flat es (scalar_at p x) = record { only = go (new_key es p (key_in x)) }
  where
    go : (g : Got Key) → Only (λ k. literal_nesting (scalar_at p x) ≡ 0) g
    go (got k) = refl
    go (refused why q) = tt
key-flat es (list_at p ls) = reads-refused
key-flat es (map_at p ls) = reads-refused

mutual
  unfolding spelled nesting literal_nesting

  -- It nests as deep as the lists and maps of the table that spells it.
  pub spelled-nesting : (l : Literal) → Reads (λ v. nesting v ≡ literal_nesting l) (spelled l)
  spelled-nesting (scalar_at p x) = reads-got _ refl
  spelled-nesting (list_at p ls) = reads-bind (elements-nesting ls) (λ vs f. reads-got _ (omega arith))
  spelled-nesting (map_at p ls) = reads-bind (entries-nesting ls empty) (λ es f. reads-got _ (omega arith))

  elements-nesting : (ls : Literals) → Reads (λ vs. nesting_in vs ≡ literals_nesting ls) (spelled_elements ls)
  elements-nesting no_literals = reads-got _ refl
  elements-nesting (literals l ls) = reads-bind (spelled-nesting l) (λ v f. reads-bind (elements-nesting ls) (λ vs g. reads-got _ (omega arith)))

  entries-nesting : (ls : LiteralPairs) (es : Entries) → Reads (λ fs. nesting_over fs ≡ max (nesting_over es) (literal_pairs_nesting ls)) (spelled_entries ls es)
  entries-nesting no_literal_pairs es = reads-got _ (omega arith)
  entries-nesting (literal_pairs l m ls) es =
      reads-bind (key-flat es l)
      (λ k f. reads-bind (spelled-nesting m)
      (λ v g. reads-weaker (λ fs h. omega (arith, add-nesting es k v)) (entries-nesting ls (add_entry es k v))))
