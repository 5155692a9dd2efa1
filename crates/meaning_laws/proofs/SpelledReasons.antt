-- Why a binding's table that reads as an expression is refused: for what is no literal, list or map, and then only for its keys and its
-- nesting. So its root spells a value exactly if evaluation gives one that nests no deeper than values may. Rests on SpelledRuns.
-- Assumes nothing.
use Prim.Native.Nat.{ℕ, ◌≤◌}
use mathlib.Core.Path.{◌≡◌, refl, ap, subst}
use Rattle.std.specs.Prelude.{Option, None, Some}
use mathlib.Core.Bool.{Bool, true, false}
use native.Mathlib.Omega.{arith}
use borrow.Author.Tests.{leb-true, le-leb}
use Rattle.meaning.specs.Limits.{deepest_value}
use Rattle.meaning.specs.Errors.{ErrorAt}
use Rattle.meaning.specs.declared.refusal.Reason.{Reason}
use Rattle.meaning.specs.declared.refusal.Reason.TheVariants.{UnsoundBinding, NotALiteral}
use Rattle.meaning.specs.Value.{Key, key_in, Value, Entries, empty, add_entry, nesting}
use Rattle.meaning.specs.Expr.{Expr, literal, name, unary, binary, conditional, select, list_of, map_of, comprehension, call, none_call, or_value, Elements, no_elements, element, marked_element, Pairs, no_pairs, pair, marked_pair}
use Rattle.meaning.specs.Run.{value, error}
use Rattle.meaning.specs.Comprehension.{Scope}
use Rattle.meaning.specs.Meaning.{run}
use Rattle.meaning.specs.Heads.{Got, got, refused, ◌>>=◌, ◌>>◌, demand}
use Rattle.meaning.specs.Spelling.{Literal, scalar_at, list_at, map_at, Literals, no_literals, literals, LiteralPairs, no_literal_pairs, literal_pairs, literal_of, literals_of, literal_pairs_of, literal_nesting, new_key, key_literal, spelled, spelled_elements, spelled_entries, spelled_root}
use Rattle.meaning_laws.specs.Each.{Reads}
use Rattle.meaning_laws.proofs.Reading.{reads-got, reads-refused, reads-demand, was_read}
use Rattle.meaning_laws.proofs.SpelledRuns.{spelling-runs, running-spells, spelled-nesting}

-- ---- reasons

abbrev Blame : {A : Type 0} → Reason → Got A → Type 0
Blame why (got a) = Unit {0}
Blame why (refused r p) = r ≡ why

-- if it is refused, then for this reason
record Blames {A : Type 0} (why : Reason) (g : Got A) : Type 0 where
  blame : Blame why g

blamed : {A : Type 0} {why r : Reason} {p : ℕ} {g : Got A} → Blames why g → g ≡ refused r p → r ≡ why
blamed {A} {why} b e = subst (λ (x : Got A). Blame why x) e b.blame

it-blames : {A : Type 0} {why : Reason} {p : ℕ} → Blames {A = A} why (refused why p)
it-blames = record { blame = refl }

got-blames : {A : Type 0} {why : Reason} {a : A} → Blames why (got a)
got-blames = record { blame = tt }

blames-bind : {A B : Type 0} {why : Reason} {g : Got A} {k : A → Got B} → Blames why g → ((a : A) → Blames why (k a)) → Blames why (◌>>=◌ g k)
unfolding ◌>>=◌
blames-bind {A} {B} {why} {g} {k} b h = go g b.blame
  where
    go : (x : Got A) → Blame why x → Blames why (◌>>=◌ x k)
    go (got a) c = h a
    go (refused r p) c = record { blame = c }

mutual
  unfolding literal_of ◌>>◌

  literal-blames : (e : Expr) → Blames NotALiteral (literal_of e)
  literal-blames (literal p x) = got-blames
  literal-blames (name p n) = it-blames
  literal-blames (unary p o e) = it-blames
  literal-blames (binary p o e f) = it-blames
  literal-blames (conditional p c e f) = it-blames
  literal-blames (select p test field e) = it-blames
  literal-blames (list_of p es) = blames-bind (literals-blame es) (λ ls. got-blames)
  literal-blames (map_of p ps) = blames-bind (literal-pairs-blame ps) (λ ls. got-blames)
  literal-blames (comprehension p a i range init condition step result) = it-blames
  literal-blames (call p f e) = it-blames
  literal-blames (none_call p) = it-blames
  literal-blames (or_value p e f) = it-blames

  literals-blame : (es : Elements) → Blames NotALiteral (literals_of es)
  literals-blame no_elements = got-blames
  literals-blame (element e es) = blames-bind (literal-blames e) (λ l. blames-bind (literals-blame es) (λ ls. got-blames))
  literals-blame (marked_element p e es) = it-blames

  literal-pairs-blame : (ps : Pairs) → Blames NotALiteral (literal_pairs_of ps)
  literal-pairs-blame no_pairs = got-blames
  literal-pairs-blame (pair k e ps) =
      blames-bind (literal-blames k) (λ l. blames-bind (literal-blames e) (λ m. blames-bind (literal-pairs-blame ps) (λ ls. got-blames)))
  literal-pairs-blame (marked_pair k p e ps) = blames-bind (literal-blames k) (λ l. it-blames)

-- A binding's table that is not made of literals, lists and maps alone is refused for that.
pub literal-reason : (e : Expr) (why : Reason) (p : ℕ) → literal_of e ≡ refused why p → why ≡ NotALiteral
literal-reason e why p h = blamed (literal-blames e) h

demand-blames : (b : Bool) (why : Reason) (p : ℕ) → Blames why (demand b why p)
unfolding demand
demand-blames true why p = got-blames
demand-blames false why p = it-blames

key-blames : (es : Entries) (p : ℕ) (o : Option Key) → Blames UnsoundBinding (new_key es p o)
unfolding new_key ◌>>◌
key-blames es p None = it-blames
key-blames es p (Some k) = blames-bind (demand-blames _ _ p) (λ u. got-blames)

mutual
  unfolding spelled key_literal

  spelled-blames : (l : Literal) → Blames UnsoundBinding (spelled l)
  spelled-blames (scalar_at p x) = got-blames
  spelled-blames (list_at p ls) = blames-bind (elements-blame ls) (λ vs. got-blames)
  spelled-blames (map_at p ls) = blames-bind (entries-blame ls empty) (λ es. got-blames)

  elements-blame : (ls : Literals) → Blames UnsoundBinding (spelled_elements ls)
  elements-blame no_literals = got-blames
  elements-blame (literals l ls) = blames-bind (spelled-blames l) (λ v. blames-bind (elements-blame ls) (λ vs. got-blames))

  entries-blame : (ls : LiteralPairs) (es : Entries) → Blames UnsoundBinding (spelled_entries ls es)
  entries-blame no_literal_pairs es = got-blames
  entries-blame (literal_pairs l m ls) es =
      blames-bind (key-literal-blames es l) (λ k. blames-bind (spelled-blames m) (λ v. entries-blame ls (add_entry es k v)))

  key-literal-blames : (es : Entries) (l : Literal) → Blames UnsoundBinding (key_literal es l)
  key-literal-blames es (scalar_at p x) = key-blames es p (key_in x)
  key-literal-blames es (list_at p ls) = it-blames
  key-literal-blames es (map_at p ls) = it-blames

root-blames : (l : Literal) → Blames UnsoundBinding (spelled_root l)
unfolding spelled_root ◌>>◌
root-blames l = blames-bind (demand-blames _ _ _) (λ u. spelled-blames l)

-- One that is so made is refused only for its keys or its nesting.
pub root-reason : (l : Literal) (why : Reason) (p : ℕ) → spelled_root l ≡ refused why p → why ≡ UnsoundBinding
root-reason l why p h = blamed (root-blames l) h

-- ---- the root

-- One that nests no deeper than values may is refused where its spelling is.
pub root-refused : (l : Literal) → literal_nesting l ≤ deepest_value → (why : Reason) (p : ℕ) → spelled l ≡ refused why p → spelled_root l ≡ refused why p
unfolding spelled_root ◌>>◌ ◌>>=◌ demand
root-refused l h why p k = rw (le-leb (literal_nesting l) deepest_value h, k)

-- One that is not refused spells a value that nests no deeper than values may.
pub root-spells : (l : Literal) → Reads (λ v. (spelled l ≡ got v) × (nesting v ≤ deepest_value)) (spelled_root l)
unfolding spelled_root
root-spells l = reads-demand _ _ _ (λ shallow. both (spelled l) refl (leb-true (literal_nesting l) deepest_value shallow) (spelled-nesting l))
  where
    both : (g : Got Value) → spelled l ≡ g → literal_nesting l ≤ deepest_value → Reads (λ v. nesting v ≡ literal_nesting l) (spelled l)
        → Reads (λ v. (spelled l ≡ got v) × (nesting v ≤ deepest_value)) g
    both (got v) e h r = reads-got _ (e, let n = was_read r e in omega arith)
    both (refused why p) e h r = reads-refused

module _ (e : Expr) (l : Literal) (made : literal_of e ≡ got l) (s : Scope) where
  -- A value that evaluation gives, over any bindings, and that nests no deeper than that is spelled.
  pub root-spelled : (v : Value) → (run e s).1 ≡ value v → nesting v ≤ deepest_value → spelled_root l ≡ got v
  unfolding spelled_root ◌>>◌ ◌>>=◌ demand
  root-spelled v gives nests =
      let spells = running-spells e l made v s gives in
      let deep = was_read (spelled-nesting l) spells in
      rw (le-leb (literal_nesting l) deepest_value (omega arith), spells)

  -- Where evaluation gives an error, it is refused.
  pub root-fails : (d : ErrorAt) → (run e s).1 ≡ error d → (p : ℕ) × (spelled_root l ≡ refused UnsoundBinding p)
  root-fails d fails = go (spelled_root l) refl
    where
      go : (g : Got Value) → spelled_root l ≡ g → (p : ℕ) × (g ≡ refused UnsoundBinding p)
      go (got v) h =
          let gives = spelling-runs e l made v (was_read (root-spells l) h).0 s in
          absurd (let z : ◌≡◌ {A = ℕ} 0 1 = cc in omega arith)
      go (refused why p) h = (p, ap (λ r. refused r p) (root-reason l why p h))
