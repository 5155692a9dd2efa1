-- What records come to together is what the definition says of the record that holds them. Assumes nothing.
use Prim.Native.Nat.{ℕ, suc, ◌+◌, ◌<◌, max}
use mathlib.Core.Path.{◌≡◌, refl, sym, ◌∙◌}
use Rattle.std.specs.Option.{option_or}
use Rattle.std.specs.Prelude.{Option, None, Some}
use mathlib.Core.List.{List, [], ◌∷◌, ◌++◌}
use mathlib.Core.Bool.{Bool, true, false}
use native.Mathlib.Omega.{arith}
use native.Mathlib.Numerals.{add-one}
use lib.Dec.{eqb}
use borrow.Author.Tests.{eqb-true, eqb-false}
use lib.ListN.{get_or}
use Rattle.meaning.specs.declared.refusal.Reason.TheVariants.{NotALiteral}
use Rattle.meaning.specs.Bindings.{text_bytes}
use Rattle.meaning.specs.Expr.{Expr, list_of, map_of, Elements, Pairs}
use Rattle.meaning.specs.Heads.{Got, got, refused, ◌>>=◌, ◌>>◌}
use Rattle.meaning.specs.Table.{Part, bare, marked, add_element, add_pair}
use Rattle.meaning.specs.Spelling.{Literal, list_at, map_at, literals, LiteralPairs, literal_pairs, literal_of, literals_of, literal_pairs_of, literal_nesting, literals_nesting, literal_pairs_nesting}
use Rattle.table_layout.specs.Layout.{word_at}
use Rattle.table_check.specs.Records.{expr_of, part_of, SoundPart, elements_of, pairs_of}
use Rattle.table_check.proofs.Parts.{part-marked, part-bare}
use Rattle.rooms.specs.declared.value.Value.{Value}
use Rattle.bindings_literals.specs.declared.judgement.Judged.{Judged}
use Rattle.bindings_literals.specs.Literals.{literal_in, literals_in, literal_pairs_in, literal_value}
use Rattle.bindings_literals.specs.Judging.{fault_in, key_fault, keys_in, keys_among, keys_over, cells_for, cells_among, cells_over, bytes_for, bytes_among, bytes_over, nothing_judged, joined_of, with_key, deepened_of, without_parts, judged_of, judged_part, judged_elements, judged_pairs}
use Rattle.bindings_literals.proofs.LiteralLaws.{View, a_scalar, a_list, a_map, another, view, no-literal}
use Rattle.bindings_literals.proofs.PartLaws.{ListAt, MapAt}

-- ---- the first fault

pub fault-map : {A B : Type 0} (g : Got A) (f : A → B) → fault_in (◌>>=◌ g (λ a. got (f a))) ≡ fault_in g
unfolding ◌>>=◌
fault-map (got a) f = refl
fault-map (refused r p) f = refl

fault-two : {A B C : Type 0} (g : Got A) (h : Got B) (f : A → B → C) → fault_in (◌>>=◌ g (λ a. ◌>>=◌ h (λ b. got (f a b)))) ≡ option_or (fault_in g) (fault_in h)
unfolding ◌>>=◌
fault-two (got a) h f = fault-map h (f a)
fault-two (refused r p) h f = refl

fault-three : {A B C D : Type 0} (g : Got A) (h : Got B) (i : Got C) (f : A → B → C → D) →
    fault_in (◌>>=◌ g (λ a. ◌>>=◌ h (λ b. ◌>>=◌ i (λ c. got (f a b c))))) ≡ option_or (fault_in g) (option_or (fault_in h) (fault_in i))
unfolding ◌>>=◌
fault-three (got a) h i f = fault-two h i (f a)
fault-three (refused r p) h i f = refl

fault-then : {A B : Type 0} (g : Got A) (h : Got B) (f : Option ℕ) → fault_in h ≡ f → fault_in (◌>>◌ g h) ≡ option_or (fault_in g) f
unfolding ◌>>◌ ◌>>=◌
fault-then (got a) h f e = e
fault-then (refused r p) h f e = refl

first-last : (f : Option ℕ) → option_or f None ≡ f
first-last (Some p) = refl
first-last None = refl

first-again : (f g h : Option ℕ) → option_or (option_or f g) h ≡ option_or f (option_or g h)
first-again (Some p) g h = refl
first-again None g h = refl

-- ---- sums

-- what is left comes behind
abbrev pub plus : Judged → Judged → Judged
plus s r =
    record {
      other = option_or s.other r.other;
      key = option_or s.key r.key;
      nesting = max s.nesting r.nesting;
      cells = s.cells + r.cells;
      bytes = s.bytes + r.bytes;
    }

-- a part and those behind it
abbrev pub consed : Judged → Judged → Judged
consed j r =
    record {
      other = option_or j.other r.other;
      key = option_or j.key r.key;
      nesting = max j.nesting r.nesting;
      cells = suc (j.cells + r.cells);
      bytes = j.bytes + r.bytes;
    }

-- an entry, with its key's fault, and those behind it
abbrev pub entered : Option ℕ → Judged → Judged → Judged → Judged
entered f k v r =
    record {
      other = option_or k.other (option_or v.other r.other);
      key = option_or f (option_or k.key (option_or v.key r.key));
      nesting = max k.nesting (max v.nesting r.nesting);
      cells = suc (k.cells + suc (v.cells + r.cells));
      bytes = k.bytes + (v.bytes + r.bytes);
    }

same : {o p : Option ℕ} {k l : Option ℕ} {a b c d e f : ℕ} → o ≡ p → k ≡ l → a ≡ b → c ≡ d → e ≡ f →
    ◌≡◌ {A = Judged} (record { other = o; key = k; nesting = a; cells = c; bytes = e }) (record { other = p; key = l; nesting = b; cells = d; bytes = f })
same g h i j m n = record { other = g n; key = h n; nesting = i n; cells = j n; bytes = m n }

pub plus-start : (r : Judged) → plus nothing_judged r ≡ r
plus-start r = same refl refl (omega arith) (omega arith) (omega arith)

pub plus-end : (s : Judged) → plus s nothing_judged ≡ s
plus-end s = same (first-last s.other) (first-last s.key) (omega arith) (omega arith) (omega arith)

max_again : (a b c : ℕ) → max (max a b) c ≡ max a (max b c)
max_again a b c = omega arith

pub plus-more : (s j r : Judged) → plus (joined_of s j) r ≡ plus s (consed j r)
plus-more s j r =
    same (first-again s.other j.other r.other) (first-again s.key j.key r.key) (max_again s.nesting j.nesting r.nesting) (omega arith)
    (omega arith)

pub plus-keyed : (s : Judged) (f : Option ℕ) (k v r : Judged) → plus (joined_of (joined_of (with_key s f) k) v) r ≡ plus s (entered f k v r)
plus-keyed s f k v r =
    same
    (first-again (option_or s.other k.other) v.other r.other ∙ first-again s.other k.other (option_or v.other r.other))
    (first-again (option_or (option_or s.key f) k.key) v.key r.key
    ∙ (first-again (option_or s.key f) k.key (option_or v.key r.key) ∙ first-again s.key f (option_or k.key (option_or v.key r.key))))
    (omega arith) (omega arith) (omega arith)

-- ---- parts, and the records that hold them

pub elements-more : (a : Part) (es : Elements) → judged_elements (add_element a es) ≡ consed (judged_part a) (judged_elements es)
unfolding judged_elements judged_part judged_of add_element literals_of literals_in keys_among literals_nesting cells_among bytes_among keys_in literal_nesting cells_for bytes_for text_bytes
elements-more (bare e) es = same (fault-two (literal_of e) (literals_of es) (λ l ls. literals l ls)) refl refl refl refl
elements-more (marked p e) es = same refl refl (omega arith) refl refl

pub pairs-more : (before : List Literal) (k : Expr) (a : Part) (ps : Pairs) →
    judged_pairs before (add_pair k a ps) ≡
    entered (key_fault before (literal_in k)) (judged_of k) (judged_part a) (judged_pairs (before ++ (literal_in k ∷ [])) ps)
unfolding judged_pairs judged_part judged_of add_pair literal_pairs_of literal_pairs_in keys_over literal_pairs_nesting cells_over bytes_over keys_in literal_nesting cells_for bytes_for text_bytes
pairs-more before k (bare e) ps = same (fault-three (literal_of k) (literal_of e) (literal_pairs_of ps) (λ l m ls. literal_pairs l m ls)) refl refl refl refl
pairs-more before k (marked p e) ps =
    same (fault-then {B = LiteralPairs} (literal_of k) (refused NotALiteral p) (Some p) refl) refl (omega arith) refl refl

deeper-list : (p : ℕ) (es : Elements) → judged_of (list_of p es) ≡ deepened_of (judged_elements es)
unfolding judged_of judged_elements literal_of literal_in keys_in literal_nesting cells_for bytes_for
deeper-list p es = same (fault-map (literals_of es) (λ ls. list_at p ls)) refl (sym (add-one _)) refl refl

deeper-map : (p : ℕ) (ps : Pairs) → judged_of (map_of p ps) ≡ deepened_of (judged_pairs [] ps)
unfolding judged_of judged_pairs literal_of literal_in keys_in literal_nesting cells_for bytes_for
deeper-map p ps = same (fault-map (literal_pairs_of ps) (λ ls. map_at p ls)) refl (sym (add-one _)) refl refl

module _ (t x : List ℕ) (p : ℕ) where
  pub list-judged : ListAt t x p → deepened_of (judged_elements (elements_of t x (word_at t (p + 3)) (p + 5))) ≡ judged_part (part_of t x p)
  unfolding judged_part
  list-judged o = rw o.is (sym (deeper-list p _))

  pub map-judged : MapAt t x p → deepened_of (judged_pairs [] (pairs_of t x (word_at t (p + 3)) (p + 5))) ≡ judged_part (part_of t x p)
  unfolding judged_part
  map-judged o = rw o.is (sym (deeper-map p _))

  module _ (small : (i : ℕ) → get_or t i 0 < 256) (s : SoundPart t x p) (v : Value) (e : v ≡ literal_value t p) where
    marked-judged : get_or t p 0 ≡ 14 → without_parts v p ≡ judged_part (part_of t x p)
    unfolding judged_part
    marked-judged b =
        let f : v ≡ Value.Absent = e ∙ sym (no-literal t p 14 (sym b) (λ z. omega (arith, z)) (λ z. omega (arith, z)) (λ z. omega (arith, z)) (λ z. omega (arith, z)) (λ z. omega (arith, z)) (λ z. omega (arith, z)) (λ z. omega (arith, z))) in
        rw (f, (part-marked t x p s b).is)

    bare-judged : View t x p → (get_or t p 0 ≡ 12 → ⊥) → (get_or t p 0 ≡ 13 → ⊥) → without_parts v p ≡ judged_of (expr_of t x p)
    unfolding judged_of literal_of literal_in keys_in literal_nesting cells_for bytes_for text_bytes
    bare-judged (a_scalar y f h) a b = rw (f, e) (same (rw h.present) refl refl refl h.long)
    bare-judged (a_list c f ls g) a b = absurd (a c)
    bare-judged (a_map c f ls g) a b = absurd (b c)
    bare-judged (another f g h) a b = rw (e, f, g, h)

    pub leaf-judged : (get_or t p 0 ≡ 12 → ⊥) → (get_or t p 0 ≡ 13 → ⊥) → (m : Bool) → eqb (get_or t p 0) 14 ≡ m → without_parts v p ≡ judged_part (part_of t x p)
    unfolding judged_part
    leaf-judged a b true m = marked-judged (eqb-true (get_or t p 0) 14 m)
    leaf-judged a b false m =
        let f = part-bare t x p s (eqb-false (get_or t p 0) 14 m) in rw f.1 (bare-judged (view t x p small f.0) a b)
