-- The ways through `judge`, over plain variables: a List, a Map, and a record without parts. Assumes nothing.
use Prim.Native.Nat.{ℕ, ◌+◌, ◌*◌, ◌-◌, ◌≤◌, ◌<◌}
use mathlib.Core.Path.{◌≡◌, refl, sym, ap, ◌∙◌}
use mathlib.Core.List.{List, []}
use native.Mathlib.Omega.{arith}
use lib.Dec.{eqb}
use lib.ListN.{length, get_or}
use Rattle.table_layout.specs.Layout.{head_bytes, word_at}
use Rattle.table_check.specs.Records.{part_of, elements_of, pairs_of, SoundPart}
use Rattle.rooms.specs.declared.value.Value.{Value}
use Rattle.bindings_literals.specs.declared.judgement.Judged.{Judged}
use Rattle.bindings_literals.specs.Literals.{literal_value, row_bytes, entry_bytes, Operands, Entries}
use Rattle.bindings_literals.specs.Judging.{deepened_of, without_parts, Small, judged_part, judged_elements, judged_pairs}
use Rattle.bindings_literals.proofs.Heads.{list-head, map-head}
use Rattle.bindings_literals.proofs.Rows.{part-place}
use Rattle.bindings_literals.proofs.PartLaws.{ListAt, MapAt, list_at_lem, map_at_lem}
use Rattle.bindings_literals.proofs.JudgeLaws.{list-judged, map-judged, leaf-judged}

small-deepened : (s r : Judged) (m n : ℕ) → r ≡ deepened_of s → Small s m → 5 + m ≡ n → Small r (n - 1)
small-deepened s r m n e f g =
    rw e (record { cells = omega (arith, f.cells); nesting = omega (arith, f.nesting); bytes = omega (arith, f.bytes) })

-- a count and its first operand
module _ (t x : List ℕ) (p : ℕ) (s : SoundPart t x p) (long : length t ≤ 16384) {k : ℕ} (e : k ≡ get_or t p 0) {first count : ℕ}
    (f : first ≡ p + head_bytes (get_or t p 0)) (c : count ≡ word_at t (p + 3)) where
  module _ (twelve : k ≡ 12) where
    o : ListAt t x p
    o = list_at_lem t x p s (sym e ∙ twelve)

    first-is : first ≡ p + 5
    first-is = f ∙ (rw (← e, twelve, list-head))

    pub list-row : Operands t x count first × (first + row_bytes t count first ≤ length t) × (length t ≤ 16384)
    list-row = rw (first-is, c) (o.rest, omega (arith, o.ends, o.room), long)

    pub list-less : 2 * row_bytes t count first + 1 < 2 * word_at t (p + 1)
    list-less = rw (first-is, c) (omega (arith, o.ends))

    pub list-whole : {sum r : Judged} → (sum ≡ judged_elements (elements_of t x count first)) × Small sum (row_bytes t count first) → r ≡ deepened_of sum →
        (r ≡ judged_part (part_of t x p)) × Small r (word_at t (p + 1) - 1)
    list-whole {sum} {r} g h =
        let a : sum ≡ judged_elements (elements_of t x (word_at t (p + 3)) (p + 5)) = rw (first-is, c) at g.0 in
        let b : Small sum (row_bytes t (word_at t (p + 3)) (p + 5)) = rw (first-is, c) at g.1 in
        (h ∙ (ap deepened_of a ∙ list-judged t x p o), small-deepened sum r _ (word_at t (p + 1)) h b o.ends)

  module _ (thirteen : k ≡ 13) where
    m : MapAt t x p
    m = map_at_lem t x p s (sym e ∙ thirteen)

    first-entry-is : first ≡ p + 5
    first-entry-is = f ∙ (rw (← e, thirteen, map-head))

    pub map_row : Entries t x count first × (first + entry_bytes t count first ≤ length t) × (length t ≤ 16384)
    map_row = rw (first-entry-is, c) (m.rest, omega (arith, m.ends, m.room), long)

    pub map-less : 2 * entry_bytes t count first + 1 < 2 * word_at t (p + 1)
    map-less = rw (first-entry-is, c) (omega (arith, m.ends))

    pub map_whole : {sum r : Judged} → (sum ≡ judged_pairs [] (pairs_of t x count first)) × Small sum (entry_bytes t count first) → r ≡ deepened_of sum →
        (r ≡ judged_part (part_of t x p)) × Small r (word_at t (p + 1) - 1)
    map_whole {sum} {r} g h =
        let a : sum ≡ judged_pairs [] (pairs_of t x (word_at t (p + 3)) (p + 5)) = rw (first-entry-is, c) at g.0 in
        let b : Small sum (entry_bytes t (word_at t (p + 3)) (p + 5)) = rw (first-entry-is, c) at g.1 in
        (h ∙ (ap deepened_of a ∙ map-judged t x p m), small-deepened sum r _ (word_at t (p + 1)) h b m.ends)

module _ (t x : List ℕ) (p : ℕ) (s : SoundPart t x p) {k : ℕ} (e : k ≡ get_or t p 0) where
  pub list-body : k ≡ 12 → p + 5 ≤ length t
  list-body h = (list_at_lem t x p s (sym e ∙ h)).body

  pub map-body : k ≡ 13 → p + 5 ≤ length t
  map-body h = (map_at_lem t x p s (sym e ∙ h)).body

  pub leaf-whole : (small : (i : ℕ) → get_or t i 0 < 256) → (k ≡ 12 → ⊥) → (k ≡ 13 → ⊥) → {v : Value} {r : Judged} → v ≡ literal_value t p →
      (r ≡ without_parts v p) × (r.bytes < 65536) → (r ≡ judged_part (part_of t x p)) × Small r (word_at t (p + 1) - 1)
  leaf-whole small a b {v} {r} f g =
      let h = part-place t x p s in
      let z : (r.cells ≡ 0) × (r.nesting ≡ 0) = (ap (λ (j : Judged). j.cells) g.0, ap (λ (j : Judged). j.nesting) g.0) in (
        g.0 ∙ leaf-judged t x p small s v f (λ d. a (e ∙ d)) (λ d. b (e ∙ d)) (eqb (get_or t p 0) 14) refl,
        record { cells = omega (arith, z.0); nesting = omega (arith, z.1); bytes = omega (arith, g.1, h.least) },
      )
