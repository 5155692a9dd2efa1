-- The ways through a turn of the loops over parts, over plain variables. Assumes nothing.
use Prim.Native.Nat.{ℕ, zero, suc, ◌+◌, ◌-◌, ◌≤◌, ◌<◌}
use mathlib.Core.Path.{◌≡◌, refl, sym, ap, ◌∙◌}
use Rattle.std.specs.Prelude.{Option}
use mathlib.Core.List.{List, [], ◌∷◌, ◌++◌}
use native.Mathlib.Omega.{arith}
use native.Mathlib.Numerals.{add-one}
use lib.ListN.{length}
use Rattle.meaning.specs.Expr.{Elements, no_elements, no_pairs}
use Rattle.meaning.specs.Table.{add_element, add_pair}
use Rattle.meaning.specs.Spelling.{Literal, literals_of, literal_pairs_of, literals_nesting, literal_pairs_nesting}
use Rattle.table_layout.specs.Layout.{word_at}
use Rattle.table_layout.specs.Layout.{after}
use Rattle.table_check.specs.Records.{expr_of, part_of, elements_of, pairs_of, Sound, SoundPart}
use Rattle.bindings_literals.specs.declared.judgement.Judged.{Judged}
use Rattle.bindings_literals.specs.Literals.{literal_in, literals_in, literal_pairs_in, row_bytes, entry_bytes, Operands, Entries, keys_from}
use Rattle.bindings_literals.specs.Judging.{nothing_judged, joined_of, with_key, Small, key_fault, keys_among, keys_over, cells_among, cells_over, bytes_among, bytes_over, judged_of, judged_part, judged_elements, judged_pairs}
use Rattle.bindings_literals.proofs.Rows.{sound-place, part-place, first_part, first_entry, first-bytes, first-entry-bytes}
use Rattle.bindings_literals.proofs.PartLaws.{bare-part}
use Rattle.bindings_literals.proofs.JudgeLaws.{plus, entered, plus-start, plus-end, plus-more, plus-keyed, elements-more, pairs-more}
use Rattle.bindings_literals.proofs.KeySteps.{no_more, back}

elements-next : (t x : List ℕ) (n q : ℕ) → 0 < n → elements_of t x n q ≡ add_element (part_of t x q) (elements_of t x (n - 1) (after t q))
elements-next t x zero q h = absurd (omega arith)
elements-next t x (suc n) q h = rw (back n)

pairs_next : (t x : List ℕ) (n q : ℕ) → 0 < n → pairs_of t x n q ≡ add_pair (expr_of t x q) (part_of t x (after t q)) (pairs_of t x (n - 1) (after t (after t q)))
pairs_next t x zero q h = absurd (omega arith)
pairs_next t x (suc n) q h = rw (back n)

nothing-elements : judged_elements no_elements ≡ nothing_judged
unfolding judged_elements literals_of literals_in keys_among literals_nesting cells_among bytes_among
nothing-elements = refl

nothing-pairs : (before : List Literal) → judged_pairs before no_pairs ≡ nothing_judged
unfolding judged_pairs literal_pairs_of literal_pairs_in keys_over literal_pairs_nesting cells_over bytes_over
nothing-pairs before = refl

-- of `count` parts from `first` on, `left` are left, from `at` on
pub record ElementsLeft (t x : List ℕ) (first count : ℕ) (sum : Judged) (at left : ℕ) : Type 0 where
  pub rest : Operands t x left at
  pub from : first ≤ at
  pub ends : at + row_bytes t left at ≡ first + row_bytes t count first
  pub small : Small sum (at - first)
  pub same : plus sum (judged_elements (elements_of t x left at)) ≡ judged_elements (elements_of t x count first)

small-nothing : Small nothing_judged 0
small-nothing = record { cells = omega arith; nesting = omega arith; bytes = omega arith }

self-less : (n : ℕ) → n - n ≡ 0
self-less n = omega arith

all_left : (n : ℕ) → n - 0 ≡ n
all_left n = omega arith

pub elements-start : (t x : List ℕ) (first count : ℕ) → Operands t x count first → ElementsLeft t x first count nothing_judged first (count - 0)
elements-start t x first count o =
    rw (all_left count)
    (record {
      rest = o;
      from = omega arith;
      ends = refl;
      small = rw (self-less first) small-nothing;
      same = plus-start (judged_elements (elements_of t x count first));
    })

small-joined : (s j r : Judged) (m n k : ℕ) → r ≡ joined_of s j → Small s m → Small j (n - 1) → 0 < n → k ≡ m + n → Small r k
small-joined s j r m n k e f g h i =
    rw (e, i) (record { cells = omega (arith, f.cells, g.cells); nesting = omega (arith, f.nesting, g.nesting); bytes = omega (arith, f.bytes, g.bytes) })

module _ {t x : List ℕ} {first count : ℕ} {sum : Judged} {at left : ℕ} (l : ElementsLeft t x first count sum at left) (h : 0 < left) where
  pub elements-here : SoundPart t x at
  elements-here = (first_part t x left at h l.rest).0

  pub elements-less : word_at t (at + 1) ≤ row_bytes t count first
  elements-less = omega (arith, first-bytes t x left at h, l.ends, l.from)

  module _ (inside : first + row_bytes t count first ≤ length t) (long : length t ≤ 16384) {j : Judged} (g : Small j (word_at t (at + 1) - 1)) where
    pub elements-fit : (sum.cells + j.cells < 4294967296) × (sum.bytes + j.bytes < 4294967296)
    elements-fit = (
      omega (arith, first-bytes t x left at h, l.ends, l.from, l.small.cells, g.cells),
      omega (arith, first-bytes t x left at h, l.ends, l.from, l.small.bytes, g.bytes),
    )

    pub elements-again : {r : Judged} {a n : ℕ} → n ≡ left - 1 → j ≡ judged_part (part_of t x at) → r ≡ joined_of sum j → a ≡ after t at →
        ElementsLeft t x first count r a n
    elements-again {r} {a} {n} z e f i =
        let p = part-place t x at elements-here in
        rw (i, z) (record {
          rest = (first_part t x left at h l.rest).1;
          from = omega (arith, l.from);
          ends = omega (arith, first-bytes t x left at h, l.ends);
          small = small-joined sum j r (at - first) (word_at t (at + 1)) (after t at - first) f l.small g (omega (arith, p.least)) (omega (arith, l.from));
          same = (rw (f, e) (plus-more sum (judged_part (part_of t x at)) (judged_elements (elements_of t x (left - 1) (after t at)))))
              ∙ (ap (λ (m : Judged). plus sum m) (sym (elements-more (part_of t x at) (elements_of t x (left - 1) (after t at)))) ∙ (ap (λ (es : Elements). plus sum (judged_elements es)) (sym (elements-next t x left at h)) ∙ l.same));
        })

no_bytes : (t : List ℕ) (q : ℕ) → row_bytes t 0 q ≡ 0
unfolding row_bytes
no_bytes t q = refl

pub elements-done : {t x : List ℕ} {first count : ℕ} {sum : Judged} {at left : ℕ} → ElementsLeft t x first count sum at left → left ≤ 0 →
    (sum ≡ judged_elements (elements_of t x count first)) × Small sum (row_bytes t count first)
elements-done {t} {x} {first} {count} {sum} {at} {left} l h =
    let n = no_more left h in
    let e : plus sum (judged_elements (elements_of t x 0 at)) ≡ judged_elements (elements_of t x count first) = rw n at l.same in
    let b : at + row_bytes t 0 at ≡ first + row_bytes t count first = rw n at l.ends in
    let w : at - first ≡ row_bytes t count first = omega (arith, b, no_bytes t at) in
    (sym (plus-end sum) ∙ (ap (λ (m : Judged). plus sum m) (sym nothing-elements) ∙ e), rw w at l.small)

-- ---- entries

-- the place behind a number of entries
unfoldable pub entry_place : List ℕ → ℕ → ℕ → ℕ
entry_place t zero q = q
entry_place t (suc n) q = entry_place t n (after t (after t q))

place-next : (t : List ℕ) (n q : ℕ) → entry_place t (suc n) q ≡ after t (after t (entry_place t n q))
unfolding entry_place
place-next t zero q = refl
place-next t (suc n) q = place-next t n (after t (after t q))

keys-more : (t x : List ℕ) (n q : ℕ) → keys_from t x (suc n) q ≡ keys_from t x n q ++ (literal_in (expr_of t x (entry_place t n q)) ∷ [])
unfolding keys_from entry_place
keys-more t x zero q = refl
keys-more t x (suc n) q = ap (λ (ls : List Literal). literal_in (expr_of t x q) ∷ ls) (keys-more t x n (after t (after t q)))

entries-some : (t x : List ℕ) (m n q : ℕ) → m ≤ n → Entries t x n q → Entries t x m q
entries-some t x zero n q h es = tt
entries-some t x (suc m) zero q h es = absurd (omega arith)
entries-some t x (suc m) (suc n) q h es = (es.0, es.1, entries-some t x m n (after t (after t q)) (omega arith) es.2)

no-entry-bytes : (t : List ℕ) (q : ℕ) → entry_bytes t 0 q ≡ 0
unfolding entry_bytes
no-entry-bytes t q = refl

-- of `count` entries from `first` on, `done` are judged, and the others lie from `at` on
pub record EntriesLeft (t x : List ℕ) (first count : ℕ) (sum : Judged) (at done : ℕ) : Type 0 where
  pub all : Entries t x count first
  pub rest : Entries t x (count - done) at
  pub most : done ≤ count
  pub here : at ≡ entry_place t done first
  pub from : first ≤ at
  pub ends : at + entry_bytes t (count - done) at ≡ first + entry_bytes t count first
  pub small : Small sum (at - first)
  pub same : plus sum (judged_pairs (keys_from t x done first) (pairs_of t x (count - done) at)) ≡ judged_pairs [] (pairs_of t x count first)

pub entries-start : (t x : List ℕ) (first count : ℕ) → Entries t x count first → EntriesLeft t x first count nothing_judged first 0
unfolding keys_from entry_place
entries-start t x first count o =
    record {
      all = o;
      rest = rw (all_left count) o;
      most = omega arith;
      here = refl;
      from = omega arith;
      ends = rw (all_left count);
      small = rw (self-less first) small-nothing;
      same = rw (all_left count) (plus-start (judged_pairs [] (pairs_of t x count first)));
    }

small-key : (s r : Judged) (f : Option ℕ) (n : ℕ) → r ≡ with_key s f → Small s n → Small r n
small-key s r f n e g = rw e (record { cells = g.cells; nesting = g.nesting; bytes = g.bytes })

module _ {t x : List ℕ} {first count : ℕ} {sum : Judged} {at done : ℕ} (l : EntriesLeft t x first count sum at done) (less : done < count) where
  abbrev left : ℕ
  left = count - done

  h : 0 < left
  h = omega arith

  pub entries-key : Sound t x at
  entries-key = (first_entry t x left at h l.rest).0

  pub entries-value : SoundPart t x (after t at)
  entries-value = (first_entry t x left at h l.rest).1

  pub entries-before : Entries t x done first
  entries-before = entries-some t x done count first l.most l.all

  pub entries-less : (word_at t (at + 1) ≤ entry_bytes t count first) × (word_at t (after t at + 1) ≤ entry_bytes t count first)
  entries-less = (
    omega (arith, first-entry-bytes t x left at h, l.ends, l.from),
    omega (arith, first-entry-bytes t x left at h, l.ends, l.from),
  )

  next_place : after t (after t at) ≡ entry_place t (suc done) first
  next_place = (rw (place-next t done first, ← l.here))

  next_keys : keys_from t x done first ++ (literal_in (expr_of t x at) ∷ []) ≡ keys_from t x (suc done) first
  next_keys = (rw (keys-more t x done first, ← l.here))

  one_less : count - (done + 1) ≡ left - 1
  one_less = omega arith

  module _ (inside : first + entry_bytes t count first ≤ length t) (long : length t ≤ 16384) (f : Option ℕ) (keyed : Judged) (e : keyed ≡ with_key sum f) (k : Judged)
      (g : Small k (word_at t (at + 1) - 1)) where
    keyed-small : Small keyed (at - first)
    keyed-small = small-key sum keyed f (at - first) e l.small

    pub entries_fit : (keyed.cells + k.cells < 4294967296) × (keyed.bytes + k.bytes < 4294967296)
    entries_fit = (
      omega (arith, first-entry-bytes t x left at h, l.ends, l.from, keyed-small.cells, g.cells),
      omega (arith, first-entry-bytes t x left at h, l.ends, l.from, keyed-small.bytes, g.bytes),
    )

    module _ (both : Judged) (i : both ≡ joined_of keyed k) (v : Judged) (j : Small v (word_at t (after t at + 1) - 1)) where
      both_small : Small both (after t at - first)
      both_small =
          let p = sound-place t x at entries-key in
          small-joined keyed k both (at - first) (word_at t (at + 1)) (after t at - first) i keyed-small g (omega (arith, p.least)) (omega (arith, l.from))

      pub entries-fit-value : (both.cells + v.cells < 4294967296) × (both.bytes + v.bytes < 4294967296)
      entries-fit-value = (
        omega (arith, first-entry-bytes t x left at h, l.ends, l.from, both_small.cells, j.cells),
        omega (arith, first-entry-bytes t x left at h, l.ends, l.from, both_small.bytes, j.bytes),
      )

      abbrev behind : Judged
      behind = judged_pairs (keys_from t x (suc done) first) (pairs_of t x (left - 1) (after t (after t at)))

      pub entries-again : {r : Judged} {a : ℕ} → f ≡ key_fault (keys_from t x done first) (literal_in (expr_of t x at)) →
          k ≡ judged_part (part_of t x at) → v ≡ judged_part (part_of t x (after t at)) → r ≡ joined_of both v → a ≡ after t (after t at) →
          EntriesLeft t x first count r a (done + 1)
      unfolding judged_part
      entries-again {r} {a} m n o q u =
          let b = part-place t x (after t at) entries-value in
          let kk : k ≡ judged_of (expr_of t x at) = n ∙ ap judged_part (bare-part t x at entries-key).1 in
          let w : plus r behind ≡ plus sum (entered f k v behind) = (rw (q, i, e) (plus-keyed sum f k v behind)) in
          let y : entered f k v behind ≡ judged_pairs (keys_from t x done first) (pairs_of t x left at) =
          (rw (m, kk, o, ← next_keys, pairs_next t x left at h)
          (sym (pairs-more (keys_from t x done first) (expr_of t x at) (part_of t x (after t at)) (pairs_of t x (left - 1) (after t (after t at)))))) in
          rw u (record {
            all = l.all;
            rest = rw one_less (first_entry t x left at h l.rest).2;
            most = omega arith;
            here = rw (add-one done) next_place;
            from = omega (arith, l.from);
            ends = rw one_less (omega (arith, first-entry-bytes t x left at h, l.ends));
            small = small-joined both v r (after t at - first) (word_at t (after t at + 1)) (after t (after t at) - first) q both_small j (omega (arith, b.least))
                (omega (arith, l.from));
            same = rw (one_less, add-one done) (w ∙ (ap (λ (z : Judged). plus sum z) y ∙ l.same));
          })

pub entries-done : {t x : List ℕ} {first count : ℕ} {sum : Judged} {at done : ℕ} → EntriesLeft t x first count sum at done → count ≤ done →
    (sum ≡ judged_pairs [] (pairs_of t x count first)) × Small sum (entry_bytes t count first)
entries-done {t} {x} {first} {count} {sum} {at} {done} l h =
    let n : count - done ≡ 0 = omega arith in
    let e : plus sum (judged_pairs (keys_from t x done first) (pairs_of t x 0 at)) ≡ judged_pairs [] (pairs_of t x count first) = rw n at l.same in
    let b : at + entry_bytes t 0 at ≡ first + entry_bytes t count first = rw n at l.ends in
    let w : at - first ≡ entry_bytes t count first = omega (arith, b, no-entry-bytes t at) in
    (sym (plus-end sum) ∙ (ap (λ (m : Judged). plus sum m) (sym (nothing-pairs (keys_from t x done first))) ∙ e), rw w at l.small)
