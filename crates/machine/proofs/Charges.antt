-- Charges met: a record's step, cells, text, pairs of values, the nesting of a new value. Rests on Match, Taking. Assumes nothing.
use Prim.Native.Nat.{ℕ, suc, ◌+◌, ◌≤◌, ◌<◌}
use mathlib.Core.Path.{◌≡◌, refl, sym, ap, subst}
use mathlib.Core.Logic.{◌⊎◌}
use mathlib.Core.List.{List, [], ◌∷◌}
use mathlib.Core.Bool.{Bool, true, false, cond}
use native.Mathlib.Omega.{arith}
use native.Mathlib.Numerals.{add-one}
use lib.Dec.{leb}
use lib.ListN.{length}
use borrow.Author.Tests.{leb-true, leb-false}
use Rattle.meaning.specs.Limits.{Counts, deepest_value}
use Rattle.meaning.specs.Value as Meaning
use Rattle.meaning.specs.Value.{Values, count, nesting}
use Rattle.meaning.specs.Run.{step, cells, text, nest, Trace, value, Rule, charged, placed, here, begin}
use Rattle.meaning.specs.Comprehension as Comprehension
use Rattle.meaning.specs.Limited as Limited
use Rattle.meaning.specs.Limited.{spend, onward, make, ended, outcome, cells_built, text_built, charge, fits, through, stopped}
use Rattle.rooms.specs.declared.value.Value.{Value}
use Rattle.rooms.specs.declared.value.CellSpace.TheVariants as Cells
use Rattle.rooms.specs.declared.scope.Scope.{Scope}
use Rattle.rooms.specs.Rooms.{Rooms, part}
use Rattle.rooms.specs.Stands.{Alive, Stands, StandsCells, Holds}
use Rattle.rooms_taking.specs.Taking.{cell_room, text_room, taken_of, cells_taken}
use Rattle.rooms_taking.proofs.TakingSteps.{cells-kept}
use Rattle.machine.specs.declared.outcome.Used.{Used}
use Rattle.machine.specs.declared.outcome.Limit.TheVariants as Limit
use Rattle.machine.specs.declared.outcome.Outcome.{Outcome}
use Rattle.machine.specs.Outcomes.{Res, Does, with_cells, with_words, after_step, recorded, on_taken, taking, whole}
use Rattle.meaning_laws.specs.Charges.{counts_of}
use Rattle.machine.specs.Refines.{used_of, Live, Roomy, Keeps, Logged, Good, Matches, Start, Meets}
use Rattle.machine.proofs.Keeping.{upto-same, keeps_same, keeps-steps}
use Rattle.machine.proofs.Taking.{took, taken}
use Rattle.machine.proofs.Traces.{paid, from-charge, cells-step, text-step}
use Rattle.machine.proofs.Match.{Says}
use Rattle.rooms.specs.Cells.{Fits}
use Rattle.std.specs.Prelude.{None, Some}

-- n bytes more, and n steps more
abbrev pub wrote : Counts → ℕ → Counts
wrote u n = record { steps = u.steps; cells = u.cells; bytes = u.bytes + n }

abbrev pub walked : Counts → ℕ → Counts
walked u n = record { steps = n; cells = u.cells; bytes = u.bytes }

-- ---- what was built, and from where, said otherwise

logged-as : (L : Alive) (lo hi low : Counts) (q : Rooms) (t v : Trace) → cells_built t ≡ cells_built v → text_built t ≡ text_built v → lo.cells ≡ low.cells → lo.bytes ≡ low.bytes → Logged t L lo hi q → Logged v L low hi q
logged-as L lo hi low q t v e f a b h =
    record {
      cells = subst (λ n. StandsCells (cells_built v) (record { cells = λ space i. L.cells space i ⊎ ((space ≡ Cells.Evaluation) × (n ≤ i) × (i < hi.cells)); bytes = hi.bytes }) q Cells.Evaluation n) a (subst (λ vs. StandsCells vs (Live L lo hi) q Cells.Evaluation lo.cells) e h.cells);
      counted = omega (arith, ap count e, a, h.counted);
      bytes = subst (λ n. part q.text n (length (text_built v)) ≡ text_built v) b (subst (λ z. part q.text lo.bytes (length z) ≡ z) f h.bytes);
      bytes_counted = omega (arith, ap length f, b, h.bytes_counted);
    }

held_low : (L : Alive) (lo hi low : Counts) (v : Meaning.Value) (q : Rooms) (m : Value) → lo.cells ≡ low.cells → Holds v (Live L lo hi) q m → Holds v (Live L low hi) q m
held_low L lo hi low v q m a h = subst (λ n. Holds v (record { cells = λ space i. L.cells space i ⊎ ((space ≡ Cells.Evaluation) × (n ≤ i) × (i < hi.cells)); bytes = hi.bytes }) q m) a h

good-as : (L : Alive) (lo low : Counts) (q : Rooms) (o : Outcome) (end : Limited.Outcome) (t v : Trace) → cells_built t ≡ cells_built v → text_built t ≡ text_built v → lo.cells ≡ low.cells → lo.bytes ≡ low.bytes → Good L lo q o t end → Good L low q o v end
good-as L lo low q o (Limited.value w c) t v e f a b h = (h.0, h.1, held_low L lo c low w q h.0 a h.2, logged-as L lo c low q t v e f a b h.3)
good-as L lo low q o (Limited.error x c) t v e f a b h = (h.0, logged-as L lo c low q t v e f a b h.1)
good-as L lo low q o (Limited.exhausted x c) t v e f a b h = h

-- traces that build the same
pub relog : (L : Alive) (lo : Counts) (r : Rooms) (x : Res) (end : Limited.Outcome) (t v : Trace) → cells_built t ≡ cells_built v → text_built t ≡ text_built v → Matches L lo r x end t → Matches L lo r x end v
relog L lo r x end t v e f z = record { good = good-as L lo lo x.1 x.0 end t v e f refl refl z.good; keeps = z.keeps }

-- counts that differ in steps alone
pub relow : (L : Alive) (lo low : Counts) (r : Rooms) (x : Res) (end : Limited.Outcome) (t : Trace) → lo.cells ≡ low.cells → lo.bytes ≡ low.bytes → Matches L lo r x end t → Matches L low r x end t
relow L lo low r x end t a b z = record { good = good-as L lo low x.1 x.0 end t t refl refl a b z.good; keeps = keeps-steps lo (counts_of end) low (counts_of end) r x.1 a b refl refl z.keeps }

module _ (l : Counts) (src : List ℕ) where
  pub start-walked : {L : Alive} {u : Counts} {r : Rooms} {s : Scope} {t : Comprehension.Scope} → Start l src L u r s t → (n : ℕ) → Start l src L (walked u n) r s t
  start-walked a n =
      record { below = record { cells = a.below.cells; bytes = a.below.bytes }; cell_limit = a.cell_limit; text_limit = a.text_limit; literals = a.literals; roomy = record { cells = a.roomy.cells; bytes = a.roomy.bytes }; fitting = a.fitting; scope = a.scope }

  -- nothing was charged that would pass its limit
  stops : {L : Alive} {u : Counts} {r : Rooms} {s : Scope} {t : Comprehension.Scope} → Start l src L u r s t → Keeps u u r r
  stops {L} {u} {r} a = keeps_same u u r (upto-same u) a.roomy

  -- a record: its step, then its rule
  pub step_then : {L : Alive} {u : Counts} {r : Rooms} {s : Scope} {t : Comprehension.Scope} → Start l src L u r s t → (p : ℕ) (body : Does) (ρ : Rule Meaning.Value)
      → (Start l src L (walked u (suc u.steps)) r s t → Says l src p L (walked u (suc u.steps)) r (body s (used_of (walked u (suc u.steps))) r) ρ)
      → Meets l src L u r (recorded l.steps body s (used_of u) r) (begin p ρ)
  unfolding begin charged here charge fits Limited.limit_of
  step_then {L} {u} {r} {s} {t} a p body ρ g =
      subst (λ end. Matches L u r (recorded l.steps body s (used_of u) r) end (step ∷ ρ.0)) (sym (from-charge l step (ρ.0, placed p ρ.1) u)) (go (leb (suc u.steps) l.steps))
    where
      w : Counts
      w = walked u (suc u.steps)

      go : (b : Bool) → Matches L u r (after_step b (used_of u) r (λ z. body s z r)) (paid b step u (λ d. outcome (placed p ρ.1) (spend l ρ.0 d))) (step ∷ ρ.0)
      go true = subst (λ n. Matches L u r (body s (record { steps = n; cells = u.cells; bytes = u.bytes }) r) (outcome (placed p ρ.1) (spend l ρ.0 w)) (step ∷ ρ.0)) (sym (add-one u.steps)) (relog L u r (body s (used_of w) r) (outcome (placed p ρ.1) (spend l ρ.0 w)) ρ.0 (step ∷ ρ.0) (cells-step [] ρ.0) (text-step [] ρ.0) (relow L w u r (body s (used_of w) r) (outcome (placed p ρ.1) (spend l ρ.0 w)) ρ.0 refl refl (g (start-walked a (suc u.steps)))))
      go false = record { good = refl; keeps = stops a }

  -- cells are taken, or not
  pub takes : {L : Alive} {u : Counts} {r : Rooms} {s : Scope} {t : Comprehension.Scope} → Start l src L u r s t → (p n : ℕ) (vs : Values) → n ≡ count vs → (k : Used → Rooms → Res) (ρ : Rule Meaning.Value)
      → ((f : Roomy (took u n) r) → Matches L u r (k (used_of (took u n)) (taken u n r f)) (outcome (placed p ρ.1) (spend l ρ.0 (took u n))) (cells vs ∷ ρ.0))
      → Says l src p L u r (taking n (used_of u) r k) (charged (cells vs ∷ []) ρ)
  unfolding charged charge fits Limited.limit_of taken_of
  takes {L} {u} {r} {s} {t} a p n vs e k ρ g =
      subst (λ end. Matches L u r (taking n (used_of u) r k) end (cells vs ∷ ρ.0)) (sym (from-charge l (cells vs) (ρ.0, placed p ρ.1) u))
      (subst (λ m. Matches L u r (taking n (used_of u) r k) (paid (leb (u.cells + m) l.cells) (cells vs) u end) (cells vs ∷ ρ.0)) e
      (subst (λ m. Matches L u r (taking n (used_of u) r k) (paid (leb (u.cells + n) m) (cells vs) u end) (cells vs ∷ ρ.0)) a.cell_limit
      (go (leb (u.cells + n) (cell_room r.cells)) refl)))
    where
      end : Counts → Limited.Outcome
      end d = outcome (placed p ρ.1) (spend l ρ.0 d)

      q : Rooms
      q = with_words r (cells_taken r.cells u.cells n)

      go : (b : Bool) → leb (u.cells + n) (cell_room r.cells) ≡ b → Matches L u r (on_taken (cond b (Some (u.cells + n)) None) (λ top. k (with_cells (used_of u) top) q) (Outcome.Exhausted Limit.Cells (used_of u), q)) (paid b (cells vs) u end) (cells vs ∷ ρ.0)
      go true h = subst (λ m. Matches L u r (k (used_of (took u n)) q) (end (took u m)) (cells vs ∷ ρ.0)) e (g (record { cells = leb-true (u.cells + n) (cell_room r.cells) h; bytes = a.roomy.bytes }))
      go false h = record { good = refl; keeps = subst (λ w. Keeps u u r (with_words r w)) (cells-kept r.cells u.cells n (leb-false (u.cells + n) (cell_room r.cells) h)) (stops a) }

  -- text is taken, or not
  pub writes : {L : Alive} {u : Counts} {r : Rooms} {s : Scope} {t : Comprehension.Scope} → Start l src L u r s t → (p n : ℕ) (bs : List ℕ) → n ≡ length bs → (k : ℕ → Res) (ρ : Rule Meaning.Value)
      → ((f : Roomy (wrote u n) r) → Matches L u r (k (u.bytes + n)) (outcome (placed p ρ.1) (spend l ρ.0 (wrote u n))) (text bs ∷ ρ.0))
      → Says l src p L u r (on_taken (taken_of (text_room r.text) u.bytes n) k (Outcome.Exhausted Limit.Text (used_of u), r)) (charged (text bs ∷ []) ρ)
  unfolding charged charge fits Limited.limit_of taken_of
  writes {L} {u} {r} {s} {t} a p n bs e k ρ g =
      subst (λ z. Matches L u r (does (leb (u.bytes + n) (text_room r.text))) z (text bs ∷ ρ.0)) (sym (from-charge l (text bs) (ρ.0, placed p ρ.1) u))
      (subst (λ m. Matches L u r (does (leb (u.bytes + n) (text_room r.text))) (paid (leb (u.bytes + m) l.bytes) (text bs) u end) (text bs ∷ ρ.0)) e
      (subst (λ m. Matches L u r (does (leb (u.bytes + n) (text_room r.text))) (paid (leb (u.bytes + n) m) (text bs) u end) (text bs ∷ ρ.0)) a.text_limit
      (go (leb (u.bytes + n) (text_room r.text)) refl)))
    where
      end : Counts → Limited.Outcome
      end d = outcome (placed p ρ.1) (spend l ρ.0 d)

      does : Bool → Res
      does b = on_taken (cond b (Some (u.bytes + n)) None) k (Outcome.Exhausted Limit.Text (used_of u), r)

      go : (b : Bool) → leb (u.bytes + n) (text_room r.text) ≡ b → Matches L u r (does b) (paid b (text bs) u end) (text bs ∷ ρ.0)
      go true h = subst (λ m. Matches L u r (k (u.bytes + n)) (end (wrote u m)) (text bs ∷ ρ.0)) e (g (record { cells = a.roomy.cells; bytes = leb-true (u.bytes + n) (text_room r.text) h }))
      go false h = record { good = refl; keeps = stops a }

  -- a new value is whole: its nesting is judged
  pub wholes : (p : ℕ) (L : Alive) (lo u : Counts) (r q : Rooms) (d : ℕ) (make : ℕ → Value) (v : Meaning.Value) (t : Trace) → suc d ≡ nesting v → Keeps lo u r q → (nesting v ≤ deepest_value → Stands v (Live L lo u) q (make (d + 1)) × Fits (make (d + 1))) → Logged t L lo u q
      → Matches L lo r (whole d make (used_of u), q) (outcome (placed p (value v)) (spend l (nest (nesting v) ∷ []) u)) t
  unfolding charge fits Limited.limit_of spend placed outcome ended onward make
  wholes p L lo u r q d make v t e k h j = subst (λ n. Matches L lo r (whole d make (used_of u), q) (outcome (value v) (onward (λ c. through c) (cond (leb n deepest_value) (through u) (stopped (Limited.limit_of (nest (nesting v))) u)))) t) e (go (leb (suc d) deepest_value) refl)
    where
      go : (b : Bool) → leb (suc d) deepest_value ≡ b → Matches L lo r (cond b (Outcome.Value (make (d + 1)) (used_of u)) (Outcome.Exhausted Limit.Nesting (used_of u)), q) (outcome (value v) (onward (λ c. through c) (cond b (through u) (stopped (Limited.limit_of (nest (nesting v))) u)))) t
      go true i = record { good = (make (d + 1), refl, record { stands = (h deep).0; fits = (h deep).1; nests = deep }, j); keeps = k }
        where
          deep : nesting v ≤ deepest_value
          deep = subst (λ n. n ≤ deepest_value) e (leb-true (suc d) deepest_value i)
      go false i = record { good = refl; keeps = k }
