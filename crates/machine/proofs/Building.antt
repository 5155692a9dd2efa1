-- New values that are built at once: a present Optional, a list, a text. Rests on Charges, Taking, Texts. Assumes nothing.
use Prim.Native.Nat.{ℕ, suc, ◌+◌, ◌^◌, ◌≤◌, ◌<◌, max}
use mathlib.Core.Path.{◌≡◌, refl, sym, ap, ap₂, ◌∙◌, subst}
use mathlib.Core.Logic.{inr}
use mathlib.Core.List.{List, [], ◌∷◌, ◌++◌, append-nil}
use native.Mathlib.Omega.{arith}
use native.Mathlib.Numerals.{add-one}
use lib.ListN.{length, length-append}
use borrow.Author.Tests.{lt-ltb}
use Rattle.meaning.specs.Limits.{Counts, deepest_value}
use Rattle.meaning.specs.Value as Meaning
use Rattle.meaning.specs.Value.{Scalar, string, bytes, Values, nil, cons, scalar, list, optional_of, nesting, nesting_in, count, join}
use Rattle.meaning.specs.Run.{cells, text, nest, value, pure, charged, placed, built}
use Rattle.meaning.specs.Optionals.{optional_of_rule}
use Rattle.meaning.specs.Numbers.{built_text}
use Rattle.meaning.specs.Comprehension as Comprehension
use Rattle.meaning.specs.Limited.{spend, outcome, ended, cells_built, text_built}
use Rattle.rooms.specs.declared.value.Value.{Value}
use Rattle.rooms.specs.declared.value.CellSpace.{CellSpace}
use Rattle.rooms.specs.declared.value.CellSpace.TheVariants as Cells
use Rattle.rooms.specs.declared.value.TextSpace.{TextSpace}
use Rattle.rooms.specs.declared.value.TextSpace.TheVariants as Text
use Rattle.rooms.specs.declared.scope.Scope.{Scope}
use Rattle.rooms.specs.Value.{nesting_of}
use Rattle.rooms.specs.Cells.{settled, Fits}
use Rattle.rooms.specs.Rooms.{Rooms, cell_at, part}
use Rattle.rooms.specs.Stands.{Alive, TextAt, StandsScalar, Stands, StandsCells, Agrees, Holds}
use Rattle.meaning_laws.proofs.Fine.{join-count}
use Rattle.rooms.proofs.Frame.{frame, frame-cells}
use Rattle.rooms_taking.proofs.Built.{settled-stands}
use Rattle.machine.specs.declared.outcome.Outcome.TheVariants as Outcome
use Rattle.machine.specs.Outcomes.{with_text, written, whole, present}
use Rattle.machine.specs.Numbers.{both_texts, text_sum, both_lists}
use Rattle.machine.specs.Refines.{used_of, FitCells, Below, Live, Roomy, Keeps, Matches, Start}
use Rattle.machine.proofs.Words.{store_same, store_keeps}
use Rattle.machine.proofs.Keeping.{agrees-narrow, keeps-both, keeps_then, keeps-agrees, roomy-same, agrees-sub, live_below, live-sub}
use Rattle.machine.proofs.Taking.{took, upto-took, taken, taken-keeps, copied_to, copy-keeps, copy-stands}
use Rattle.machine.proofs.Texts.{both-keep, both-spell}
use Rattle.machine.proofs.Traces.{nesting-join, stands-join}
use Rattle.machine.proofs.Match.{Says}
use Rattle.machine.proofs.Charges.{wrote, takes, writes, wholes}
use Rattle.rooms.proofs.Depths.{stands-nesting}
use Rattle.rooms.specs.Spans.{span, row}

module _ (l : Counts) (src : List ℕ) where
  -- ---- a present Optional

  present-end : {L : Alive} {u : Counts} {r : Rooms} {s : Scope} {t : Comprehension.Scope} → Start l src L u r s t → (p : ℕ) (m : Value) (v : Meaning.Value) → Holds v L r m → (f : Roomy (took u 1) r)
      → Matches L u r (whole (nesting_of m) (λ d. Value.OptionalOf d Cells.Evaluation u.cells) (used_of (took u 1)), written (taken u 1 r f) u.cells m) (outcome (placed p (value (optional_of v))) (spend l (nest (nesting (optional_of v)) ∷ []) (took u 1))) (cells (cons v nil) ∷ nest (nesting (optional_of v)) ∷ [])
  unfolding Stands nesting cells_built text_built count join
  present-end {L} {u} {r} a p m v h f =
      wholes l src p L u top r q (nesting_of m) (λ d. Value.OptionalOf d Cells.Evaluation k) (optional_of v) (cells (cons v nil) ∷ nest (suc (nesting v)) ∷ []) (ap suc deep) kept
      (λ n. ((Cells.Evaluation, k, ap (λ d. Value.OptionalOf d Cells.Evaluation k) (add-one (nesting_of m) ∙ ap suc deep), alive, there), (omega (arith, deep), omega (arith, f.cells))))
      (record { cells = (alive, there, tt); counted = refl; bytes = refl; bytes_counted = omega arith })
    where
      k : ℕ
      k = u.cells

      top : Counts
      top = took u 1

      z : Rooms
      z = taken u 1 r f

      q : Rooms
      q = written z k m

      deep : nesting_of m ≡ nesting v
      deep = stands-nesting L r v m h.stands

      first : Keeps u top r z
      first = taken-keeps u 1 r f

      fit : Roomy top z
      fit = roomy-same top r z first.sized first.text_sized f

      second : Keeps u top z q
      second = store_keeps u top z k m (omega arith) (omega arith) (upto-took u 1) fit h.fits

      kept : Keeps u top r q
      kept = keeps-both u top r z q first second

      alive : (Live L u top).cells Cells.Evaluation k
      alive = inr (refl, omega arith, omega arith)

      there : Stands v (Live L u top) q (cell_at q Cells.Evaluation k)
      there = subst (λ x. Stands v (Live L u top) q x) (sym (store_same z k m (omega (arith, fit.cells)) h.fits)) (frame L (Live L u top) r q (keeps-agrees L u top r q a.below kept) v (settled m) (settled-stands L r v m h.fits h.stands))

  pub present-says : {L : Alive} {u : Counts} {r : Rooms} {s : Scope} {t : Comprehension.Scope} → Start l src L u r s t → (p : ℕ) (m : Value) (v : Meaning.Value) → Holds v L r m → Says l src p L u r (present m (used_of u) r) (optional_of_rule v)
  unfolding optional_of_rule built charged pure count
  present-says {L} {u} {r} a p m v h = takes l src a p 1 (cons v nil) refl (λ w q. (whole (nesting_of m) (λ d. Value.OptionalOf d Cells.Evaluation u.cells) w, written q u.cells m)) (nest (nesting (optional_of v)) ∷ [], value (optional_of v)) (λ f. present-end a p m v h f)

  -- ---- a list, whose nesting is known to be allowed

  pub list-end : {L : Alive} {u : Counts} {r : Rooms} {s : Scope} {t : Comprehension.Scope} → Start l src L u r s t → (p n d : ℕ) (ws : Values) (q : Rooms) → n ≡ count ws → d ≡ suc (nesting_in ws) → d ≤ deepest_value → Roomy (took u n) r → Keeps u (took u n) r q → StandsCells ws (Live L u (took u n)) q Cells.Evaluation u.cells
      → Matches L u r (Outcome.Value (Value.List d (row Cells.Evaluation u.cells n)) (used_of (took u n)), q) (outcome (placed p (value (list ws))) (spend l (nest (nesting (list ws)) ∷ []) (took u n))) (cells ws ∷ nest (nesting (list ws)) ∷ [])
  unfolding Stands nesting cells_built text_built join
  list-end {L} {u} {r} a p n d ws q e i deep f kept there =
      subst (λ o. Matches L u r (o, q) (outcome (placed p (value (list ws))) (spend l (nest (suc (nesting_in ws)) ∷ []) top)) (cells ws ∷ nest (suc (nesting_in ws)) ∷ [])) said
      (wholes l src p L u top r q (nesting_in ws) (λ j. Value.List j (row Cells.Evaluation u.cells n)) (list ws) (cells ws ∷ nest (suc (nesting_in ws)) ∷ []) refl kept
      (λ x. ((Cells.Evaluation, u.cells, ap₂ (λ j c. Value.List j (row Cells.Evaluation u.cells c)) (add-one (nesting_in ws)) e, there), (omega (arith, i), omega (arith, f.cells), omega (arith, f.cells))))
      (record { cells = subst (λ vs. StandsCells vs (Live L u top) q Cells.Evaluation u.cells) (sym (none_more ws)) there; counted = ap (λ vs. u.cells + count vs) (none_more ws) ∙ ap (λ c. u.cells + c) (sym e); bytes = refl; bytes_counted = omega arith }))
    where
      top : Counts
      top = took u n

      none_more : (vs : Values) → join vs nil ≡ vs
      none_more nil = refl
      none_more (cons v vs) = ap (cons v) (none_more vs)

      said : whole (nesting_in ws) (λ j. Value.List j (row Cells.Evaluation u.cells n)) (used_of top) ≡ Outcome.Value (Value.List d (row Cells.Evaluation u.cells n)) (used_of top)
      said = rw (lt-ltb (nesting_in ws) deepest_value (omega (arith, i))) (ap (λ j. Outcome.Value (Value.List j (row Cells.Evaluation u.cells n)) (used_of top)) (add-one (nesting_in ws) ∙ sym i))

  -- ---- `+` on lists

  module _ {L : Alive} {u : Counts} {r : Rooms} {s : Scope} {t : Comprehension.Scope} (st : Start l src L u r s t) (vs ws : Values) (x y : CellSpace) (b c : ℕ) (hx : StandsCells vs L r x b) (hy : StandsCells ws L r y c) (f : Roomy (took u (count vs + count ws)) r) where
    abbrev one : Counts
    one = took u (count vs)

    abbrev two : Counts
    two = took one (count ws)

    abbrev top : Counts
    top = took u (count vs + count ws)

    same-top : two ≡ top
    same-top = ap (λ i. record { steps = u.steps; cells = i; bytes = u.bytes }) (assoc u.cells (count vs) (count ws))
      where
        assoc : (i j h : ℕ) → i + j + h ≡ i + (j + h)
        assoc i j h = omega arith

    abbrev z : Rooms
    z = taken u (count vs + count ws) r f

    abbrev q : Rooms
    q = copied_to z x b u.cells (count vs)

    abbrev o : Rooms
    o = copied_to q y c (u.cells + count vs) (count ws)

    kept-z : Keeps u top r z
    kept-z = taken-keeps u (count vs + count ws) r f

    fits-z : FitCells z
    fits-z = kept-z.fitting st.fitting

    agree-z : Agrees L L r z
    agree-z = agrees-narrow L (Live L u top) r z (keeps-agrees L u top r z st.below kept-z)

    fit-z : Roomy one z
    fit-z = roomy-same one r z kept-z.sized kept-z.text_sized (record { cells = omega (arith, f.cells); bytes = f.bytes })

    kept-q : Keeps u one z q
    kept-q = copy-keeps (count vs) x b u z fits-z fit-z

    below_one : Below (Live L u one) one
    below_one = live_below L u one st.below kept-q.grows

    fit-q : Roomy two q
    fit-q = roomy-same two r q (kept-q.sized ∙ kept-z.sized) (kept-q.text_sized ∙ kept-z.text_sized) (subst (λ i. Roomy i r) (sym same-top) f)

    kept-o : Keeps one two q o
    kept-o = copy-keeps (count ws) y c one q (kept-q.fitting fits-z) fit-q

    pub sum_kept : Keeps u top r o
    sum_kept = keeps-both u top r z o kept-z (subst (λ i. Keeps u i z o) same-top (keeps_then u one two z q o kept-q kept-o))

    abbrev both-live : Alive
    both-live = Live (Live L u one) one two

    first-there : StandsCells vs both-live o Cells.Evaluation u.cells
    first-there =
        frame-cells (Live L u one) both-live q o (keeps-agrees (Live L u one) one two q o below_one kept-o) vs Cells.Evaluation u.cells
        (copy-stands vs L x b u z st.below fits-z fit-z (frame-cells L L r z agree-z vs x b hx))

    second-there : StandsCells ws both-live o Cells.Evaluation (u.cells + count vs)
    second-there =
        copy-stands ws (Live L u one) y c one q below_one (kept-q.fitting fits-z) fit-q
        (frame-cells L (Live L u one) z q (keeps-agrees L u one z q st.below kept-q) ws y c (frame-cells L L r z agree-z ws y c hy))

    pub sum-there : StandsCells (join vs ws) (Live L u top) o Cells.Evaluation u.cells
    sum-there =
        subst (λ i. StandsCells (join vs ws) (Live L u i) o Cells.Evaluation u.cells) same-top
        (frame-cells both-live (Live L u two) o o (agrees-sub both-live (Live L u two) o (live-sub L u one two kept-q.grows kept-o.grows) (omega arith)) (join vs ws) Cells.Evaluation u.cells
        (stands-join both-live o vs ws Cells.Evaluation u.cells first-there second-there))

  pub lists-say : {L : Alive} {u : Counts} {r : Rooms} {s : Scope} {t : Comprehension.Scope} → Start l src L u r s t → (p d : ℕ) (vs ws : Values) (x y : CellSpace) (b c : ℕ) → d ≡ max (suc (nesting_in vs)) (suc (nesting_in ws)) → d ≤ deepest_value → StandsCells vs L r x b → StandsCells ws L r y c
      → Says l src p L u r (both_lists d x b (count vs) y c (count ws) (used_of u) r) (built (join vs ws) (list (join vs ws)))
  unfolding built charged pure
  lists-say {L} {u} {r} a p d vs ws x y b c e deep hx hy =
      takes l src a p (count vs + count ws) (join vs ws) (sym (join-count vs ws)) (λ i q. (Outcome.Value (Value.List d (row Cells.Evaluation u.cells (count vs + count ws))) i, copied_to (copied_to q x b u.cells (count vs)) y c (u.cells + count vs) (count ws))) (nest (nesting (list (join vs ws))) ∷ [], value (list (join vs ws)))
      (λ f. list-end a p (count vs + count ws) d (join vs ws) (o a vs ws x y b c hx hy f) (sym (join-count vs ws)) deepest deep f (sum_kept a vs ws x y b c hx hy f) (sum-there a vs ws x y b c hx hy f))
    where
      deepest : d ≡ suc (nesting_in (join vs ws))
      deepest = e ∙ ups (nesting_in vs) (nesting_in ws) ∙ ap suc (sym (nesting-join vs ws))
        where
          ups : (i j : ℕ) → max (suc i) (suc j) ≡ suc (max i j)
          ups i j = omega arith

  -- ---- `+` on texts

  -- both kinds of text
  pub record Spelling (kind : List ℕ → Scalar) (make : ℕ → ℕ → Value) : Type 1 where
    pub stands : (L : Alive) (r : Rooms) (s : List ℕ) (a n : ℕ) → n ≡ length s → TextAt s L r Text.Evaluation a → Stands (scalar (kind s)) L r (make a n)
    pub fits : (a n : ℕ) → a < 2 ^ 16 → n < 2 ^ 16 → Fits (make a n)

  pub string-spelling : Spelling string (λ a n. Value.String (span Text.Evaluation a n))
  unfolding Stands StandsScalar
  string-spelling = record { stands = λ L r s a n e h. (Text.Evaluation, a, ap (λ k. Value.String (span Text.Evaluation a k)) e, h); fits = λ a n i j. (i, j) }

  pub bytes-spelling : Spelling bytes (λ a n. Value.Bytes (span Text.Evaluation a n))
  unfolding Stands StandsScalar
  bytes-spelling = record { stands = λ L r s a n e h. (Text.Evaluation, a, ap (λ k. Value.Bytes (span Text.Evaluation a k)) e, h); fits = λ a n i j. (i, j) }

  pub texts-say : {L : Alive} {u : Counts} {r : Rooms} {s : Scope} {t : Comprehension.Scope} → Start l src L u r s t → (p : ℕ) (kind : List ℕ → Scalar) (make : ℕ → ℕ → Value) → Spelling kind make → (v w : List ℕ) (x y : TextSpace) (a c : ℕ) → TextAt v L r x a → TextAt w L r y c
      → Says l src p L u r (text_sum make x a (length v) y c (length w) (used_of u) r) (built_text kind (v ++ w))
  unfolding built_text charged pure placed outcome ended spend cells_built text_built count Stands nesting
  texts-say {L} {u} {r} st p kind make g v w x y a c hv hw =
      writes l src st p (length v + length w) (v ++ w) (sym (length-append v w)) _ ([], value (scalar (kind (v ++ w)))) (λ f. end f)
    where
      n : ℕ
      n = length v + length w

      top : Counts
      top = wrote u n

      same : n ≡ length (v ++ w)
      same = sym (length-append v w)

      q : Rooms
      q = with_text r (both_texts r u.bytes x a (length v) y c (length w))

      end : Roomy top r → Matches L u r (Outcome.Value (make u.bytes n) (used_of top), q) (outcome (placed p (value (scalar (kind (v ++ w))))) (spend l [] top)) (text (v ++ w) ∷ [])
      end f =
          let kept : Keeps u top r q = both-keep v w L u r x y a c st.below f hv hw in
          let spells : part q.text u.bytes (length (v ++ w)) ≡ v ++ w = subst (λ i. part q.text u.bytes i ≡ v ++ w) same (both-spell v w L u r x y a c st.below f hv hw) in
          let there : TextAt (v ++ w) (Live L u top) q Text.Evaluation u.bytes = record { within = omega (arith, same); spells = spells } in
          record {
            good = (
              make u.bytes n,
              refl,
              record { stands = g.stands (Live L u top) q (v ++ w) u.bytes n same there; fits = g.fits u.bytes n (omega (arith, f.bytes)) (omega (arith, f.bytes)); nests = omega arith },
              record { cells = tt; counted = omega arith; bytes = subst (λ z. part q.text u.bytes (length z) ≡ z) (sym (alone (v ++ w))) spells; bytes_counted = ap (λ z. u.bytes + length z) (alone (v ++ w)) ∙ ap (λ i. u.bytes + i) (sym same) },
            );
            keeps = kept;
          }
        where
          alone : (z : List ℕ) → z ++ [] ≡ z
          alone z = append-nil z
