-- A container in the making, of a list's elements or a map's entries: what goes on from an operand, an error, or its last part.
-- Rests on Filling. Assumes nothing.
use Prim.Native.Nat.{ℕ, suc, ◌+◌, ◌≤◌}
use mathlib.Core.Path.{◌≡◌, refl, sym, ap, ◌∙◌, subst}
use mathlib.Core.List.{List, [], ◌∷◌, ◌++◌, append_assoc, append-nil}
use Rattle.meaning.specs.Limits.{Counts, deepest_value}
use Rattle.meaning.specs.Errors.{ErrorAt}
use Rattle.meaning.specs.Value as Meaning
use Rattle.meaning.specs.Value.{Values, nesting}
use Rattle.meaning.specs.Run.{Charge, step, cells, nest, Trace, Result, value, error, Raised, by_rule, by_operand, Eval, Rule, pure, charged, after, from_operand, operand, placed}
use Rattle.meaning.specs.Containers.{Making, ready_in, pad}
use Rattle.meaning.specs.Logic.{raised_error}
use Rattle.meaning.specs.Comprehension as Comprehension
use Rattle.meaning.specs.Limited as Limited
use Rattle.meaning.specs.Limited.{Spent, through, stopped, onward, spend, ended, outcome, cells_built, text_built}
use Rattle.rooms.specs.declared.value.Value.{Value}
use Rattle.rooms.specs.declared.scope.Scope.{Scope}
use Rattle.rooms.specs.Rooms.{Rooms}
use Rattle.rooms.specs.Stands.{Alive, Stands, Agrees, Holds}
use Rattle.machine.specs.declared.outcome.Outcome.{Outcome}
use Rattle.machine.specs.Outcomes.{Res, Does, whole}
use Rattle.meaning_laws.specs.Charges.{counts_of}
use Rattle.machine.specs.Refines.{used_of, error_of, limit_of, Live, Upto, Keeps, Logged, Matches, Refines}
use Rattle.machine.proofs.Keeping.{keeps_same, keeps-lower, keeps-higher, keeps-both, keeps-back, keeps-agrees}
use Rattle.machine.proofs.Traces.{spend-append, from-grows}
use Rattle.machine.proofs.Match.{raised_place, HandsOut}
use Rattle.machine.proofs.Charges.{relog, wholes}
use Rattle.machine.proofs.Operands.{after-assoc}
use Rattle.machine.proofs.Filling.{Filling, since, fill-run, so_far}
use Rattle.rooms.specs.Cells.{Fits}

-- rooms at later counts: what is kept from there is kept from here
pub keeps-from : (l : Counts) (o u c hi : Counts) (r q p : Rooms) → Upto o u → Upto c hi → Keeps u c r q → Keeps o hi q p → Keeps o hi r p
keeps-from l o u c hi r q p a b k z = keeps-both o hi r q p (keeps-lower o u hi r q a (keeps-higher u c hi r q b (keeps-back u c r q k hi z.fits) k)) z

-- p is the record's place; `shape` gives a container's cells, `container` its value
module _ (l : Counts) (src : List ℕ) (p : ℕ) {A : Type 0} (shape : A → Values) (container : A → Meaning.Value) where
  -- the container is whole, or the answer is the error that ended its making
  abbrev pub closing : Result (A × Raised) A → Rule Meaning.Value
  closing (value a) = (nest (nesting (container a)) ∷ [], value (container a))
  closing (error e) = ([], error e.1)

  -- what is left of the making comes to this
  abbrev pub FillsTo : Alive → Counts → ℕ → Trace → Counts → Rooms → Res → Making A → Type 0
  FillsTo B o n tr u r x m =
      Matches B o r x (outcome (placed p (after m closing).1) (spend l (after m closing).0 u)) (cells (pad n (shape (ready_in m.1))) ∷ (tr ++ (after m closing).0))

  module _ {B L : Alive} {o : Counts} {n : ℕ} {rc : Values} {tr : Trace} {u : Counts} {r : Rooms} {s : Scope} {t : Comprehension.Scope} (st : Filling l src B L o n rc tr u r s t) where
    stays : Keeps o u r r
    stays = keeps_same o u r (since l src st) st.begun.roomy

    -- an error ends it
    pub fills-error : (ready : A) → shape ready ≡ rc → (e : Raised) → FillsTo B o n tr u r (Outcome.Error (error_of (raised_error e)) (raised_place p e) (used_of u), r) ([], error (ready, e))
    unfolding after charged ready_in placed outcome ended spend raised_error
    fills-error ready i (by_rule e) = record { good = (refl, subst (λ z. Logged (cells (pad n (shape ready)) ∷ z) B o u r) (sym (append-nil tr)) (subst (λ z. Logged (cells (pad n z) ∷ tr) B o u r) (sym i) (so_far l src st))); keeps = stays }
    fills-error ready i (by_operand e) = record { good = (refl, subst (λ z. Logged (cells (pad n (shape ready)) ∷ z) B o u r) (sym (append-nil tr)) (subst (λ z. Logged (cells (pad n z) ∷ tr) B o u r) (sym i) (so_far l src st))); keeps = stays }

    -- the last part is there
    pub fills-done : (a : A) → shape a ≡ rc → (d : ℕ) (make : ℕ → Value) → suc d ≡ nesting (container a) → (nesting (container a) ≤ deepest_value → Stands (container a) (Live B o u) r (make (d + 1)) × Fits (make (d + 1))) → FillsTo B o n tr u r (whole d make (used_of u), r) (pure a)
    unfolding after charged ready_in pure cells_built text_built
    fills-done a i d make e h =
        relog B o r (whole d make (used_of u), r) (outcome (placed p (value (container a))) (spend l (nest (nesting (container a)) ∷ []) u)) (cells (pad n (shape a)) ∷ tr) (cells (pad n (shape a)) ∷ (tr ++ (nest (nesting (container a)) ∷ [])))
        (ap (λ z. cells_built (cells (pad n (shape a)) ∷ z)) (sym (append-nil tr)) ∙ nest-cells (cells (pad n (shape a)) ∷ tr)) (ap text_built (sym (append-nil tr)) ∙ nest-text tr)
        (wholes l src p B o u r r d make (container a) (cells (pad n (shape a)) ∷ tr) e stays h (subst (λ z. Logged (cells (pad n z) ∷ tr) B o u r) (sym i) (so_far l src st)))
      where
        nest-cells : (z : Trace) → cells_built (z ++ []) ≡ cells_built (z ++ (nest (nesting (container a)) ∷ []))
        nest-cells [] = refl
        nest-cells (step ∷ z) = nest-cells z
        nest-cells (cells vs ∷ z) = ap (Meaning.join vs) (nest-cells z)
        nest-cells (Charge.text x ∷ z) = nest-cells z
        nest-cells (nest k ∷ z) = nest-cells z

        nest-text : (z : Trace) → text_built (z ++ []) ≡ text_built (z ++ (nest (nesting (container a)) ∷ []))
        nest-text [] = refl
        nest-text (step ∷ z) = nest-text z
        nest-text (cells vs ∷ z) = nest-text z
        nest-text (Charge.text x ∷ z) = ap (λ y. x ++ y) (nest-text z)
        nest-text (nest k ∷ z) = nest-text z

    -- what goes on after an operand
    abbrev pub GoesOn : (Res → Res) → (Result Raised Meaning.Value → Making A) → Type 1
    GoesOn K k = (M : Alive) (c : Counts) (q : Rooms) (e : Trace) → Filling l src B M o n rc (tr ++ e) c q s t → Agrees L M r q → (m : Value) (v : Meaning.Value) → Holds v M q m → FillsTo B o n (tr ++ e) c q (K (Outcome.Value m (used_of c), q)) (k (value v))

    abbrev pub EndsSo : (Res → Res) → (Result Raised Meaning.Value → Making A) → Type 1
    EndsSo K k = (M : Alive) (c : Counts) (q : Rooms) (e : Trace) → Filling l src B M o n rc (tr ++ e) c q s t → (x : Raised) → FillsTo B o n (tr ++ e) c q (K (Outcome.Error (error_of (raised_error x)) (raised_place p x) (used_of c), q)) (k (error x))

    pub fills-then : (m : Does) (f : Comprehension.Scope → Eval Meaning.Value) → Refines l src m f → (K : Res → Res) (k : Result Raised Meaning.Value → Making A) → GoesOn K k → EndsSo K k → HandsOut l src K → FillsTo B o n tr u r (K (m s (used_of u) r)) (after (operand (f t)) k)
    unfolding after charged operand from_operand outcome ended onward raised_error
    fills-then m f h K k g e w =
        subst (λ z. Matches B o r (K x) (outcome (placed p z.1) (spend l z.0 u)) (cells (pad n (shape (ready_in (k y₀).1))) ∷ (tr ++ z.0))) (sym (after-assoc (operand (f t)) k closing))
        (subst (λ z. Matches B o r (K x) (outcome (placed p (after (k y₀) closing).1) z) (cells (pad n (shape (ready_in (k y₀).1))) ∷ (tr ++ (T ++ (after (k y₀) closing).0)))) (sym (spend-append l T (after (k y₀) closing).0 u))
        (go (f t).1 (spend l T u) (h L s t u r st.begun)))
      where
        x : Res
        x = m s (used_of u) r

        q : Rooms
        q = x.1

        T : Trace
        T = (f t).0

        y₀ : Result Raised Meaning.Value
        y₀ = from_operand (f t).1

        end : Result Raised Meaning.Value → Counts → Limited.Outcome
        end y c = outcome (placed p (after (k y) closing).1) (spend l (after (k y) closing).0 c)

        built : Result Raised Meaning.Value → Trace
        built y = cells (pad n (shape (ready_in (k y).1))) ∷ (tr ++ (T ++ (after (k y) closing).0))

        on : (y : Result Raised Meaning.Value) (c : Counts) (z : Outcome) → x.0 ≡ z → Keeps u c r q → FillsTo B o n (tr ++ T) c q (K (z, q)) (k y) → Matches B o r (K x) (end y c) (built y)
        on y c z i kept m' =
            subst (λ z'. Matches B o r (K (z', q)) (end y c) (built y)) (sym i)
            (record {
              good = (subst (λ b. Matches B o q (K (z, q)) (end y c) (cells (pad n (shape (ready_in (k y).1))) ∷ b)) (append_assoc tr T (after (k y) closing).0) m').good;
              keeps = keeps-from l o u c (counts_of (end y c)) r q (K (z, q)).1 (since l src st) (from-grows l ((after (k y) closing).0, placed p (after (k y) closing).1) c) kept m'.keeps;
            })

        go : (y : Result ErrorAt Meaning.Value) (z : Spent) → Matches L u r x (outcome y z) T → Matches B o r (K x) (outcome (placed p (after (k (from_operand y)) closing).1) (onward (λ d. spend l (after (k (from_operand y)) closing).0 d) z)) (built (from_operand y))
        go (value v) (through c) i = on (value v) c (Outcome.Value i.good.0 (used_of c)) i.good.1 i.keeps (g (Live L u c) c q T (fill-run l src st c q T i.keeps i.good.3) (keeps-agrees L u c r q st.begun.below i.keeps) i.good.0 v i.good.2)
        go (error z) (through c) i = on (error (by_operand z)) c (Outcome.Error (error_of z.error) z.place (used_of c)) i.good.0 i.keeps (e (Live L u c) c q T (fill-run l src st c q T i.keeps i.good.1) (by_operand z))
        go y (stopped z c) i = subst (λ x'. Matches B o r x' (Limited.exhausted z c) (built (from_operand y))) (sym (ap (λ b. K (b, q)) i.good ∙ w (limit_of z) (used_of c) q)) (record { good = refl; keeps = keeps-lower o u c r q (since l src st) i.keeps })
