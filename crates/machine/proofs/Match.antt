-- A run that goes on from another: the laws by which every record's rule is met. Rests on Keeping, Traces. Assumes nothing.
-- A rule at place p is met (`Says`) where its record is. `then` goes on from whatever a run came to; the others are its uses.
use Prim.Native.Nat.{ℕ, ◌+◌}
use mathlib.Core.Path.{◌≡◌, refl, sym, ap, ap₂, ◌∙◌, subst}
use mathlib.Core.Logic.{inl}
use mathlib.Core.List.{List, [], ◌++◌}
use native.Mathlib.Omega.{arith}
use lib.ListN.{length, length-append}
use Rattle.meaning.specs.Limits.{Counts}
use Rattle.meaning.specs.Errors as Errors
use Rattle.meaning.specs.Errors.{ErrorAt}
use Rattle.meaning.specs.Value as Meaning
use Rattle.meaning.specs.Value.{count}
use Rattle.meaning.specs.Run.{Trace, Result, value, error, Raised, by_rule, by_operand, Rule, pure, charged, after, fail, from_operand, placed}
use Rattle.meaning.specs.Comprehension as Comprehension
use Rattle.meaning.specs.Logic.{raised_error}
use Rattle.meaning.specs.Limited as Limited
use Rattle.meaning.specs.Limited.{Spent, through, stopped, onward, spend, ended, outcome, cells_built, text_built}
use Rattle.rooms.specs.declared.value.Value.{Value}
use Rattle.rooms.specs.declared.value.CellSpace.TheVariants as Cells
use Rattle.rooms.specs.declared.scope.Scope.{Scope}
use Rattle.rooms.specs.Rooms.{Rooms, part}
use Rattle.rooms.specs.Stands.{Alive, Stands, StandsCells, Agrees, Holds}
use Rattle.meaning_laws.proofs.Fine.{join-count}
use Rattle.rooms.proofs.Frame.{frame-cells, part_same, holds_frame}
use Rattle.machine.specs.declared.outcome.Used.{Used}
use Rattle.machine.specs.declared.outcome.Limit.{Limit}
use Rattle.machine.specs.declared.outcome.Outcome.{Outcome}
use Rattle.machine.specs.Outcomes.{Res}
use Rattle.meaning_laws.specs.Charges.{counts_of}
use Rattle.machine.specs.Refines.{used_of, error_of, limit_of, Live, Upto, Keeps, Logged, Good, Matches, Below, Start}
use Rattle.machine.proofs.Keeping.{upto-same, keeps-cells, keeps-text, keeps-roomy, keeps_same, keeps_then, keeps-agrees, agrees-sub, agrees-then, live_below, live-sub}
use Rattle.machine.proofs.Traces.{stands-join, spend-append, cells-append, text-append, part-add}
use Rattle.rooms.proofs.Scopes.{scope-frame}

-- ---- what was built, one after the other

pub logged-nothing : (L : Alive) (u : Counts) (q : Rooms) → Logged [] L u u q
unfolding cells_built text_built count Stands
logged-nothing L u q = record { cells = tt; counted = omega arith; bytes = refl; bytes_counted = omega arith }

pub logged-join : (L : Alive) (lo mid hi : Counts) (q p : Rooms) (t u : Trace) → Below (Live L lo mid) mid → Keeps mid hi q p → Upto lo mid → Logged t L lo mid q → Logged u (Live L lo mid) mid hi p → Logged (t ++ u) L lo hi p
logged-join L lo mid hi q p t u b k a x y =
    record {
      cells = subst (λ vs. StandsCells vs (Live L lo hi) p Cells.Evaluation lo.cells) (sym (cells-append t u))
          (stands-join (Live L lo hi) p (cells_built t) (cells_built u) Cells.Evaluation lo.cells
          (frame-cells (Live L lo mid) (Live L lo hi) q p first (cells_built t) Cells.Evaluation lo.cells x.cells)
          (subst (λ i. StandsCells (cells_built u) (Live L lo hi) p Cells.Evaluation i) (sym x.counted)
          (frame-cells (Live (Live L lo mid) mid hi) (Live L lo hi) p p second (cells_built u) Cells.Evaluation mid.cells y.cells)));
      counted = omega (arith, ap count (cells-append t u), join-count (cells_built t) (cells_built u), x.counted, y.counted);
      bytes = subst (λ s. part p.text lo.bytes (length s) ≡ s) (sym (text-append t u))
          (ap (part p.text lo.bytes) (length-append (text_built t) (text_built u))
          ∙ part-add p.text lo.bytes (length (text_built t)) (length (text_built u))
          ∙ ap₂ (λ s z. s ++ z) front back);
      bytes_counted = omega (arith, ap length (text-append t u), length-append (text_built t) (text_built u), x.bytes_counted, y.bytes_counted);
    }
  where
    second : Agrees (Live (Live L lo mid) mid hi) (Live L lo hi) p p
    second = agrees-sub (Live (Live L lo mid) mid hi) (Live L lo hi) p (live-sub L lo mid hi a k.grows) (omega arith)

    first : Agrees (Live L lo mid) (Live L lo hi) q p
    first = agrees-then (Live L lo mid) (Live (Live L lo mid) mid hi) (Live L lo hi) q p p (keeps-agrees (Live L lo mid) mid hi q p b k) second

    front : part p.text lo.bytes (length (text_built t)) ≡ text_built t
    front = part_same mid.bytes lo.bytes (length (text_built t)) q.text p.text (omega (arith, x.bytes_counted)) k.text_low ∙ x.bytes

    back : part p.text (lo.bytes + length (text_built t)) (length (text_built u)) ≡ text_built u
    back = ap (λ i. part p.text i (length (text_built u))) x.bytes_counted ∙ y.bytes

-- ---- a run seen from where the one before it began

good-weaken : (L : Alive) (lo mid : Counts) (q p : Rooms) (o : Outcome) (end : Limited.Outcome) (t u : Trace) → Below (Live L lo mid) mid → Upto lo mid → Keeps mid (counts_of end) q p → Logged t L lo mid q → Good (Live L lo mid) mid p o u end → Good L lo p o (t ++ u) end
good-weaken L lo mid q p o (Limited.value v c) t u b a k x h =
    (h.0, h.1, holds_frame (Live (Live L lo mid) mid c) (Live L lo c) p p (agrees-sub (Live (Live L lo mid) mid c) (Live L lo c) p (live-sub L lo mid c a k.grows) (omega arith)) v h.0 h.2, logged-join L lo mid c q p t u b k a x h.3)
good-weaken L lo mid q p o (Limited.error e c) t u b a k x h = (h.0, logged-join L lo mid c q p t u b k a x h.1)
good-weaken L lo mid q p o (Limited.exhausted y c) t u b a k x h = h

pub weaken : (L : Alive) (lo mid : Counts) (r q : Rooms) (x : Res) (end : Limited.Outcome) (t u : Trace) → Below L lo → Keeps lo mid r q → Logged t L lo mid q → Matches (Live L lo mid) mid q x end u → Matches L lo r x end (t ++ u)
weaken L lo mid r q x end t u b k g y =
    record { good = good-weaken L lo mid q x.1 x.0 end t u (live_below L lo mid b k.grows) k.grows y.keeps g y.good; keeps = keeps_then lo mid (counts_of end) r q x.1 k y.keeps }

-- ---- rules

-- the place of an error that a rule at p raises
abbrev pub raised_place : ℕ → Raised → ℕ
raised_place p (by_rule e) = p
raised_place p (by_operand e) = e.place

pub operand-here : (p : ℕ) (y : Result ErrorAt Meaning.Value) → placed p (from_operand y) ≡ y
unfolding placed from_operand
operand-here p (value v) = refl
operand-here p (error e) = refl

module _ (l : Counts) (src : List ℕ) where
  -- a rule at a place
  abbrev pub Says : ℕ → Alive → Counts → Rooms → Res → Rule Meaning.Value → Type 0
  Says p L u r x ρ = Matches L u r x (outcome (placed p ρ.1) (spend l ρ.0 u)) ρ.0

  -- the same scopes, after a run
  pub move : {L : Alive} {u c : Counts} {r q : Rooms} {s : Scope} {t : Comprehension.Scope} → Start l src L u r s t → Keeps u c r q → Start l src (Live L u c) c q s t
  move {L} {u} {c} {r} {q} {s} {t} a k =
      record {
        below = live_below L u c a.below k.grows;
        cell_limit = keeps-cells u c r q k ∙ a.cell_limit;
        text_limit = keeps-text u c r q k ∙ a.text_limit;
        literals = k.literals ∙ a.literals;
        roomy = keeps-roomy u c r q k;
        fitting = k.fitting a.fitting;
        scope = scope-frame L (Live L u c) r q (keeps-agrees L u c r q a.below k) t s a.scope;
      }

  -- ---- at once

  pub value-now : {L : Alive} {u : Counts} {r : Rooms} {s : Scope} {t : Comprehension.Scope} → Start l src L u r s t → (p : ℕ) (m : Value) (v : Meaning.Value) → Holds v L r m → Says p L u r (Outcome.Value m (used_of u), r) (pure v)
  unfolding pure placed outcome spend ended
  value-now {L} {u} {r} a p m v h =
      record { good = (m, refl, holds_frame L (Live L u u) r r (agrees-sub L (Live L u u) r (λ space i z. inl z) a.below.bytes) v m h, logged-nothing L u r); keeps = keeps_same u u r (upto-same u) a.roomy }

  pub raises : {L : Alive} {u : Counts} {r : Rooms} {s : Scope} {t : Comprehension.Scope} → Start l src L u r s t → (p : ℕ) (e : Raised) → Says p L u r (Outcome.Error (error_of (raised_error e)) (raised_place p e) (used_of u), r) ([], error e)
  unfolding placed outcome spend ended raised_error
  raises {L} {u} {r} a p (by_rule e) = record { good = (refl, logged-nothing L u r); keeps = keeps_same u u r (upto-same u) a.roomy }
  raises {L} {u} {r} a p (by_operand e) = record { good = (refl, logged-nothing L u r); keeps = keeps_same u u r (upto-same u) a.roomy }

  pub error-now : {L : Alive} {u : Counts} {r : Rooms} {s : Scope} {t : Comprehension.Scope} → Start l src L u r s t → (p : ℕ) (e : Errors.Error) → Says p L u r (Outcome.Error (error_of e) p (used_of u), r) (fail e)
  unfolding fail raised_error
  error-now a p e = raises a p (by_rule e)

  -- ---- one after the other

  -- what goes on after a value, and after an error
  abbrev pub OnValue : ℕ → Alive → Rooms → Scope → Comprehension.Scope → (Res → Res) → (Result Raised Meaning.Value → Rule Meaning.Value) → Type 1
  OnValue p L r s t K k = (M : Alive) (c : Counts) (q : Rooms) → Start l src M c q s t → Agrees L M r q → (m : Value) (v : Meaning.Value) → Holds v M q m → Says p M c q (K (Outcome.Value m (used_of c), q)) (k (value v))

  abbrev pub OnError : ℕ → Alive → Rooms → Scope → Comprehension.Scope → (Res → Res) → (Result Raised Meaning.Value → Rule Meaning.Value) → Type 1
  OnError p L r s t K k = (M : Alive) (c : Counts) (q : Rooms) → Start l src M c q s t → Agrees L M r q → (e : Raised) → Says p M c q (K (Outcome.Error (error_of (raised_error e)) (raised_place p e) (used_of c), q)) (k (error e))

  abbrev pub HandsOut : (Res → Res) → Type 0
  HandsOut K = (x : Limit) (u : Used) (q : Rooms) → K (Outcome.Exhausted x u, q) ≡ (Outcome.Exhausted x u, q)

  -- the same, where it matters what was built
  abbrev pub OnBuilt : ℕ → Alive → Counts → Rooms → Scope → Comprehension.Scope → Rule Meaning.Value → (Res → Res) → (Result Raised Meaning.Value → Rule Meaning.Value) → Type 1
  OnBuilt p L u r s t ρ K k =
      (M : Alive) (c : Counts) (q : Rooms) → Start l src M c q s t → Agrees L M r q → (m : Value) (v : Meaning.Value) → Holds v M q m → ρ.1 ≡ value v → u.cells + count (cells_built ρ.0) ≡ c.cells
      → Says p M c q (K (Outcome.Value m (used_of c), q)) (k (value v))

  pub then-built : {L : Alive} {u : Counts} {r : Rooms} {s : Scope} {t : Comprehension.Scope} → Start l src L u r s t → (p : ℕ) (ρ : Rule Meaning.Value) (x : Res) → Says p L u r x ρ → (K : Res → Res) (k : Result Raised Meaning.Value → Rule Meaning.Value)
      → OnBuilt p L u r s t ρ K k → OnError p L r s t K k → HandsOut K → Says p L u r (K x) (after ρ k)
  unfolding after charged outcome placed ended onward raised_error
  then-built {L} {u} {r} {s} {t} a p ρ x h K k g e w =
      subst (λ z. Matches L u r (K x) (outcome (placed p (k ρ.1).1) z) (ρ.0 ++ (k ρ.1).0)) (sym (spend-append l ρ.0 (k ρ.1).0 u)) (go ρ.1 refl (spend l ρ.0 u) h)
    where
      T : Trace
      T = ρ.0

      q : Rooms
      q = x.1

      on : (y : Result Raised Meaning.Value) (c : Counts) (o : Outcome) → x.0 ≡ o → Keeps u c r q → Logged T L u c q → Matches (Live L u c) c q (K (o, q)) (outcome (placed p (k y).1) (spend l (k y).0 c)) (k y).0 → Matches L u r (K x) (outcome (placed p (k y).1) (spend l (k y).0 c)) (T ++ (k y).0)
      on y c o i z j m = subst (λ o'. Matches L u r (K (o', q)) (outcome (placed p (k y).1) (spend l (k y).0 c)) (T ++ (k y).0)) (sym i) (weaken L u c r q (K (o, q)) (outcome (placed p (k y).1) (spend l (k y).0 c)) T (k y).0 a.below z j m)

      go : (y : Result Raised Meaning.Value) → ρ.1 ≡ y → (z : Spent) → Matches L u r x (outcome (placed p y) z) T → Matches L u r (K x) (outcome (placed p (k y).1) (onward (λ d. spend l (k y).0 d) z)) (T ++ (k y).0)
      go (value v) i (through c) m = on (value v) c (Outcome.Value m.good.0 (used_of c)) m.good.1 m.keeps m.good.3 (g (Live L u c) c q (move a m.keeps) (keeps-agrees L u c r q a.below m.keeps) m.good.0 v m.good.2 i m.good.3.counted)
      go (error (by_rule y)) i (through c) m = on (error (by_rule y)) c (Outcome.Error (error_of y) p (used_of c)) m.good.0 m.keeps m.good.1 (e (Live L u c) c q (move a m.keeps) (keeps-agrees L u c r q a.below m.keeps) (by_rule y))
      go (error (by_operand y)) i (through c) m = on (error (by_operand y)) c (Outcome.Error (error_of y.error) y.place (used_of c)) m.good.0 m.keeps m.good.1 (e (Live L u c) c q (move a m.keeps) (keeps-agrees L u c r q a.below m.keeps) (by_operand y))
      go y i (stopped z c) m = subst (λ x'. Matches L u r x' (Limited.exhausted z c) (T ++ (k y).0)) (sym (ap (λ o. K (o, q)) m.good ∙ w (limit_of z) (used_of c) q)) (record { good = refl; keeps = m.keeps })

  -- a run goes on from a rule's value or error; exhaustion is the answer
  pub then : {L : Alive} {u : Counts} {r : Rooms} {s : Scope} {t : Comprehension.Scope} → Start l src L u r s t → (p : ℕ) (ρ : Rule Meaning.Value) (x : Res) → Says p L u r x ρ → (K : Res → Res) (k : Result Raised Meaning.Value → Rule Meaning.Value)
      → OnValue p L r s t K k → OnError p L r s t K k → HandsOut K → Says p L u r (K x) (after ρ k)
  then a p ρ x h K k g e w = then-built a p ρ x h K k (λ M c q b j m v i y z. g M c q b j m v i) e w
