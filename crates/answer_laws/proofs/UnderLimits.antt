-- What `evaluate` counts stays within the limits, and an answer that is not exhaustion stays when more is lent. Rests on Exhausted
-- (crate meaning_laws). Assumes nothing.
use Prim.Native.Nat.{ℕ}
use mathlib.Core.Path.{◌≡◌, refl, sym, ap, ◌∙◌, subst}
use mathlib.Core.List.{List}
use native.Mathlib.Omega.{arith}
use Rattle.meaning.specs.Limits.{Counts, cut}
use Rattle.meaning.specs.Expr.{Expr}
use Rattle.meaning.specs.Value.{Value}
use Rattle.meaning.specs.Run.{Eval}
use Rattle.meaning.specs.Comprehension.{Scope}
use Rattle.meaning.specs.Meaning.{run}
use Rattle.meaning.specs.Limited as Limited
use Rattle.meaning.specs.Limited.{limited}
use Rattle.meaning.specs.Heads.{Got, got, refused}
use Rattle.meaning.specs.Bindings.{scope_of}
use Rattle.meaning.specs.Answer.{ran, answer_run, answer_read}
use Rattle.meaning_laws.specs.Charges.{AtMost, counts_of}
use Rattle.meaning_laws.proofs.Exhausted.{counts-at-most, more-room-value, more-room-error}
use Rattle.rooms.specs.Rooms.{Rooms, rooms}
use Rattle.bindings_sound.specs.declared.Bindings.{Bindings}
use Rattle.answer.specs.declared.Answer as Answers
use Rattle.answer.specs.Evaluated.{accepted}
use Rattle.answer.specs.Meant.{lent_by, Told, told, told_by, bound, meant, Evaluates, counts_told}
use Rattle.answer_laws.specs.UnderLimits.{NotExhausted}

-- ---- counts

run-counts : (most : Counts) (o : Limited.Outcome) → AtMost (counts_of o) most → AtMost (counts_told (told_by (ran o))) most
run-counts most (Limited.value v c) h = h
run-counts most (Limited.error e c) h = h
run-counts most (Limited.exhausted x c) h = h

read-counts : (most : Counts) (s : Scope) (g : Got Expr) → AtMost (counts_told (told_by (answer_read most s g).answer)) most
unfolding answer_read answer_run
read-counts most s (got e) = run-counts most (limited most (run e s)) (counts-at-most most (run e s))
read-counts most s (refused why p) = omega arith

-- The counts of an answer are at most the limits in force.
pub counts-within : (table : List ℕ) (bindings : Bindings) (steps : ℕ) (lent : Rooms) (answer : Answers.Answer) (left : Rooms) → Evaluates table bindings steps lent answer left
    → AtMost (counts_told (told left answer)) (cut (lent_by steps lent))
unfolding meant
counts-within table bindings steps lent answer left h =
    subst (λ (t : Told). AtMost (counts_told t) (cut (lent_by steps lent))) (sym h.says.tells)
    (read-counts (cut (lent_by steps lent)) (scope_of (bound bindings lent)) (accepted table bindings lent))

-- ---- more room

run-stays : (few most : Counts) → AtMost few most → (r : Eval Value) (o : Limited.Outcome) → limited few r ≡ o → NotExhausted (told_by (ran o)) → limited most r ≡ o
run-stays few most h r (Limited.value v c) e n = more-room-value few most h r v c e
run-stays few most h r (Limited.error v c) e n = more-room-error few most h r v c e
run-stays few most h r (Limited.exhausted x c) e n = absurd n

read_stays : (few most : Counts) → AtMost few most → (s : Scope) (g : Got Expr) → NotExhausted (told_by (answer_read few s g).answer)
    → told_by (answer_read most s g).answer ≡ told_by (answer_read few s g).answer
unfolding answer_read answer_run
read_stays few most h s (got e) n = ap (λ (o : Limited.Outcome). told_by (ran o)) (run-stays few most h (run e s) (limited few (run e s)) refl n)
read_stays few most h s (refused why p) n = refl

cut-more : (few most : Counts) → AtMost few most → AtMost (cut few) (cut most)
unfolding cut
cut-more few most h = record { steps = omega (arith, h.steps); cells = omega (arith, h.cells); bytes = omega (arith, h.bytes) }

-- More room never changes an answer: a value, an error or a refusal comes again, with the same counts, where the step limit and both rooms are
-- at least as large.
pub more-room-same : (table literal words bytes : List ℕ) (bindings : Bindings) (steps more : ℕ) (cells text larger_cells larger_text : List ℕ)
    → AtMost (lent_by steps (rooms literal words bytes cells text)) (lent_by more (rooms literal words bytes larger_cells larger_text))
    → (answer other : Answers.Answer) (left left_other : Rooms)
    → Evaluates table bindings steps (rooms literal words bytes cells text) answer left
    → Evaluates table bindings more (rooms literal words bytes larger_cells larger_text) other left_other
    → NotExhausted (told left answer) → told left_other other ≡ told left answer
unfolding meant accepted
more-room-same table literal words bytes bindings steps more cells text larger_cells larger_text most answer other left left_other h k n =
    let few = rooms literal words bytes cells text in
    k.says.tells
    ∙ read_stays (cut (lent_by steps few)) (cut (lent_by more (rooms literal words bytes larger_cells larger_text))) (cut-more _ _ most)
    (scope_of (bound bindings few)) (accepted table bindings few) (subst NotExhausted h.says.tells n)
    ∙ sym h.says.tells
