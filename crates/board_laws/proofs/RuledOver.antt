-- A state that was emptied stands for the definition's empty room. What evaluating over a state returns, the words of its answer and the rooms are
-- what the definition answers; a value that comes back is well formed. Rests on Brought (crate bindings_laws), Carried, FittingAnswers and
-- FormedAnswers (crate answer_laws) and FitSlots. Assumes nothing.
use Prim.Native.Nat.{ℕ, ◌≤◌}
use mathlib.Core.Path.{◌≡◌, refl, sym, ap, ◌∙◌, subst}
use mathlib.Core.List.{List}
use Rattle.std.specs.Prelude.{Some}
use native.Mathlib.Omega.{arith}
use lib.ListN.{length, length-replicate}
use borrow.Author.Tests.{eq-eqb, le-ltb}
use Rattle.meaning.specs.Limits.{Counts}
use Rattle.meaning.specs.Errors.{error_number, refusal_number}
use Rattle.meaning.specs.Value.{Value}
use Rattle.meaning.specs.Limited as Limited
use Rattle.meaning.specs.Bindings as Meaning
use Rattle.meaning.specs.Bindings.{empty_room}
use Rattle.meaning.specs.Answer as Meant
use Rattle.meaning.specs.Answer.{refusal, ran, Answered, answer_of}
use Rattle.meaning.specs.WellFormed.{WellFormed}
use Rattle.rooms.specs.declared.value.Value as Machine
use Rattle.rooms.specs.declared.value.Value.TheVariants as Value
use Rattle.rooms.specs.Cells.{Fits}
use Rattle.rooms.specs.Rooms.{Rooms}
use Rattle.rooms.specs.Reading.{reading}
use Rattle.rooms.specs.Scope.{absent}
use Rattle.rooms.proofs.CellLaws.{read_back}
use Rattle.bindings_sound.specs.declared.Bindings.{Bindings}
use Rattle.bindings.specs.Bringing.{emptied}
use Rattle.bindings_laws.specs.Brings.{StandsFor}
use Rattle.bindings_laws.proofs.Brought.{emptied-stands}
use Rattle.machine.specs.declared.outcome.Used.{Used}
use Rattle.machine.specs.Refines.{used_of}
use Rattle.answer.specs.Numbers.{error_meant, limit_meant, limit_number}
use Rattle.answer.specs.declared.Answer.{Answer}
use Rattle.answer.specs.Evaluated.{evaluated}
use Rattle.answer.specs.Meant.{lent_by, Told, told, told_by, counts_used, meant, Evaluates}
use Rattle.answer_laws.proofs.Carried.{meant-over}
use Rattle.answer_laws.proofs.FittingAnswers.{value-fits}
use Rattle.answer_laws.proofs.FormedAnswers.{says-formed}
use Rattle.board_words.specs.Overlay.{over, handed}
use Rattle.board_state.specs.State.{bindings_in, state_of}
use Rattle.board_state.specs.Settled.{AllFit}
use Rattle.board_state.proofs.RoundTrip.{round_trip}
use Rattle.board_state.specs.Bringing.{binding_room}
use Rattle.board_words.specs.Answers as Report
use Rattle.board_words.specs.Answers.{report, which_done, which_value, which_error, which_exhausted, which_answer, report_answer}
use Rattle.board_calls.specs.Intake.{empties}
use Rattle.board_words.specs.Evaluation.{answered_into, evaluates, EvaluatesInto}
use Rattle.board_laws.specs.Called.{Stands, LentTo, AnswersAs, EvaluatesAs}
use Rattle.board_laws.proofs.SettledValues.{settled-reading}
use Rattle.board_laws.proofs.SettledAnswers.{each_fits, settled-stands}
use Rattle.board_laws.proofs.FitSlots.{absent-fit, state-fits, state-slots}

-- ---- emptying

-- An emptied state, over any cells and text, stands for the definition's empty room.
pub empty-means : (state cells text : List ℕ) → length state ≡ 259 → ((empties state).0 ≡ which_done) × Stands (binding_room (empties state).1 cells text) empty_room
empty-means state cells text h =
    rw (eq-eqb (length state) 259 h) (refl, emptied-over)
  where
    fit : AllFit emptied.scope.slots
    fit = absent-fit 128

    emptied-over : StandsFor cells text (bindings_in (state_of emptied)) empty_room
    emptied-over =
        subst (λ (b : Bindings). StandsFor cells text b empty_room) (sym (round_trip emptied (length-replicate 128 absent) fit))
        ((settled-stands cells text emptied (each_fits emptied.scope.slots fit) empty_room).1 (emptied-stands cells text))

-- ---- evaluating: the words of an answer

module _ (left : Rooms) (answer : List ℕ) (long : 8 ≤ length answer) where
  -- words of eight are handed
  abbrev Handed : Meant.Answer → Answer → Type 0
  Handed m a = AnswersAs m answer (handed (which_answer a) (report_answer a) answer).0 (handed (which_answer a) (report_answer a) answer).1 left

  abbrev FitsAnswer : Answer → Type 0
  FitsAnswer a = (m : Machine.Value) (u : Used) → a ≡ Answer.Value m u → Fits m

  -- what tells the definition's answer is handed as its words
  told-words : (a : Answer) (m : Meant.Answer) → FitsAnswer a → told left a ≡ told_by m → Handed m a
  told-words (Answer.Refused r) (refusal why p) f e =
      let n : refusal_number r.reason ≡ refusal_number why = cc in
      let q : r.place ≡ p = cc in
      rw (le-ltb (length answer) 8 long) (refl, λ i. over (Report.refusal (n i) (q i)) answer)
  told-words (Answer.Value x u) (ran (Limited.value v c)) f e =
      let d : counts_used u ≡ c = cc in
      let r : reading left x ≡ Some v = cc in
      rw (le-ltb (length answer) 8 long) (
        x,
        refl,
        λ i. over (report which_value 0 0 (used_of (d i)) x) answer,
        ap (reading left) (read_back x (f x u refl)) ∙ settled-reading left x (f x u refl) ∙ r,
      )
  told-words (Answer.Error x place u) (ran (Limited.error v c)) f e =
      let d : counts_used u ≡ c = cc in
      let n : error_number (error_meant x) ≡ error_number v.error = cc in
      let q : place ≡ v.place = cc in
      rw (le-ltb (length answer) 8 long) (refl, λ i. over (report which_error (n i) (q i) (used_of (d i)) Value.Absent) answer)
  told-words (Answer.Exhausted x u) (ran (Limited.exhausted y c)) f e =
      let d : counts_used u ≡ c = cc in
      let n : limit_meant x ≡ y = cc in
      rw (le-ltb (length answer) 8 long) (refl, λ i. over (report which_exhausted (limit_number (n i)) 0 (used_of (d i)) Value.Absent) answer)
  told-words (Answer.Refused r) (ran (Limited.value v c)) f e = let z : ◌≡◌ {A = ℕ} 0 1 = cc in absurd (omega arith)
  told-words (Answer.Refused r) (ran (Limited.error v c)) f e = let z : ◌≡◌ {A = ℕ} 0 1 = cc in absurd (omega arith)
  told-words (Answer.Refused r) (ran (Limited.exhausted y c)) f e = let z : ◌≡◌ {A = ℕ} 0 1 = cc in absurd (omega arith)
  told-words (Answer.Value x u) (refusal why p) f e = let z : ◌≡◌ {A = ℕ} 0 1 = cc in absurd (omega arith)
  told-words (Answer.Value x u) (ran (Limited.error v c)) f e = let z : ◌≡◌ {A = ℕ} 0 1 = cc in absurd (omega arith)
  told-words (Answer.Value x u) (ran (Limited.exhausted y c)) f e = let z : ◌≡◌ {A = ℕ} 0 1 = cc in absurd (omega arith)
  told-words (Answer.Error x place u) (refusal why p) f e = let z : ◌≡◌ {A = ℕ} 0 1 = cc in absurd (omega arith)
  told-words (Answer.Error x place u) (ran (Limited.value v c)) f e = let z : ◌≡◌ {A = ℕ} 0 1 = cc in absurd (omega arith)
  told-words (Answer.Error x place u) (ran (Limited.exhausted y c)) f e = let z : ◌≡◌ {A = ℕ} 0 1 = cc in absurd (omega arith)
  told-words (Answer.Exhausted x u) (refusal why p) f e = let z : ◌≡◌ {A = ℕ} 0 1 = cc in absurd (omega arith)
  told-words (Answer.Exhausted x u) (ran (Limited.value v c)) f e = let z : ◌≡◌ {A = ℕ} 0 1 = cc in absurd (omega arith)
  told-words (Answer.Exhausted x u) (ran (Limited.error v c)) f e = let z : ◌≡◌ {A = ℕ} 0 1 = cc in absurd (omega arith)

-- ---- evaluating

module _ (table state : List ℕ) (steps : ℕ) (lent : Rooms) (answer : List ℕ) (long : 8 ≤ length answer) (returned : ℕ) (answer_left : List ℕ) (left : Rooms)
    (h : EvaluatesInto table state steps lent answer returned answer_left left) where
  abbrev said : Answer
  said = (evaluated table (bindings_in state) steps lent).0

  exactly : ◌≡◌ {A = (ℕ × List ℕ) × Rooms} ((returned, answer_left), left) (answered_into (evaluated table (bindings_in state) steps lent) answer)
  unfolding evaluates
  exactly = h.exactly ∙ rw (le-ltb (length answer) 8 long) refl

  -- An evaluation over words is one of `evaluate` over what they stand for: so every promise about `evaluate` is one about the call.
  pub evaluates-over : Evaluates table (bindings_in state) steps lent said left
  evaluates-over = record { exactly = λ i. (said, ap (λ (x : (ℕ × List ℕ) × Rooms). x.1) exactly i); says = h.says long }

  module _ (all : LentTo table state lent) where
    said_fits : (m : Machine.Value) (u : Used) → said ≡ Answer.Value m u → Fits m
    said_fits =
        value-fits table (bindings_in state) steps lent
        (record {
          table_bytes = all.table_bytes;
          words = all.cell_words;
          binding_words = all.binding_words;
          slots = state-slots state;
          values = each_fits (bindings_in state).scope.slots (state-fits state all.state_words);
        })

    -- Evaluating over any words: what is returned, the answer's words and the rooms are what the definition says.
    pub evaluate-answers : EvaluatesAs (meant table (bindings_in state) steps lent) lent said answer returned answer_left left
    evaluate-answers =
        record {
          answers =
              subst (λ (x : (ℕ × List ℕ) × Rooms). AnswersAs (meant table (bindings_in state) steps lent).answer answer x.0.0 x.0.1 x.1) (sym exactly)
              (told-words (evaluated table (bindings_in state) steps lent).1 answer long said (meant table (bindings_in state) steps lent).answer said_fits
              (ap (λ (x : (ℕ × List ℕ) × Rooms). told x.1 said) (sym exactly) ∙ (h.says long).tells));
          says = h.says long;
        }

    -- Evaluating over a state that stands for a room: they are what the definition answers to the rule over that room.
    pub evaluate-means : (room : Meaning.BindingRoom) → Stands (binding_room state lent.binding_cells lent.binding_text) room
        → EvaluatesAs (answer_of table lent.literal room (lent_by steps lent)) lent said answer returned answer_left left
    evaluate-means room stands =
        subst (λ (m : Answered). EvaluatesAs m lent said answer returned answer_left left)
        (meant-over table (bindings_in state) steps lent room (record { slots = state-slots state; sound = stands.sound; scope = stands.scope })) evaluate-answers

    -- Whatever the state's words are, a value that comes back is well formed.
    pub evaluate-formed : (v : Value) (c : Counts) → told left said ≡ Told.value (Some v) c → WellFormed v
    evaluate-formed =
        says-formed table (bindings_in state) steps lent all.table_bytes all.literal_bytes
        (record { words = all.binding_words; text = all.binding_bytes; slots = state-slots state; values = each_fits (bindings_in state).scope.slots (state-fits state all.state_words) })
        said left (h.says long)
