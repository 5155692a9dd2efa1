-- What the contract of an evaluation promises. Rests on the laws of the definition. Assumes nothing.
-- In order: which answer the definition has; only one answer is right; what a rule does not name; exhaustion; a refusal, an error; a value.
use Prim.Native.Nat.{ℕ, zero, suc, ◌+◌, ◌*◌, ◌/◌, ◌≤◌, ◌<◌}
use mathlib.Core.Path.{◌≡◌, refl, sym, ap, ◌∙◌, subst}
use mathlib.Core.Logic.{◌↔◌}
use mathlib.Core.Bool.{Bool, true, false}
use mathlib.Core.List.{List, ◌++◌}
use Rattle.std.specs.Prelude.{Some}
use native.Mathlib.Omega.{arith}
use lib.Dec.{ltb, eqb}
use lib.ListN.{length, get_or, take, drop, replicate, take-append-drop}
use borrow.Author.Tests.{ltb-true, ltb-false, eqb-true, eqb-false}
use Rattle.meaning.specs.Limits.{Counts}
use Rattle.meaning.specs.Errors.{Exhausted}
use Rattle.meaning.specs.declared.refusal.Reason.{Reason}
use Rattle.meaning.specs.declared.refusal.Reason.TheVariants.{UnsoundBinding}
use Rattle.meaning.specs.Expr.{Expr}
use Rattle.meaning.specs.Limited as Limited
use Rattle.meaning.specs.Limited.{zero_cell, limited, cleared, rooms_after}
use Rattle.meaning.specs.Run.{Trace, Eval}
use Rattle.meaning.specs.Value.{Value}
use Rattle.meaning.specs.Comprehension.{Scope}
use Rattle.meaning.specs.Listing.{records_of, names_of}
use Rattle.meaning.specs.Meaning.{run}
use Rattle.meaning.specs.Heads.{Got, got, refused, ◌>>=◌}
use Rattle.meaning.specs.Table.{read_table}
use Rattle.meaning.specs.Bindings.{BindingRoom, scope_of}
use Rattle.meaning.specs.Answer as Meaning
use Rattle.meaning.specs.Answer.{Answered, refusal, ran, answer_run, answer_read, answer_of}
use Rattle.std.specs.Prelude.{Ok}
use Rattle.table_check.specs.Check.{verdict, check_of}
use Rattle.table_check.specs.Records.{expr_of}
use Rattle.table_check.proofs.Accepted.{accepted as table-accepted}
use Rattle.table_check.proofs.Walk.{accepted-walk}
use Rattle.meaning_laws.specs.Names.{Agree, In}
use Rattle.meaning_laws.specs.Charges.{Stops}
use Rattle.meaning_laws.proofs.NamesListed.{names-listed}
use Rattle.meaning_laws.proofs.Bystanders.{same-over-rooms}
use Rattle.meaning_laws.specs.Begins.{Reaches}
use Rattle.meaning_laws.proofs.Exhausted.{exhausted-exactly}
use Rattle.meaning_laws.proofs.Begun.{part-exhausts}
use Rattle.rooms.specs.declared.value.Value as Machine
use Rattle.rooms.specs.Rooms.{Rooms, rooms}
use Rattle.rooms.specs.Value.{nesting_of}
use Rattle.rooms.specs.Reading.{reading}
use Rattle.bindings_sound.specs.declared.Bindings.{Bindings}
use Rattle.std.specs.Prelude.{Ok, Err}
use Rattle.bindings_sound.specs.Sound.{sound_of}
use Rattle.bindings_sound.specs.Held.{room_of}
use Rattle.machine.specs.declared.outcome.Used.{Used}
use Rattle.meaning_laws.specs.Charges.{counts_of}
use Rattle.meaning_laws.specs.Answers.{counts_in}
use Rattle.machine.specs.Answer.{CellsHave}
use Rattle.answer_values.specs.Shown.{Shows}
use Rattle.answer_values.proofs.Showing.{shows}
use Rattle.answer.specs.declared.Answer.{Answer}
use Rattle.answer.specs.Evaluated.{accepted}
use Rattle.answer.specs.Meant.{Told, told, told_by, counts_used, counts_told, Says, limits, bound, meant, Evaluates}
use Rattle.answer.specs.Alike.{Alike}
use Rattle.answer.specs.Promised.{AgreeWhereNamed, AgreeWhereMet, WithoutValue}

-- ---- which answer the definition has

module _ (table : List ℕ) (bindings : Bindings) (steps : ℕ) (lent : Rooms) where
  -- A table that is refused is refused, whatever the binding room holds.
  pub meant-refused : (why : Reason) (place : ℕ) → read_table table lent.literal ≡ refused why place → (meant table bindings steps lent).answer ≡ refusal why place
  unfolding meant accepted answer_read ◌>>=◌
  meant-refused why place h = rw h

  module _ (e : Expr) (spells : read_table table lent.literal ≡ got e) where
    -- Otherwise a binding room that is not sound is refused, with its place.
    pub meant-unsound : (place : ℕ) → sound_of lent.binding_cells lent.binding_text bindings ≡ Err place
        → (meant table bindings steps lent).answer ≡ refusal UnsoundBinding place
    unfolding meant accepted answer_read ◌>>=◌
    meant-unsound place h = rw (spells, h)

  -- Otherwise it is the definition's answer, over the bindings that the room holds.
  pub meant-sound : sound_of lent.binding_cells lent.binding_text bindings ≡ Ok tt
      → meant table bindings steps lent
      ≡ answer_of table lent.literal (bound bindings lent) (record { steps = steps; cells = length lent.cells / 2; bytes = length lent.text })
  unfolding meant accepted answer_of ◌>>=◌
  meant-sound h = rw h (ap (answer_read (limits steps lent) (scope_of (bound bindings lent))) (passed (read_table table lent.literal)))
    where
      passed : (g : Got Expr) → ◌>>=◌ g (λ e. got e) ≡ g
      passed (got e) = refl
      passed (refused why place) = refl

-- ---- only one answer is right

-- The contract allows one answer, and one content of the rooms, to the bit.
pub one_answer : (table : List ℕ) (bindings : Bindings) (steps : ℕ) (lent : Rooms) (answer other : Answer) (left left_other : Rooms)
    → Evaluates table bindings steps lent answer left → Evaluates table bindings steps lent other left_other → ◌≡◌ {A = Answer × Rooms} (answer, left) (other, left_other)
one_answer table bindings steps lent answer other left left_other h k = h.exactly ∙ sym k.exactly

same_text : (n : ℕ) (s t : List ℕ) → take n s ≡ take n t → drop n s ≡ drop n t → s ≡ t
same_text n s t e f = sym (take-append-drop n s) ∙ (rw (e, f) (take-append-drop n t))

counted-told : (a : Meaning.Answer) → counts_told (told_by a) ≡ counts_in a
counted-told (refusal why place) = refl
counted-told (ran (Limited.value v c)) = refl
counted-told (ran (Limited.error e c)) = refl
counted-told (ran (Limited.exhausted x c)) = refl

-- Even what it says in the definition's terms alone leaves one answer: what it tells, what each cell below the counts holds, and every
-- other word and byte. (This part leaves open only how the value and those cells are spelled: where text and parts lie, and which nesting
-- is carried, if it is not less than the true one.)
pub says-alike : (m : Answered) (lent lent_other : Rooms) (answer other : Answer) (left left_other : Rooms)
    → lent.cells ≡ lent_other.cells → lent.text ≡ lent_other.text
    → Says m lent answer left → Says m lent_other other left_other → Alike answer left other left_other
says-alike m lent lent_other answer other left left_other e f h k =
    record {
      tells = h.tells ∙ sym k.tells;
      holds = m.rooms.cells;
      counted = h.cells_counted ∙ sym (ap (λ (n : Counts). n.cells) (counted-told m.answer)) ∙ ap (λ (t : Told). (counts_told t).cells) (sym h.tells);
      cells = h.cells;
      cells_other = k.cells;
      cells_above = rw h.cells_counted (h.cells_above ∙ (rw e (sym k.cells_above)));
      bytes =
          same_text (counts_in m.answer).bytes left.text left_other.text (h.bytes ∙ sym k.bytes)
          (h.bytes_above ∙ (rw f (sym k.bytes_above)));
    }

-- ---- what a rule does not name

-- over one table, literal text, step limit and evaluation rooms
module _ (table literal cells text : List ℕ) (steps : ℕ) where
  abbrev over : (words bytes : List ℕ) → Rooms
  over words bytes = rooms literal words bytes cells text

  module _ (bindings others : Bindings) (words bytes other_words other_bytes : List ℕ)
      (sound : sound_of words bytes bindings ≡ Ok tt) (other_sound : sound_of other_words other_bytes others ≡ Ok tt)
      (agree : AgreeWhereNamed table literal (room_of words bytes bindings) (room_of other_words other_bytes others)) where
    pub same-meant : meant table bindings steps (over words bytes) ≡ meant table others steps (over other_words other_bytes)
    same-meant =
        meant-sound table bindings steps (over words bytes) sound
        ∙ same-over-rooms table literal (room_of words bytes bindings) (room_of other_words other_bytes others) (λ e g n i. agree e g n ((names-listed e n).0 i)) _
        ∙ sym (meant-sound table others steps (over other_words other_bytes) other_sound)

    -- What a rule does not name cannot change its answer or its counts: two evaluations with sound binding rooms that agree on the names that
    -- the rule contains come to the same value, error, exhaustion or refusal, with equal counts and the same contents of the evaluation rooms.
    pub unnamed-unseen : (answer other : Answer) (left left_other : Rooms)
        → Evaluates table bindings steps (over words bytes) answer left → Evaluates table others steps (over other_words other_bytes) other left_other
        → Alike answer left other left_other
    unnamed-unseen answer other left left_other h k =
        says-alike (meant table others steps (over other_words other_bytes)) (over words bytes) (over other_words other_bytes) answer other left left_other refl refl
        (subst (λ m. Says m (over words bytes) answer left) same-meant h.says) k.says

  -- That is where the rule names something.
  pub met-named : (room other : BindingRoom) → AgreeWhereMet table literal room other → AgreeWhereNamed table literal room other
  unfolding check_of
  met-named room other h e g =
      let checked : check_of table literal ≡ Ok tt = ap verdict g in
      let is : expr_of table literal 0 ≡ e = got_same (sym (table-accepted table literal checked).is ∙ g) in
      subst (λ x. Agree (In (names_of x)) (scope_of room) (scope_of other)) is (h (records_of (expr_of table literal 0)) (accepted-walk table literal checked))
    where
      got_same : {x y : Expr} → ◌≡◌ {A = Got Expr} (got x) (got y) → x ≡ y
      got_same q = cc

-- ---- exhaustion

told-exhausted : (a : Meaning.Answer) (x : Exhausted) (c : Counts) → told_by a ≡ Told.exhausted x c → a ≡ ran (Limited.exhausted x c)
told-exhausted (refusal why place) x c h = let z : ◌≡◌ {A = ℕ} 0 1 = cc in absurd (omega arith)
told-exhausted (ran (Limited.value v d)) x c h = let z : ◌≡◌ {A = ℕ} 0 1 = cc in absurd (omega arith)
told-exhausted (ran (Limited.error e d)) x c h = let z : ◌≡◌ {A = ℕ} 0 1 = cc in absurd (omega arith)
told-exhausted (ran (Limited.exhausted y d)) x c h = cc

module _ (table : List ℕ) (bindings : Bindings) (steps : ℕ) (lent : Rooms) (answer : Answer) (left : Rooms)
    (h : Evaluates table bindings steps lent answer left) (e : Expr) (g : accepted table bindings lent ≡ got e) where
  abbrev under : Counts
  under = limits steps lent

  -- the rule, over the bindings that the room holds
  abbrev ruled : Eval Value
  ruled = run e (scope_of (bound bindings lent))

  meant-ran : (meant table bindings steps lent).answer ≡ ran (limited under ruled)
  unfolding meant answer_read answer_run
  meant-ran = rw g

  -- What the definition's run comes to is what is told, so that every law about runs under limits is one about answers.
  pub told-run : told left answer ≡ told_by (ran (limited under ruled))
  told-run = h.says.tells ∙ ap told_by meant-ran

  -- Exhaustion comes exactly when the definition's next charge would pass a limit: some first charges of the rule all fit and add up to the
  -- counts, and the next one would pass.
  pub exhaustion-exactly : (x : Exhausted) (c : Counts) → (told left answer ≡ Told.exhausted x c) ↔ Stops under ruled.0 x c
  exhaustion-exactly x c =
      let s = exhausted-exactly under ruled x c in
      (λ t. s.0 (ran-same (told-exhausted (ran (limited under ruled)) x c (sym told-run ∙ t))), λ t. told-run ∙ ap (λ o. told_by (ran o)) (s.1 t))
    where
      ran-same : {o p : Limited.Outcome} → ◌≡◌ {A = Meaning.Answer} (ran o) (ran p) → o ≡ p
      ran-same q = cc

  -- Nothing in a rule turns exhaustion into another answer: where a part that the rule begins, at any depth, is exhausted, so is the
  -- evaluation, of the same limit and with the same counts.
  pub exhaustion-kept : {f : Expr} {t : Scope} {before : Trace} → Reaches e (scope_of (bound bindings lent)) before f t
      → (x : Exhausted) (c : Counts) → Stops under (before ++ (run f t).0) x c → told left answer ≡ Told.exhausted x c
  exhaustion-kept r x c s = told-run ∙ ap (λ o. told_by (ran o)) (part-exhausts r under c x s)

-- ---- a refusal, an error, exhaustion

told-refused : (a : Meaning.Answer) (number place : ℕ) → told_by a ≡ Told.refused number place → counts_in a ≡ record { steps = 0; cells = 0; bytes = 0 }
told-refused (refusal why p) number place h = refl
told-refused (ran (Limited.value v d)) number place h = let z : ◌≡◌ {A = ℕ} 0 1 = cc in absurd (omega arith)
told-refused (ran (Limited.error e d)) number place h = let z : ◌≡◌ {A = ℕ} 0 1 = cc in absurd (omega arith)
told-refused (ran (Limited.exhausted x d)) number place h = let z : ◌≡◌ {A = ℕ} 0 1 = cc in absurd (omega arith)

-- A refusal changes no lent memory.
pub refusal-changes-nothing : (m : Answered) (lent : Rooms) (answer : Answer) (left : Rooms) → Says m lent answer left
    → (number place : ℕ) → told left answer ≡ Told.refused number place → left ≡ lent
refusal-changes-nothing m lent answer left h number place t =
    let z = told-refused m.answer number place (sym h.tells ∙ t) in
    let c = (rw z at h.cells_above) in
    let b = (rw z at h.bytes_above) in
    rw (← h.literal, ← h.binding_cells, ← h.binding_text, ← c, ← b) refl

-- the words of cells that are zero
zero-words : (q : Rooms) (n a i : ℕ) → CellsHave q a (replicate n zero_cell) → a * 2 ≤ i → i < (a + n) * 2 → get_or q.cells i 0 ≡ 0
zero-words q zero a i h l m = absurd (omega arith)
zero-words q (suc n) a i h l m = by_place (ltb i (a * 2 + 2)) refl (eqb i (a * 2)) refl (λ k. zero-words q n (suc a) i h.1 k (omega arith))
  where
    by_place : (c : Bool) → ltb i (a * 2 + 2) ≡ c → (d : Bool) → eqb i (a * 2) ≡ d → (suc a * 2 ≤ i → get_or q.cells i 0 ≡ 0) → get_or q.cells i 0 ≡ 0
    by_place true e true f later = rw (eqb-true i (a * 2) f) h.0.0
    by_place true e false f later = let j : i ≡ a * 2 + 1 = omega (arith, ltb-true i (a * 2 + 2) e, eqb-false i (a * 2) f) in rw j h.0.1
    by_place false e d f later = later (omega (arith, ltb-false i (a * 2 + 2) e))

abbrev NoValue : Limited.Outcome → Type 0
NoValue (Limited.value v c) = ⊥
NoValue (Limited.error e c) = Unit {0}
NoValue (Limited.exhausted x c) = Unit {0}

cleared-after : (t : Trace) (o : Limited.Outcome) → NoValue o → rooms_after t o ≡ cleared (counts_of o)
unfolding rooms_after
cleared-after t (Limited.value v c) h = absurd h
cleared-after t (Limited.error e c) h = refl
cleared-after t (Limited.exhausted x c) h = refl

told-counts : (a : Meaning.Answer) (c : Counts) → WithoutValue (told_by a) c → (o : Limited.Outcome) × (a ≡ ran o) × NoValue o × (counts_of o ≡ c)
told-counts (refusal why place) c h = absurd h
told-counts (ran (Limited.value v d)) c h = absurd h
told-counts (ran (Limited.error e d)) c h = (Limited.error e d, refl, tt, h)
told-counts (ran (Limited.exhausted x d)) c h = (Limited.exhausted x d, refl, tt, h)

module _ (table : List ℕ) (bindings : Bindings) (steps : ℕ) (lent : Rooms) (answer : Answer) (left : Rooms)
    (h : Evaluates table bindings steps lent answer left) where
  meant-cleared : (o : Limited.Outcome) → (meant table bindings steps lent).answer ≡ ran o → NoValue o → (meant table bindings steps lent).rooms ≡ cleared (counts_of o)
  unfolding meant answer_read answer_run
  meant-cleared o e None = by_read (accepted table bindings lent) e
    where
      by_read : (g : Got Expr) → (answer_read (limits steps lent) (scope_of (bound bindings lent)) g).answer ≡ ran o
          → (answer_read (limits steps lent) (scope_of (bound bindings lent)) g).rooms ≡ cleared (counts_of o)
      by_read (got e) f = let same : limited (limits steps lent) (run e (scope_of (bound bindings lent))) ≡ o = cc in rw same (cleared-after _ o None)
      by_read (refused why place) f = let z : ◌≡◌ {A = ℕ} 0 1 = cc in absurd (omega arith)

  -- An error or exhaustion clears what it charged: every word of the cells that were counted, and every byte, is zero. (What is above them is
  -- unchanged: `cells_above`, `bytes_above` of the contract.)
  pub charged-cleared : (c : Counts) → WithoutValue (told left answer) c
      → ((i : ℕ) → i < c.cells * 2 → get_or left.cells i 0 ≡ 0) × (take c.bytes left.text ≡ replicate c.bytes 0)
  unfolding cleared
  charged-cleared c w =
      let o = told-counts (meant table bindings steps lent).answer c (subst (λ t. WithoutValue t c) h.says.tells w) in
      let m = meant-cleared o.0 o.1 o.2 in
      let same : counts_in (meant table bindings steps lent).answer ≡ c = ap counts_in o.1 ∙ o.3 in
      let cells = (rw (m, o.3) at h.says.cells) in (
        λ i l. zero-words left c.cells 0 i cells (omega arith) (omega arith),
        ap (λ (d : Counts). take d.bytes left.text) (sym same)
            ∙ h.says.bytes
            ∙ ap (λ (q : Limited.Rooms). q.bytes) m
            ∙ ap (λ (d : Counts). replicate d.bytes 0) o.3,
      )

-- ---- a value

-- A value can be read out by the readers: they show the definition's value, part by part.
pub value-shown : (m : Answered) (lent left : Rooms) (x : Machine.Value) (u : Used) → Says m lent (Answer.Value x u) left
    → (v : Value) × (c : Counts) × (m.answer ≡ ran (Limited.value v c)) × Shows (nesting_of x) left x v
unfolding reading
value-shown m lent left x u h = by_answer m.answer h.tells
  where
    by_answer : (a : Meaning.Answer) → Told.value (reading left x) (counts_used u) ≡ told_by a → (v : Value) × (c : Counts) × (a ≡ ran (Limited.value v c)) × Shows (nesting_of x) left x v
    by_answer (refusal why place) e = let z : ◌≡◌ {A = ℕ} 0 1 = cc in absurd (omega arith)
    by_answer (ran (Limited.value v c)) e = let read : reading left x ≡ Some v = cc in (v, c, refl, shows (nesting_of x) left x v read)
    by_answer (ran (Limited.error v c)) e = let z : ◌≡◌ {A = ℕ} 0 1 = cc in absurd (omega arith)
    by_answer (ran (Limited.exhausted y c)) e = let z : ◌≡◌ {A = ℕ} 0 1 = cc in absurd (omega arith)
