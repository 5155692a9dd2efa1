-- The worked examples P1 to P8, and the other rows of the meaning, as evaluations: each comes to what its row says. Rests on Carried and on the
-- rows of the crate meaning. Assumes nothing.
use Prim.Native.Nat.{ℕ}
use mathlib.Core.Path.{◌≡◌, refl, sym, ap, ◌∙◌, subst}
use mathlib.Core.List.{List, [], ◌∷◌}
use lib.ListN.{take}
use Rattle.meaning.specs.Limits.{Counts}
use Rattle.meaning.specs.Value.{Value}
use Rattle.meaning.specs.Limited as Limited
use Rattle.meaning.specs.Bindings.{scope_of}
use Rattle.meaning.specs.Answer.{Answer, refusal, ran, Answered, answer_of}
use Rattle.meaning.specs.Rows.{Row, Shown, gives, fails, exhausts, refuses, Seen, expected, answer_shown, cells_expected, text_in, seen, room_of, answered, Hold}
use Rattle.meaning.proofs.Examples.{examples, examples-hold}
use Rattle.meaning.proofs.Refusals.{refusals, refusals-hold}
use Rattle.meaning.proofs.Corners.{corners, corners-hold}
use Rattle.meaning.proofs.Operators.{operators, operators-hold}
use Rattle.meaning.proofs.Selections.{selections, selections-hold}
use Rattle.meaning.proofs.Loops.{loops, loops-hold}
use Rattle.rooms.specs.Rooms.{Rooms}
use Rattle.bindings_sound.specs.declared.Bindings.{Bindings}
use Rattle.machine.specs.Answer.{CellsHave}
use Rattle.meaning_laws.specs.Answers.{counts_in}
use Rattle.answer.specs.declared.Answer as Answers
use Rattle.answer.specs.Meant.{told_by, Says}
use Rattle.answer_laws.specs.Rows.{Evaluation, told_in, counts_shown, Comes, Evaluated}
use Rattle.answer_laws.proofs.Carried.{says-over}

-- ---- one row

shown-itself : (s : Shown) → (expected s).shown ≡ s
shown-itself (gives v c cells text) = refl
shown-itself (fails n p c) = refl
shown-itself (exhausts x c) = refl
shown-itself (refuses n p) = refl

-- what is shown of an answer is what it tells, and its counts
shown-told : (cells : List Value) (text : List ℕ) (a : Answer) → told_by a ≡ told_in (answer_shown cells text a)
shown-told cells text (refusal why place) = refl
shown-told cells text (ran (Limited.value v c)) = refl
shown-told cells text (ran (Limited.error e c)) = refl
shown-told cells text (ran (Limited.exhausted x c)) = refl

shown-counts : (cells : List Value) (text : List ℕ) (a : Answer) → counts_in a ≡ counts_shown (answer_shown cells text a)
shown-counts cells text (refusal why place) = refl
shown-counts cells text (ran (Limited.value v c)) = refl
shown-counts cells text (ran (Limited.error e c)) = refl
shown-counts cells text (ran (Limited.exhausted x c)) = refl

-- an answer that says what the definition says, where that is what is shown
says-shown : (s : Shown) (m : Answered) → seen s m ≡ expected s → (lent : Rooms) (answer : Answers.Answer) (left : Rooms) → Says m lent answer left → Comes s answer left
says-shown s m e lent answer left h =
    let shown : answer_shown (cells_expected s) (text_in s) m.answer ≡ s = ap (λ (x : Seen). x.shown) e ∙ shown-itself s in
    let rooms : m.rooms ≡ (expected s).rooms = ap (λ (x : Seen). x.rooms) e in
    record {
      tells = h.tells ∙ shown-told (cells_expected s) (text_in s) m.answer ∙ ap told_in shown;
      cells = subst (λ (q : Limited.Rooms). CellsHave left 0 q.cells) rooms h.cells;
      bytes =
          ap (λ (c : Counts). take c.bytes left.text) (sym (shown-counts (cells_expected s) (text_in s) m.answer ∙ ap counts_shown shown))
          ∙ h.bytes
          ∙ ap (λ (q : Limited.Rooms). q.bytes) rooms;
    }

row-comes : (r : Row) → answered r ≡ expected r.answer → (bindings : Bindings) (lent : Rooms) (answer : Answers.Answer) (left : Rooms)
    → Evaluation r bindings lent answer left → Comes r.answer answer left
unfolding scope_of
row-comes r e bindings lent answer left h =
    says-shown r.answer (answer_of r.table r.text (room_of r.bound) r.lent) e lent answer left
    (subst (λ (m : Answered). Says m lent answer left) (λ i. answer_of r.table (h.text i) (room_of r.bound) (h.limits i))
    (says-over r.table bindings r.lent.steps lent (room_of r.bound) h.holds answer left h.evaluates))

-- ---- all of them

same_head : {A : Type 0} {x y : A} {xs ys : List A} → ◌≡◌ {A = List A} (x ∷ xs) (y ∷ ys) → x ≡ y
same_head e = cc

same-tail : {A : Type 0} {x y : A} {xs ys : List A} → ◌≡◌ {A = List A} (x ∷ xs) (y ∷ ys) → xs ≡ ys
same-tail e = cc

-- Rows that hold of the definition hold of every evaluation.
pub rows-evaluated : (rows : List Row) → Hold rows → Evaluated rows
rows-evaluated [] e = tt
rows-evaluated (r ∷ rows) e = (row-comes r (same_head e), rows-evaluated rows (same-tail e))

-- P1 to P8, and the line of `ask`: every evaluation of their tables under their limits, over any sound room that binds no name, comes to the
-- value, error or exhaustion that they say, with the counts and the contents of the rooms.
pub examples-evaluated : Evaluated examples
examples-evaluated = rows-evaluated examples examples-hold

-- The other rows: refusals, corners, operators, selections and loops.
pub refusals-evaluated : Evaluated refusals
refusals-evaluated = rows-evaluated refusals refusals-hold

pub corners-evaluated : Evaluated corners
corners-evaluated = rows-evaluated corners corners-hold

pub operators-evaluated : Evaluated operators
operators-evaluated = rows-evaluated operators operators-hold

pub selections-evaluated : Evaluated selections
selections-evaluated = rows-evaluated selections selections-hold

pub loops-evaluated : Evaluated loops
loops-evaluated = rows-evaluated loops loops-hold
