-- The line that is put says what the answer says: `line-said`. Assumes nothing.
-- The lemmas compare a text with what an answer tells. An answer may tell a value that cannot be read out; they say nothing about such a value.
use Prim.Native.Nat.{ℕ}
use mathlib.Core.Path.{◌≡◌, refl, ap, subst}
use mathlib.Core.List.{List, ◌++◌}
use Rattle.std.specs.Prelude.{Option, None, Some}
use Rattle.meaning.specs.Limits.{Counts}
use Rattle.meaning.specs.Value as Meaning
use Rattle.meaning.specs.Limited as Limited
use Rattle.meaning.specs.Answer as Meant
use Rattle.meaning.specs.Answer.{Answered, refusal, ran}
use Rattle.rooms.specs.declared.value.Value.{Value}
use Rattle.rooms.specs.Rooms.{Rooms}
use Rattle.rooms.specs.Reading.{reading}
use Rattle.answer.specs.declared.Answer.{Answer}
use Rattle.answer.specs.Meant.{Told, refused, value, error, counts_used, told, told_by, Says}
use Rattle.line_pieces.specs.Spelled.{ascii}
use Rattle.line_values.specs.Written.{written}
use Rattle.line_values.specs.Shown.{shown_in}
use Rattle.line_values.proofs.ReadOut.{shown-written}
use Rattle.line_answers.specs.Written.{longest_value, shortened, placed, counted, exhausted, line_of}
use Rattle.line_answers.specs.Shown.{shown_answer}

abbrev Shows : Told → List ℕ → Type 0
Shows (refused n place) s = s ≡ ascii "Refused " ++ placed n place
Shows (value None c) s = Unit {0}
Shows (value (Some v) c) s = s ≡ shortened longest_value (written v) ++ counted c
Shows (error n place c) s = s ≡ ascii "Error " ++ placed n place ++ counted c
Shows (Told.exhausted x c) s = s ≡ exhausted x ++ counted c

value-told : (left : Rooms) (m : Value) (c : Counts) (x : Option Meaning.Value) → reading left m ≡ x → Shows (value x c) (shortened longest_value (shown_in left m) ++ counted c)
value-told left m c None h = tt
value-told left m c (Some v) h = ap (λ s. shortened longest_value s ++ counted c) (shown-written left m v h)

answer-told : (left : Rooms) (a : Answer) → Shows (told left a) (shown_answer left a)
unfolding shown_answer
answer-told left (Answer.Refused f) = refl
answer-told left (Answer.Value m u) = value-told left m (counts_used u) (reading left m) refl
answer-told left (Answer.Error e place u) = refl
answer-told left (Answer.Exhausted x u) = refl

meant-line : (m : Meant.Answer) (s : List ℕ) → Shows (told_by m) s → s ≡ line_of m
unfolding line_of
meant-line (refusal why place) s h = h
meant-line (ran (Limited.value v c)) s h = h
meant-line (ran (Limited.error e c)) s h = h
meant-line (ran (Limited.exhausted x c)) s h = h

-- an answer that tells what the definition's answer tells has that answer's line
pub line-told : (m : Meant.Answer) (left : Rooms) (a : Answer) → told left a ≡ told_by m → shown_answer left a ≡ line_of m
line-told m left a h = meant-line m (shown_answer left a) (subst (λ t. Shows t (shown_answer left a)) h (answer-told left a))

-- what is put for an evaluation's answer is the line of what the definition says
pub line-said : {m : Answered} {lent : Rooms} {a : Answer} {left : Rooms} → Says m lent a left → shown_answer left a ≡ line_of m.answer
line-said {m} {lent} {a} {left} s = line-told m.answer left a s.tells
