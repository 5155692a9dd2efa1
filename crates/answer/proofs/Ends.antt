-- How a run ends, for each outcome. Assumes nothing.
use Prim.Native.Nat.{ℕ}
use mathlib.Core.Path.{◌≡◌, refl}
use mathlib.Core.List.{List}
use Rattle.rooms.specs.Rooms.{Rooms, rooms}
use Rattle.machine.specs.declared.outcome.Outcome.{Outcome}
use Rattle.machine.specs.Outcomes.{Res}
use Rattle.machine.specs.Answer.{cells_left, text_left, left}
use Rattle.answer.specs.declared.Answer.{Answer}
use Rattle.answer.specs.Evaluated.{as_answer, ended}

-- an answer, and what the cells and the text were and are
abbrev pub Ends : Outcome → Answer → (words words_left bytes bytes_left : List ℕ) → Type 0
Ends o a w x t y = (a ≡ as_answer o) × (x ≡ cells_left o w) × (y ≡ text_left o t)

-- beside them the other rooms are as they were
pub left-rooms : (o : Outcome) (l b t w x : List ℕ) → left o (rooms l b t w x) ≡ rooms l b t (cells_left o w) (text_left o x)
left-rooms (Outcome.Value v u) l b t w x = refl
left-rooms (Outcome.Error e p u) l b t w x = refl
left-rooms (Outcome.Exhausted y u) l b t w x = refl

-- what a run does, and then its end
pub run_ends : (m : Res) (o : Outcome) (a : Answer) (l b t w x y z : List ℕ) → ◌≡◌ {A = Res} (o, rooms l b t w y) m → Ends o a w x y z
    → ◌≡◌ {A = Answer × Rooms} (a, rooms l b t x z) (ended (m.0, left m.0 m.1))
run_ends m o a l b t w x y z h e = rw (← h, e.0, e.1, e.2, left-rooms o l b t w y) refl
