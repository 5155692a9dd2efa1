-- A run from nothing, and its end. Assumes nothing.
use Prim.Native.Nat.{ℕ, min}
use mathlib.Core.Path.{◌≡◌, sym}
use mathlib.Core.List.{List}
use Rattle.meaning.specs.Limits.{most_steps, nothing_yet}
use Rattle.meaning.specs.Expr.{Expr}
use Rattle.rooms.specs.Rooms.{Rooms, rooms}
use Rattle.rooms.specs.declared.scope.Scope.{Scope}
use Rattle.machine.specs.declared.outcome.Outcome.{Outcome}
use Rattle.machine.specs.Outcomes.{Res}
use Rattle.machine.specs.Machine.{machine}
use Rattle.machine.specs.Refines.{used_of}
use Rattle.machine.specs.Answer.{answered}
use Rattle.answer.specs.declared.Answer.{Answer}
use Rattle.answer.specs.Evaluated.{ended}
use Rattle.answer.proofs.Ends.{Ends, run_ends}

-- the outcome o with the cells w and the text y, and what its end makes of them
pub run-answers : (table : List ℕ) (limit steps : ℕ) (e : Expr) (s : Scope) (l b t w x y z : List ℕ) (r : Rooms) (o : Outcome) (a : Answer)
    → limit ≡ min steps most_steps → ◌≡◌ {A = Res} (o, rooms l b t w y) (machine table limit e s (used_of nothing_yet) r) → Ends o a w x y z
    → ◌≡◌ {A = Answer × Rooms} (a, rooms l b t x z) (ended (answered table (min steps most_steps) e s r))
run-answers table limit steps e s l b t w x y z r o a m h k =
    run_ends (machine table (min steps most_steps) e s (used_of nothing_yet) r) o a l b t w x y z (rw (← m) h) k

-- what is lent for reading only is as it was, and the rest is what lies behind the references at the end
pub kept-rooms : (P : Rooms → Type 0) (l b t c x : List ℕ) {l' b' t' c' x' : List ℕ} → l' ≡ l → b' ≡ b → t' ≡ t → c' ≡ c → x' ≡ x →
    P (rooms l' b' t' c' x') → P (rooms l b t c x)
kept-rooms P l b t c x e f g h k p = rw (sym e, sym f, sym g, sym h, sym k) p
