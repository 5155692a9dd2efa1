-- The ways through an evaluation: refused by the table, refused by the binding room, run. Assumes nothing.
use Prim.Native.Nat.{ℕ, min}
use mathlib.Core.Path.{◌≡◌, refl}
use mathlib.Core.List.{List}
use native.Mathlib.Omega.{arith}
use Rattle.meaning.specs.Limits.{most_steps}
use Rattle.meaning.specs.Expr.{Expr}
use Rattle.meaning.specs.Errors.{refusal_at}
use Rattle.meaning.specs.declared.refusal.Refusal.{Refusal}
use Rattle.meaning.specs.declared.refusal.Reason.TheVariants.{UnsoundBinding}
use Rattle.meaning.specs.Heads.{Got, got, refused, ◌>>=◌}
use Rattle.meaning.specs.Table.{read_table}
use Rattle.table_check.specs.Check.{verdict, check_of}
use Rattle.table_check.specs.Records.{expr_of, Sound}
use Rattle.table_check.proofs.Accepted.{accepted}
use Rattle.rooms.specs.Rooms.{Rooms}
use Rattle.bindings_sound.specs.declared.Bindings.{Bindings}
use Rattle.std.specs.Prelude.{Ok, Err}
use Rattle.bindings_sound.specs.Sound.{sound_of}
use Rattle.machine.specs.Answer.{answered}
use Rattle.answer.specs.declared.Answer.{Answer}
use Rattle.answer.specs.Evaluated.{ended, after, evaluated}
use Rattle.answer.specs.Evaluated as Evaluated

module _ (table : List ℕ) (bindings : Bindings) (steps : ℕ) (lent : Rooms) where
  abbrev pub Comes : Answer → Rooms → Type 0
  Comes answer left = ◌≡◌ {A = Answer × Rooms} (answer, left) (evaluated table bindings steps lent)

  refused-on : (g : Got Expr) (k : Expr → Got Expr) (f : Refusal) → verdict g ≡ Err f → ◌≡◌ {A = Answer × Rooms} (Answer.Refused f, lent) (after table bindings steps lent (◌>>=◌ g k))
  unfolding ◌>>=◌
  refused-on (got e) k f h = let z : ◌≡◌ {A = ℕ} 0 1 = cc in absurd (omega arith)
  refused-on (refused why p) k f h = let e : refusal_at why p ≡ f = cc in rw (← e) refl

  pub table-refuses : (f : Refusal) → check_of table lent.literal ≡ Err f → Comes (Answer.Refused f) lent
  unfolding check_of evaluated Evaluated.accepted
  table-refuses f h = refused-on (read_table table lent.literal) _ f h

  module _ (h : check_of table lent.literal ≡ Ok tt) where
    -- what the run asks
    pub root-sound : Sound table lent.literal 0
    root-sound = (accepted table lent.literal h).root

    pub room-refuses : (place : ℕ) → sound_of lent.binding_cells lent.binding_text bindings ≡ Err place → Comes (Answer.Refused (refusal_at UnsoundBinding place)) lent
    unfolding evaluated Evaluated.accepted ◌>>=◌
    room-refuses place s = rw ((accepted table lent.literal h).is, s) refl

    pub runs : sound_of lent.binding_cells lent.binding_text bindings ≡ Ok tt → (answer : Answer) (left : Rooms)
        → ◌≡◌ {A = Answer × Rooms} (answer, left) (ended (answered table (min steps most_steps) (expr_of table lent.literal 0) bindings.scope lent)) → Comes answer left
    unfolding evaluated Evaluated.accepted ◌>>=◌
    runs s answer left e = rw ((accepted table lent.literal h).is, s) e
