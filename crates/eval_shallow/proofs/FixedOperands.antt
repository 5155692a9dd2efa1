-- A record's step, and a record of fixed operands over what the calls for it ensure. Assumes nothing.
use Prim.Native.Nat.{ℕ, ◌+◌, ◌≤◌, ◌<◌}
use mathlib.Core.Path.{◌≡◌, sym, ◌∙◌, ap}
use mathlib.Core.List.{List}
use borrow.Author.Tests.{le-ltb, lt-ltb}
use Rattle.rooms.specs.declared.scope.Scope.{Scope}
use Rattle.rooms.specs.Rooms.{Rooms}
use Rattle.table_layout.specs.Layout.{word_at}
use Rattle.table_check.specs.Records.{expr_of, Sound}
use Rattle.machine.specs.declared.outcome.Used.{Used}
use Rattle.machine.specs.declared.outcome.Limit.TheVariants as Limit
use Rattle.machine.specs.declared.outcome.Outcome.{Outcome}
use Rattle.machine.specs.Outcomes.{Res, stepped}
use Rattle.machine.specs.Machine.{body, machine}
use Rattle.eval_shapes.specs.declared.next.Fixed.{Fixed}
use Rattle.eval_shapes.specs.declared.next.Next.{Next}
use Rattle.eval_shapes.specs.Next.{join_of}
use Rattle.eval_shapes.specs.Shapes.{first_at, next_of, NextIn}
use Rattle.eval_shapes.proofs.Operands.{on_next, FixedAt}
use Rattle.eval_shallow.proofs.Stops.{Is}

-- ---- its step

module _ (t x : List ℕ) (limit p : ℕ) (s : Scope) (u : Used) (r : Rooms) where
  pub no_step : limit ≤ u.steps → {o : Outcome} → o ≡ Outcome.Exhausted Limit.Steps u → Is o r (machine t limit (expr_of t x p) s u r)
  no_step h e = rw (e, le-ltb u.steps limit h)

  pub after-step : u.steps < limit → {w : Used} → w ≡ stepped u → {o : Outcome} {z : Rooms} → Is o z (body t limit (expr_of t x p) s w r) →
      Is o z (machine t limit (expr_of t x p) s u r)
  after-step h e f = rw (lt-ltb u.steps limit h) (f ∙ ap (λ (w : Used). body t limit (expr_of t x p) s w r) e)

-- ---- of fixed operands

module _ (t x : List ℕ) (limit p : ℕ) (s : Scope) (u : Used) (r : Rooms)
    {f : Fixed} (at : FixedAt t x p f) {left : Outcome} {z : Rooms} (first : Is left z (machine t limit (expr_of t x (first_at t p f)) s u r))
    {n : Next} {z' : Rooms} (next : NextIn n z' (next_of t limit p f left z)) where
  abbrev joins : Outcome → ℕ → Used → Rooms → Res
  joins o q w y = join_of limit p f o (machine t limit (expr_of t x q) s w y).0 (machine t limit (expr_of t x q) s w y).1

  goes : on_next n z' (λ q w y. joins left q w y) ≡ body t limit (expr_of t x p) s u r
  goes =
      ap (λ (y : Next × Rooms). on_next y.0 y.1 (λ q w y. joins left q w y)) next ∙
      (ap (λ (m : Res). let n = next_of t limit p f m.0 m.1 in on_next n.0 n.1 (λ q w y. joins m.0 q w y)) first ∙ sym (at.does limit s u r))

  pub stops_first : {o : Outcome} → n ≡ Next.Stop o → Is o z' (body t limit (expr_of t x p) s u r)
  stops_first e = ap (λ n. on_next n z' (λ q w y. joins left q w y)) (sym e) ∙ goes

  pub joins-both : {q : ℕ} {w : Used} → n ≡ Next.At q w → {right : Outcome} {z'' : Rooms} → Is right z'' (machine t limit (expr_of t x q) s w z') →
      {o : Outcome} {y : Rooms} → Is o y (join_of limit p f left right z'') → Is o y (body t limit (expr_of t x p) s u r)
  joins-both e g h =
      h ∙ (ap (λ (m : Res). join_of limit p f left m.0 m.1) g ∙ (ap (λ n. on_next n z' (λ q w y. joins left q w y)) (sym e) ∙ goes))

-- the other operand is one of the record's too
pub second_at : (t x : List ℕ) (limit p : ℕ) {f : Fixed} → FixedAt t x p f → (left : Outcome) (z : Rooms) {n : Next} {z' : Rooms} → NextIn n z' (next_of t limit p f left z) →
    {q : ℕ} {w : Used} → n ≡ Next.At q w → Sound t x q × (word_at t (q + 1) < word_at t (p + 1))
second_at t x limit p at left z next {q} {w} e = at.next limit left z q w (sym (sym e ∙ ap (λ (y : Next × Rooms). y.0) next))
