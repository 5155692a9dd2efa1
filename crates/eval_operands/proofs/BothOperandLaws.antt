-- An error or exhaustion of the operand that is begun last is the answer, whatever the first one gave. Assumes nothing.
use Prim.Native.Nat.{ℕ}
use mathlib.Core.Path.{◌≡◌, refl}
use Rattle.rooms.specs.Rooms.{Rooms}
use Rattle.machine.specs.declared.outcome.Used.{Used}
use Rattle.machine.specs.declared.outcome.Error.{Error}
use Rattle.machine.specs.declared.outcome.Limit.{Limit}
use Rattle.machine.specs.declared.outcome.Outcome.{Outcome}
use Rattle.machine.specs.Outcomes.{Res}
use Rattle.eval_shapes.specs.declared.next.Fixed.{Fixed}
use Rattle.eval_shapes.specs.Next.{join_of}

pub error-joined : (limit p : ℕ) (f : Fixed) (x : Outcome) (e : Error) (q : ℕ) (u : Used) (r : Rooms) →
    ◌≡◌ {A = Res} (Outcome.Error e q u, r) (join_of limit p f x (Outcome.Error e q u) r)
error-joined limit p (Fixed.Unary o) x e q u r = refl
error-joined limit p (Fixed.Binary o) x e q u r = refl
error-joined limit p Fixed.Conditional x e q u r = refl
error-joined limit p (Fixed.Select b) x e q u r = refl
error-joined limit p (Fixed.Call f) x e q u r = refl
error-joined limit p Fixed.OrValue x e q u r = refl

pub exhausted-joined : (limit p : ℕ) (f : Fixed) (x : Outcome) (y : Limit) (u : Used) (r : Rooms) →
    ◌≡◌ {A = Res} (Outcome.Exhausted y u, r) (join_of limit p f x (Outcome.Exhausted y u) r)
exhausted-joined limit p (Fixed.Unary o) x y u r = refl
exhausted-joined limit p (Fixed.Binary o) x y u r = refl
exhausted-joined limit p Fixed.Conditional x y u r = refl
exhausted-joined limit p (Fixed.Select b) x y u r = refl
exhausted-joined limit p (Fixed.Call f) x y u r = refl
exhausted-joined limit p Fixed.OrValue x y u r = refl
