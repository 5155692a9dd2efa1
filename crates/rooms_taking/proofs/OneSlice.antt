-- Bytes copied from a slice that is not written: where the slice stands makes no difference. Assumes nothing.
use Prim.Native.Nat.{ℕ, zero, suc}
use mathlib.Core.Path.{◌≡◌, refl, ap}
use mathlib.Core.List.{List}
use mathlib.Core.Bool.{Bool, cond}
use lib.ListN.{get_or, set}
use Rattle.rooms.specs.declared.value.TextSpace.TheVariants.{Literal, Binding}
use Rattle.rooms_taking.specs.Taking.{pasted}

from-literal : (l b : List ℕ) (t : List ℕ) (a to n : ℕ) → pasted l l Literal t a to n ≡ pasted l b Literal t a to n
unfolding pasted
from-literal l b t a to zero = refl
from-literal l b t a to (suc n) = from-literal l b (set t to (get_or l a 0)) (suc a) (suc to) n

from-binding : (l b : List ℕ) (t : List ℕ) (a to n : ℕ) → pasted b b Literal t a to n ≡ pasted l b Binding t a to n
unfolding pasted
from-binding l b t a to zero = refl
from-binding l b t a to (suc n) = from-binding l b (set t to (get_or b a 0)) (suc a) (suc to) n

pub literal-at-once : (l b t : List ℕ) (a to n : ℕ) (r : Bool) → cond r (pasted l l Literal t a to n) t ≡ cond r (pasted l b Literal t a to n) t
literal-at-once l b t a to n r = ap (λ u. cond r u t) (from-literal l b t a to n)

pub binding-at-once : (l b t : List ℕ) (a to n : ℕ) (r : Bool) → cond r (pasted b b Literal t a to n) t ≡ cond r (pasted l b Binding t a to n) t
binding-at-once l b t a to n r = ap (λ u. cond r u t) (from-binding l b t a to n)
