-- Arithmetic on what is no number: the code asks for `+` first, the machine for the kind. Assumes nothing.
use Prim.Native.Nat.{ℕ}
use mathlib.Core.Path.{◌≡◌, refl, sym, ◌∙◌, ap}
use mathlib.Core.List.{[], ◌∷◌}
use types.Run.{OneOf, miss}
use denote.Enum.Declared.{tag_of}
use Rattle.meaning.specs.Expr.{Arith, add, sub, div, mul, rem}
use Rattle.rooms.specs.declared.value.Value.{Value}
use Rattle.rooms.specs.declared.value.Plain.{Plain}
use Rattle.rooms.specs.declared.value.Parts.{Parts}
use Rattle.rooms.specs.Value.{plain_of, parts_of}
use Rattle.rooms.specs.contracts.value.Plain.{the_type}
use Rattle.rooms.specs.Rooms.{Rooms}
use Rattle.machine.specs.declared.outcome.Used.{Used}
use Rattle.machine.specs.Outcomes.{no_overload}
use Rattle.machine.specs.Numbers.{only_add, parts_arith, plain_arith, arithmetic}
use Rattle.eval_arithmetic.specs.ListSums.{sum_parts}
use Rattle.eval_arithmetic.specs.Sums.{sum_plain, sum_of}

no-sum : (p : ℕ) (o : Arith) (u : Used) (r : Rooms) → only_add p o (λ z q. (no_overload p z, q)) u r ≡ (no_overload p u, r)
no-sum p add u r = refl
no-sum p sub u r = refl
no-sum p div u r = refl
no-sum p mul u r = refl
no-sum p rem u r = refl

by_parts : (p : ℕ) (o : Arith) (v w : Value) (u : Used) (r : Rooms) (s : Parts) → only_add p o (λ z q. sum_parts p v w s z q) u r ≡ parts_arith p o v w s u r
by_parts p o v w u r (Parts.Elements ro) = refl
by_parts p o v w u r (Parts.Entries ro) = no-sum p o u r
by_parts p o v w u r (Parts.Present s a) = no-sum p o u r
by_parts p o v w u r Parts.Nothing = no-sum p o u r

abbrev pub Other : Plain → Type 0
Other Plain.Null = Unit {0}
Other (Plain.Bool b) = Unit {0}
Other (Plain.Number n) = ⊥
Other (Plain.String sp) = Unit {0}
Other (Plain.Bytes sp) = Unit {0}
Other Plain.OptionalNone = Unit {0}
Other Plain.Other = Unit {0}

by-plain : (p : ℕ) (o : Arith) (v w : Value) (u : Used) (r : Rooms) (x : Plain) → Other x → only_add p o (λ z q. sum_plain p v w x z q) u r ≡ plain_arith p o v w x u r
by-plain p o v w u r Plain.Null h = no-sum p o u r
by-plain p o v w u r (Plain.Bool b) h = no-sum p o u r
by-plain p o v w u r (Plain.Number n) h = absurd h
by-plain p o v w u r (Plain.String sp) h = refl
by-plain p o v w u r (Plain.Bytes sp) h = refl
by-plain p o v w u r Plain.OptionalNone h = no-sum p o u r
by-plain p o v w u r Plain.Other h = by_parts p o v w u r (parts_of v)

others : (x : Plain) → OneOf (0 ∷ 1 ∷ 3 ∷ 4 ∷ 5 ∷ 6 ∷ []) (tag_of the_type x) → Other x
others Plain.Null h = tt
others (Plain.Bool b) h = tt
others (Plain.Number n) h = absurd (miss (0 ∷ 1 ∷ 3 ∷ 4 ∷ 5 ∷ 6 ∷ []) 2 tt h)
others (Plain.String sp) h = tt
others (Plain.Bytes sp) h = tt
others Plain.OptionalNone h = tt
others Plain.Other h = tt

pub not-number : (p : ℕ) (o : Arith) (v w : Value) (u : Used) (r : Rooms) (x : Plain) → x ≡ plain_of v → OneOf (0 ∷ 1 ∷ 3 ∷ 4 ∷ 5 ∷ 6 ∷ []) (tag_of the_type x) →
    only_add p o (λ z q. sum_of p v w z q) u r ≡ arithmetic p o v w u r
not-number p o v w u r x e h =
    ap (λ y. only_add p o (λ z q. sum_plain p v w y z q) u r) (sym e) ∙ by-plain p o v w u r x (others x h) ∙ ap (λ y. plain_arith p o v w y u r) e
