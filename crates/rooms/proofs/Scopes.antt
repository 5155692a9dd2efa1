-- The slots of a scope: each slot of the empty one is absent; a slot read and stored; what a scope stands for, where it is empty, after a
-- slot is stored, and in other rooms. Assumes nothing.
use Prim.Native.Nat.{ℕ, zero, suc, ◌<◌, ◌≤◌}
use mathlib.Core.Path.{◌≡◌, refl, sym, ap, ◌∙◌, subst}
use mathlib.Core.Bool.{Bool, true, false, cond}
use Rattle.std.specs.Prelude.{Option, None, Some}
use mathlib.Core.Logic.{◌≢◌}
use mathlib.Core.List.{List, [], ◌∷◌, map}
use native.Mathlib.Omega.{arith}
use lib.ListN.{length, get_or, set, length-map, length-set, replicate, length-replicate, get_or-replicate, get_or-eq_default}
use lib.Dec.{eqb}
use borrow.Author.Tests.{eqb-true, eqb-false}
use lib.Seq.{get_or-set_same, get_or-set_other}
use Rattle.meaning.specs.Value as Meaning
use Rattle.meaning.specs.Comprehension as Scopes
use Rattle.meaning.specs.Comprehension.{empty_scope, store}
use Rattle.rooms.specs.declared.value.Value.{Value}
use Rattle.rooms.specs.declared.scope.Slot.{Slot}
use Rattle.rooms.specs.declared.scope.Scope.{Scope}
use Rattle.rooms.specs.Rooms.{Rooms}
use Rattle.rooms.specs.Stands.{Alive, Holds, Agrees}
use Rattle.rooms.specs.Scope.{absent, empty_slots, slot_of, stored, StandsSlot, StandsScope}
use Rattle.rooms.proofs.Frame.{holds_frame}

-- Each slot of the empty scope is absent: whatever else is said of numbers that are no name.
pub each-absent : (n : ℕ) (other : Slot) → n < 128 → get_or empty_slots.slots n other ≡ absent
each-absent n other h = get_or-replicate 128 n absent other h

-- of any number of absent slots each is absent, and so is what is beyond them
absent-at : (n k : ℕ) → (get_or (replicate k absent) n absent).value ≡ Value.Absent
absent-at n zero = refl
absent-at zero (suc k) = refl
absent-at (suc n) (suc k) = absent-at n k

-- an element that is there, whatever is said of one that is not
pub there : {A : Type 0} (l : List A) (n : ℕ) (a b : A) → n < length l → get_or l n a ≡ get_or l n b
there [] n a b h = absurd (omega arith)
there (x ∷ l) zero a b h = refl
there (x ∷ l) (suc n) a b h = there l n a b (omega arith)

pub set_beyond : {A : Type 0} (l : List A) (n : ℕ) (a : A) → length l ≤ n → set l n a ≡ l
set_beyond [] n a h = refl
set_beyond (x ∷ l) zero a h = absurd (omega arith)
set_beyond (x ∷ l) (suc n) a h = ap {B = List _} (λ m. x ∷ m) (set_beyond l n a (omega arith))

-- how many elements an array has, from what owning it tells
pub mapped-length : {A B : Type 0} (l : List A) (f : A → B) (n : ℕ) → length (map f l) ≡ n → length l ≡ n
mapped-length l f n e = sym (length-map l f) ∙ e

-- the slot of a name, as the code reads it in place
pub read-slot : (s : Scope) (n : ℕ) (other : Slot) → length s.slots ≡ 128 → n < 128 → (get_or s.slots n other).value ≡ slot_of s n
read-slot s n other e h = ap (λ (x : Slot). x.value) (there s.slots n other absent (omega (arith, e, h)))

pub no_slot : (s : Scope) (n : ℕ) → length s.slots ≡ 128 → 128 ≤ n → slot_of s n ≡ Value.Absent
no_slot s n e h = ap (λ (x : Slot). x.value) (get_or-eq_default s.slots absent {n = n} (omega (arith, e, h)))

pub none-stored : (s : Scope) (n : ℕ) (v : Value) → length s.slots ≡ 128 → 128 ≤ n → stored s n v ≡ s
none-stored s n v e h = ap (λ (l : List Slot). record { slots = l }) (set_beyond s.slots n (record { value = v }) (omega (arith, e, h)))

-- A slot that was stored holds its value, every other slot its own.
pub stored_same : (s : Scope) (n : ℕ) (v : Value) → n < length s.slots → slot_of (stored s n v) n ≡ v
stored_same s n v h = ap (λ (x : Slot). x.value) (get_or-set_same s.slots n (record { value = v }) absent h)

pub stored_other : (s : Scope) (n m : ℕ) (v : Value) → m ≢ n → slot_of (stored s n v) m ≡ slot_of s m
stored_other s n m v d = ap (λ (x : Slot). x.value) (get_or-set_other s.slots n m (record { value = v }) absent d)

-- ---- what a scope stands for

-- The empty scope stands for the empty scope.
pub scope-empty : (L : Alive) (r : Rooms) → StandsScope empty_scope L r empty_slots
unfolding empty_scope
scope-empty L r = record { long = length-replicate 128 absent; each = λ n. absent-at n 128 }

-- A value stored in a slot is the name's value, and every other name keeps its own.
pub scope-stored : (s : Scopes.Scope) (L : Alive) (r : Rooms) (m : Scope) (n : ℕ) (v : Meaning.Value) (x : Value) → n < 128 → Holds v L r x → StandsScope s L r m → StandsScope (store s n v) L r (stored m n x)
unfolding store
scope-stored s L r m n v x h g stands = record { long = length-set m.slots n (record { value = x }) ∙ stands.long; each = λ k. one k (eqb k n) refl }
  where
    one : (k : ℕ) (b : Bool) → eqb k n ≡ b → StandsSlot (cond b (Some v) (s k)) L r (slot_of (stored m n x) k)
    one k true e = subst (λ y. Holds v L r y) (sym (ap (slot_of (stored m n x)) (eqb-true k n e) ∙ stored_same m n x (omega (arith, h, stands.long)))) g
    one k false e = subst (λ y. StandsSlot (s k) L r y) (sym (stored_other m n k x (eqb-false k n e))) (stands.each k)

-- Rooms that agree on what is alive hold the same scope.
pub scope-frame : (L M : Alive) (r q : Rooms) → Agrees L M r q → (s : Scopes.Scope) (m : Scope) → StandsScope s L r m → StandsScope s M q m
scope-frame L M r q g s m stands = record { long = stands.long; each = λ n. one (s n) (slot_of m n) (stands.each n) }
  where
    one : (o : Option Meaning.Value) (x : Value) → StandsSlot o L r x → StandsSlot o M q x
    one None x h = h
    one (Some v) x h = holds_frame L M r q g v x h
