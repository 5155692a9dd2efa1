-- Bindings hold well-formed values: of every accepted binding room, what is bound under which names, how much it takes, and what the scope
-- that it gives has in its slots. Rests on TableFormed and Spelled. Assumes nothing.
use Prim.Native.Nat.{ℕ, ◌+◌, ◌≤◌, ◌<◌, min}
use mathlib.Core.Path.{◌≡◌, refl, subst}
use mathlib.Core.List.{List, [], ◌∷◌}
use Rattle.std.specs.Prelude.{Option, Some}
use mathlib.Core.Bool.{Bool, true, false, ◌&&◌, cond}
use native.Mathlib.Omega.{arith}
use lib.Dec.{leb, eqb}
use borrow.Author.Tests.{leb-true}
use Rattle.meaning.specs.Limits.{names, most_cells, most_bytes}
use Rattle.meaning.specs.Value.{Value}
use Rattle.meaning.specs.Comprehension.{empty_scope, store}
use Rattle.meaning.specs.Bindings.{cells_of, bytes_of, BindingRoom, bound_in, scope_of, bring}
use Rattle.meaning.specs.WellFormed.{AllBytes, WellFormed}
use Rattle.meaning_laws.specs.Accepted.{Accepted, fresh, brought, BoundValue, BoundScope, cells_taken, bytes_taken, FormedRoom}
use Rattle.meaning_laws.specs.Each.{Each, Reads}
use Rattle.meaning_laws.proofs.Fine.{Perhaps}
use Rattle.meaning_laws.proofs.Reading.{reads-got, reads-bind, reads-demand, was_read}
use Rattle.meaning_laws.proofs.TableFormed.{reads-name, table-formed}
use Rattle.meaning_laws.proofs.Spelled.{literal-sound, spelled-well-formed}

-- of two demands made at once, each holds
pub both_true : (a b : Bool) → (a && b) ≡ true → (a ≡ true) × (b ≡ true)
both_true true b e = (refl, e)
both_true false b e = (e, cc)

-- Bringing in a binding keeps the room so: a value that is accepted is well formed.
pub brought-formed : (lent_cells lent_bytes : ℕ) (room : BindingRoom) (number : ℕ) (table text : List ℕ) → AllBytes table → AllBytes text
    → FormedRoom lent_cells lent_bytes room
    → Reads (FormedRoom lent_cells lent_bytes) (bring lent_cells lent_bytes room number table text)
unfolding bring
brought-formed lent_cells lent_bytes room number table text ht hx r =
    reads-bind (reads-name _ number)
    (λ n below. reads-demand _ _ _
    (λ free. reads-bind (table-formed table text ht hx)
    (λ e f. reads-bind (literal-sound e f)
    (λ l s. reads-bind (spelled-well-formed l s)
    (λ v w. reads-demand _ _ _
    (λ fits.
    let both = both_true (leb (room.used_cells + cells_of v) (min lent_cells most_cells)) (leb (room.used_bytes + bytes_of v) (min lent_bytes most_bytes)) fits in
    let sum_cells = r.cells_sum in
    let sum_bytes = r.bytes_sum in
    reads-got _
    (record {
      bindings = ((below, w), r.bindings);
      cells_sum = omega arith;
      bytes_sum = omega arith;
      cells_fit = leb-true (room.used_cells + cells_of v) (min lent_cells most_cells) both.0;
      bytes_fit = leb-true (room.used_bytes + bytes_of v) (min lent_bytes most_bytes) both.1;
    })))))))

-- In every accepted room bound names are below 128 and bound values well formed; the counts are the sums of what the values take, at most the
-- lent lengths and at most the limits.
pub accepted-formed : {lent_cells lent_bytes : ℕ} {room : BindingRoom} → Accepted lent_cells lent_bytes room → FormedRoom lent_cells lent_bytes room
accepted-formed fresh = record { bindings = tt; cells_sum = refl; bytes_sum = refl; cells_fit = omega arith; bytes_fit = omega arith }
accepted-formed {lent_cells} {lent_bytes} (brought {room} number table text before ht hx e) =
    was_read (brought-formed lent_cells lent_bytes room number table text ht hx (accepted-formed before)) e

-- ---- the scope that a room gives

slots-bound : (bs : List (ℕ × Value)) → Each (λ b. (b.0 < names) × WellFormed b.1) bs → cells_taken bs ≤ most_cells → bytes_taken bs ≤ most_bytes
    → (n : ℕ) → Perhaps BoundValue (bound_in bs n)
unfolding bound_in empty_scope store
slots-bound [] h c d n = tt
slots-bound (b ∷ bs) h c d n = go (eqb n b.0) (slots-bound bs h.1 (omega arith) (omega arith) n)
  where
    go : (t : Bool) → Perhaps BoundValue (bound_in bs n) → Perhaps BoundValue (cond t (Some b.1) (bound_in bs n))
    go true below = record { formed = h.0.1; cells_fit = omega arith; bytes_fit = omega arith }
    go false below = below

is-there : (o : Option Value) → Perhaps BoundValue o → (v : Value) → o ≡ Some v → BoundValue v
is-there o h v e = subst (λ (x : Option Value). Perhaps BoundValue x) e h

-- Every slot of the scope that an accepted room gives holds a well-formed value, no larger than a binding room.
pub accepted-scope : {lent_cells lent_bytes : ℕ} {room : BindingRoom} → Accepted lent_cells lent_bytes room → BoundScope (scope_of room)
unfolding scope_of
accepted-scope {lent_cells} {lent_bytes} {room} a n v e =
    let f = accepted-formed a in
    let c = f.cells_sum in
    let d = f.bytes_sum in
    let g = f.cells_fit in
    let h = f.bytes_fit in
    is-there (bound_in room.bound n) (slots-bound room.bound f.bindings (omega arith) (omega arith) n) v e
