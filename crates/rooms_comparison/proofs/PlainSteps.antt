-- The ways through a turn of `among_plain`, over plain variables. Assumes nothing.
use Prim.Native.Nat.{ℕ, suc, ◌+◌, ◌≤◌, ◌<◌}
use mathlib.Core.Path.{◌≡◌, refl, ap, ◌∙◌}
use mathlib.Core.Bool.{Bool, true, false}
use native.Mathlib.Numerals.{add-one}
use lib.Dec.{ltb}
use borrow.Author.Tests.{lt-ltb, le-ltb}
use Rattle.rooms.specs.declared.value.Value.{Value}
use Rattle.rooms.specs.declared.value.Parts.TheVariants as Parts
use Rattle.rooms.specs.declared.value.Row.{Row}
use Rattle.rooms_comparison.specs.declared.pairs.Pairs.TheVariants as Pairs
use Rattle.rooms.specs.Value.{parts_of, nesting_of}
use Rattle.rooms.specs.Rooms.{Rooms, cell_at}
use Rattle.rooms_comparison.specs.Seen.{same_seen, seen_in}
use Rattle.rooms_comparison.specs.Equality.{pair, decided, parts_equal, equal_in, equal_pairs}
use Rattle.rooms_comparison.proofs.AmongSteps.{looked, among_same, among-out, among-on}

-- a value without parts is one pair with any other
one-pair : (limit : ℕ) (r : Rooms) (x y : Value) (k : ℕ) → parts_of x ≡ Parts.Nothing → equal_pairs limit r x y k ≡ pair (ltb k limit) k (decided (same_seen (seen_in r x) (seen_in r y)) (suc k))
unfolding equal_pairs equal_in
one-pair limit r x y k p = ap (λ q. pair (ltb k limit) k (parts_equal (λ v w j. equal_in (nesting_of x) limit r v w j) limit r x y q (suc k))) p

module _ (limit : ℕ) (r : Rooms) (x : Value) (p : parts_of x ≡ Parts.Nothing) (row : Row) (done k : ℕ) (h : done < row.length) where
  pub plain_out : limit ≤ k → Pairs.Out k ≡ looked limit r x row done k
  plain_out g = among-out limit r x row done k k _ h refl (one-pair limit r x (cell_at r row.space (row.first + done)) k p ∙ rw (le-ltb k limit g))

  -- the pair as the code decides it
  asked : (y : Value) (s : Bool) → k < limit → y ≡ cell_at r row.space (row.first + done) → s ≡ same_seen (seen_in r x) (seen_in r y) → equal_pairs limit r x (cell_at r row.space (row.first + done)) k ≡ decided s (k + 1)
  asked y s g e f = one-pair limit r x (cell_at r row.space (row.first + done)) k p ∙ rw (lt-ltb k limit g, ← e, ← f, add-one k)

  pub plain-same : (y : Value) (s : Bool) → k < limit → y ≡ cell_at r row.space (row.first + done) → s ≡ same_seen (seen_in r x) (seen_in r y) → s ≡ true → Pairs.Same (k + 1) ≡ looked limit r x row done k
  plain-same y s g e f w = among_same limit r x row done k (k + 1) _ h refl (asked y s g e f ∙ ap (λ b. decided b (k + 1)) w)

  pub plain-on : (y : Value) (s : Bool) → k < limit → y ≡ cell_at r row.space (row.first + done) → s ≡ same_seen (seen_in r x) (seen_in r y) → s ≡ false → looked limit r x row (done + 1) (k + 1) ≡ looked limit r x row done k
  plain-on y s g e f w = among-on limit r x row done k (k + 1) _ h refl (asked y s g e f ∙ ap (λ b. decided b (k + 1)) w)
