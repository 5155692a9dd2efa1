-- The entries of a Map record, one at a time: what follows a key and a value, over what the calls for them ensure. Assumes nothing.
use Prim.Native.Nat.{ℕ, ◌+◌, ◌-◌, ◌<◌, ◌≤◌}
use mathlib.Core.Path.{◌≡◌, refl, sym, ◌∙◌, ap, subst}
use mathlib.Core.Bool.{Bool}
use mathlib.Core.List.{List}
use Rattle.std.specs.Prelude.{Option, None, Some, Result, Ok, Err}
use native.Mathlib.Omega.{arith}
use lib.Dec.{eqb}
use lib.ListN.{get_or}
use Rattle.rooms.specs.declared.value.Value.{Value}
use Rattle.rooms.specs.declared.value.CellSpace.TheVariants as Cells
use Rattle.rooms.specs.declared.scope.Scope.{Scope}
use Rattle.rooms.specs.declared.memory.Lent.{Lent}
use Rattle.rooms.specs.Rooms.{Rooms}
use Rattle.rooms.specs.Memory.{rooms_lent}
use Rattle.rooms_comparison.specs.declared.lookup.Found.{Found}
use Rattle.rooms_comparison.specs.LookUp.{find_in}
use Rattle.meaning.specs.Kinds.{map_kind}
use Rattle.table_layout.specs.Layout.{head_bytes, word_at, after}
use Rattle.table_check.specs.Records.{Sound, SoundPart, expr_of, pairs_of}
use Rattle.table_check.proofs.Opened.{opened}
use Rattle.machine.specs.declared.outcome.Used.{Used}
use Rattle.machine.specs.declared.outcome.Outcome.{Outcome}
use Rattle.machine.specs.Outcomes.{Res, with_value}
use Rattle.machine.specs.Views.{part_in}
use Rattle.machine.specs.Containers.{Filling, add_entry, map_done}
use Rattle.machine.specs.Machine.{entries, machine}
use Rattle.eval_outcomes.specs.Gives.{Gives, Stays}
use Rattle.eval_containers.specs.declared.Ready.{Ready}
use Rattle.eval_containers.specs.declared.Key.{Key}
use Rattle.eval_containers.specs.declared.entries.Entered.{Entered}
use Rattle.eval_containers.specs.Filling.{keyed_of, on_key, inserted_if, entered_of, on_entry}
use Rattle.eval_containers.proofs.FillingLaws.{keyed, entered}
use Rattle.eval_shapes.specs.Leaves.{unmarked_at}
use Rattle.eval_shapes.proofs.Rows.{EntriesLeft, pairs_next, entry-does, map_at}
use Rattle.eval_shallow.proofs.Stops.{Is, Stops, stays-here, after-operand, stops-there, goes_on}

-- how many parts an entry leaves, if it is made
abbrev AtMost : ℕ → Result Entered Outcome → Type 0
AtMost n (Ok e) = e.ready.count ≤ n
AtMost n (Err o) = Unit {0}

new-count : (f : Found) (p base : ℕ) (g : Ready) (key v : Value) (u : Used) (r : Rooms) → AtMost (g.count + 1) (inserted_if f p base g key v u r).0
new-count (Found.At c k) p base g key v u r = tt
new-count (Found.Missing k) p base g key v u r = omega arith
new-count (Found.Out k) p base g key v u r = tt

entry-count : (part : Option Value) (limit p base : ℕ) (g : Ready) (key : Value) (u : Used) (r : Rooms) → AtMost (g.count + 1) (entered_of limit p base g key part u r).0
entry-count None limit p base g key u r = omega arith
entry-count (Some v) limit p base g key u r = new-count (find_in limit r key Cells.Evaluation base g.count u.steps) p base g key v u r

pub entered-count : (limit p base : ℕ) (g : Ready) (key : Value) (marked : Bool) (v : Value) (u : Used) {y : Result Entered Outcome} {old new : Lent} →
    Gives y old new (λ r. entered_of limit p base g key (part_in r marked v) u r) → {e : Entered} → y ≡ Ok e → e.ready.count ≤ g.count + 1
entered-count limit p base g key marked v u {old = old} made is =
    let f = sym is ∙ ap (λ (y : Result Entered Outcome × Rooms). y.0) made.gives in
    subst (λ y. AtMost (g.count + 1) y) (sym f) (entry-count (part_in (rooms_lent old) marked v) limit p base g key u (rooms_lent old))

module _ (t x : List ℕ) (limit p base : ℕ) (c : Scope) where
  -- n entries are left, the next of them at q
  abbrev pub from_entry : (n q : ℕ) → Ready → Used → Rooms → Res
  from_entry n q g u r = entries t limit p (pairs_of t x n q) c base g.count g.deep u r

  pub no-entry : (n q : ℕ) → n ≡ 0 → (g : Ready) (u : Used) (r : Rooms) → from_entry n q g u r ≡ map_done base g.count g.deep u r
  unfolding entries
  no-entry n q e g u r = rw e

  module _ (n q : ℕ) (h : 0 < n) (sound : SoundPart t x (after t q)) (g : Ready) (u : Used) (r : Rooms) where
    abbrev key_does : Res
    key_does = machine t limit (expr_of t x q) c u r

    abbrev value_does : Used → Rooms → Res
    value_does w z = machine t limit (expr_of t x (unmarked_at t (after t q))) c w z

    abbrev rest : Filling
    rest m d w o = entries t limit p (pairs_of t x (n - 1) (after t (after t q))) c base m d w o

    abbrev onward : Value → Used → Rooms → Res
    onward key w z =
        with_value (value_does w z).0 (value_does w z).1
        (λ v w' z'. add_entry limit p base g.count g.deep key (part_in z' (eqb (get_or t (after t q) 0) 14) v) w' z' (λ m d w o. rest m d w o))

    this-entry : {o : Outcome} {z : Rooms} → Is o z key_does → from_entry n q g u r ≡ on_key (keyed_of p o) z onward
    this-entry {o} {z} e =
        rw (pairs_next t x n q h) (entry-does t limit c base g.count g.deep u r x (after t q) sound p (expr_of t x q) (pairs_of t x (n - 1) (after t (after t q)))) ∙
        (after-operand key_does e _ ∙ keyed p onward o z (keyed_of p o) refl)

    pub key-ends : {o : Outcome} {z : Rooms} → Is o z key_does → {e : Outcome} {k : Result Key Outcome} → k ≡ keyed_of p o → k ≡ Err e → Is e z (from_entry n q g u r)
    key-ends {z = z} e a is = sym (this-entry e ∙ ap (λ k. on_key k z onward) (sym a ∙ is))

    module _ {o : Outcome} {z : Rooms} (first : Is o z key_does) {k : Result Key Outcome} (a : k ≡ keyed_of p o) {key : Key} (is : k ≡ Ok key) where
      this_key : from_entry n q g u r ≡ onward key.value key.used z
      this_key = this-entry first ∙ ap (λ k. on_key k z onward) (sym a ∙ is)

      pub value-stops : {o' : Outcome} {z' : Rooms} → Is o' z' (value_does key.used z) → Stops o' → Is o' z' (from_entry n q g u r)
      value-stops second s = stops-there (value_does key.used z) second s _ ∙ sym this_key

      module _ {o' : Outcome} {old : Lent} (second : Is o' (rooms_lent old) (value_does key.used z)) {v : Value} {w' : Used} (value : o' ≡ Outcome.Value v w') {b : Bool} (mark : b ≡ eqb (get_or t (after t q) 0) 14)
          {y : Result Entered Outcome} {new : Lent} (made : Gives y old new (λ r. entered_of limit p base g key.value (part_in r b v) w' r)) where
        this-value : on_entry y (rooms_lent new) rest ≡ from_entry n q g u r
        this-value =
            let m = rw mark at made in
            sym (entered limit p base key.value w' rest g (eqb (get_or t (after t q) 0) 14) v m) ∙
            (goes_on (value_does key.used z) second value _ ∙ sym this_key)

        pub entry-ends : {e : Outcome} → y ≡ Err e → Is e (rooms_lent new) (from_entry n q g u r)
        entry-ends is = ap (λ y. on_entry y (rooms_lent new) rest) (sym is) ∙ this-value

        pub entry-again : {e : Entered} → y ≡ Ok e →
            from_entry (n - 1) (after t (after t q)) e.ready e.used (rooms_lent new) ≡ from_entry n q g u r
        entry-again is = ap (λ y. on_entry y (rooms_lent new) rest) (sym is) ∙ this-value

-- the loop over them: `left` entries are left of the record at p, from `place` on; `old` was lent before the loop
pub record MapLoop (t x : List ℕ) (limit p base count : ℕ) (c : Scope) (u₀ : Used) (old now : Lent) (place left : ℕ) (u : Used) (g : Ready) : Type 0 where
  pub row : EntriesLeft t x p left place
  pub stays : Stays old now
  pub room : g.count + left ≤ count
  pub same : from_entry t x limit p base c left place g u (rooms_lent now) ≡
      from_entry t x limit p base c count (p + 5) (record { count = 0; deep = 0 }) u₀ (rooms_lent old)

pub map-begins : (t x : List ℕ) (limit p base count : ℕ) (c : Scope) (u : Used) (old : Lent) → Sound t x p → get_or t p 0 ≡ 13 → count ≡ word_at t (p + 3) →
    {q : ℕ} → q ≡ p + head_bytes (get_or t p 0) → MapLoop t x limit p base count c u old old q count u (record { count = 0; deep = 0 })
map-begins t x limit p base count c u old s k n e =
    let first = e ∙ (opened t x p map_kind k s).first in
    rw first (record { row = rw n (map_at t x p s k).left; stays = stays-here; room = omega arith; same = refl })
