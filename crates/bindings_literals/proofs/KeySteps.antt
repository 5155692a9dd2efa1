-- A turn of `repeated`, over plain variables. Assumes nothing.
use Prim.Native.Nat.{ℕ, zero, suc, ◌+◌, ◌-◌, ◌≤◌, ◌<◌}
use mathlib.Core.Path.{◌≡◌, sym, ◌∙◌}
use mathlib.Core.List.{List, []}
use mathlib.Core.Bool.{Bool, true, false, ◌||◌}
use native.Mathlib.Omega.{arith}
use Rattle.rooms.specs.declared.value.Value.{Value}
use Rattle.rooms.specs.Value.{plain_of}
use Rattle.rooms_comparison.specs.Seen.{seen_of, same_seen}
use Rattle.table_layout.specs.Layout.{after}
use Rattle.table_check.specs.Records.{Sound, SoundPart}
use Rattle.bindings_literals.specs.Literals.{Entries, literal_value}
use Rattle.bindings_literals.specs.Judging.{repeated_in}
use Rattle.bindings_literals.proofs.Rows.{Place, sound-place, part-place, first_entry}

pub back : (n : ℕ) → suc n - 1 ≡ n
back n = omega arith

pub no_more : (n : ℕ) → n ≤ 0 → n ≡ 0
no_more n h = omega arith

abbrev pub match_at : (x : List ℕ) → Value → Value → Bool
match_at x v u = same_seen (seen_of x [] [] (plain_of v)) (seen_of x [] [] (plain_of u))

repeated-turn : (t x : List ℕ) (v : Value) (n q : ℕ) → 0 < n →
    repeated_in t x v n q ≡ (match_at x v (literal_value t q) || repeated_in t x v (n - 1) (after t (after t q)))
unfolding repeated_in
repeated-turn t x v zero q h = absurd (omega arith)
repeated-turn t x v (suc n) q h = rw (back n)

-- of `count` keys from `first` on, `done` are unlike, and the others lie from `at` on
pub record KeysLeft (t x : List ℕ) (v : Value) (first count at done : ℕ) : Type 0 where
  pub rest : Entries t x (count - done) at
  pub same : repeated_in t x v (count - done) at ≡ repeated_in t x v count first

pub keys_start : (t x : List ℕ) (v : Value) (first count : ℕ) → Entries t x count first → KeysLeft t x v first count first 0
keys_start t x v first count o = record { rest = rw (all_left count) o; same = rw (all_left count) }
  where
    all_left : (n : ℕ) → n - 0 ≡ n
    all_left n = omega arith

module _ {t x : List ℕ} {v : Value} {first count at done : ℕ} (l : KeysLeft t x v first count at done) where
  pub keys_done : count ≤ done → false ≡ repeated_in t x v count first
  unfolding repeated_in
  keys_done h = let z : count - done ≡ 0 = omega arith in let e : repeated_in t x v 0 at ≡ repeated_in t x v count first = rw z at l.same in e

  module _ (h : done < count) where
    some : 0 < count - done
    some = omega arith

    next : Sound t x at × SoundPart t x (after t at) × Entries t x (count - done - 1) (after t (after t at))
    next = first_entry t x (count - done) at some l.rest

    pub key_here : Place t at
    key_here = sound-place t x at next.0

    pub value_here : Place t (after t at)
    value_here = part-place t x (after t at) next.1

    pub key_found : {u : Value} → u ≡ literal_value t at → match_at x v u ≡ true → true ≡ repeated_in t x v count first
    key_found e m = sym (repeated-turn t x v (count - done) at some ∙ (rw (← e, m))) ∙ l.same

    pub keys_on : {u : Value} {a b : ℕ} → u ≡ literal_value t at → match_at x v u ≡ false → a ≡ after t at → b ≡ after t a →
        KeysLeft t x v first count b (done + 1)
    keys_on e m f g =
        rw (g, f)
        (record {
          rest = rw (one_less count done) next.2;
          same = rw (one_less count done) (sym (repeated-turn t x v (count - done) at some ∙ (rw (← e, m))) ∙ l.same);
        })
      where
        one_less : (n i : ℕ) → n - (i + 1) ≡ n - i - 1
        one_less n i = omega arith
