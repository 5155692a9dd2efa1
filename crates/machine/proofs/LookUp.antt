-- Look-up in a List or a Map, and `in`, refine their rules; what becomes of a look-up. Rests on Steps, Building. Assumes nothing.
use Prim.Native.Nat.{ℕ, zero, suc, ◌+◌, ◌≤◌, ◌<◌, max}
use mathlib.Core.Path.{◌≡◌, refl, sym, subst}
use mathlib.Core.List.{List}
use Rattle.std.specs.Prelude.{Option, None, Some}
use Rattle.meaning.specs.Options.{bind}
use mathlib.Core.Bool.{Bool, true, false, cond}
use native.Mathlib.Omega.{arith}
use lib.IntN.{ℤ, pos, negsuc}
use borrow.Author.Tests.{lt-ltb, le-ltb}
use Rattle.numbers.specs.declared.double.Double.{Double}
use Rattle.numbers.specs.declared.double.Double.TheVariants as Bits
use Rattle.meaning.specs.Limits.{Counts, deepest_value}
use Rattle.meaning.specs.Errors.{NoOverload, NoSuchKey, IndexOutOfBounds}
use Rattle.meaning.specs.Value as Meaning
use Rattle.meaning.specs.Value.{Scalar, null, bool, int, uint, double, string, bytes, Values, nil, cons, Entries, empty, entry, scalar, list, map, optional_none, optional_of, scalar_of, key_scalar, nesting, nesting_in, nesting_over, count, count_entries, nth}
use Rattle.meaning.specs.Run.{Rule, pure, charged, after, on_value, ◌>>=◌, fail, or_fail, truth}
use Rattle.meaning.specs.Comparison.{tick, scalar_equal, find, among, compared}
use Rattle.meaning.specs.Maps as Rules
use Rattle.meaning.specs.Maps.{probe_of, position_of, position_in, element_at, is_found, in_rule}
use Rattle.meaning.specs.Selection as Rules2
use Rattle.meaning.specs.Comprehension as Comprehension
use Rattle.rooms.specs.declared.value.Value.{Value}
use Rattle.rooms.specs.declared.value.CellSpace.{CellSpace}
use Rattle.rooms.specs.declared.value.Parts.TheVariants as Parts
use Rattle.rooms_text.specs.declared.sizes.Position.TheVariants as Position
use Rattle.rooms.specs.declared.scope.Scope.{Scope}
use Rattle.rooms.specs.Value.{parts_of, double_value, is_key}
use Rattle.rooms.specs.Rooms.{Rooms, cell_at}
use Rattle.rooms.specs.Stands.{Alive, StandsScalar, Stands, StandsCells, StandsEntries, Holds}
use Rattle.rooms_comparison.specs.LookUp.{find_in}
use Rattle.rooms_text.specs.Sizes.{inside_int}
use Rattle.rooms_text.specs.Sizes as Positions
use Rattle.rooms_comparison.proofs.EqualMeaning.{find-ok, among-ok}
use Rattle.machine.specs.declared.outcome.Outcome.{Outcome}
use Rattle.machine.specs.declared.outcome.Error.TheVariants as Error
use Rattle.machine.specs.Outcomes.{truth_out, no_overload}
use Rattle.machine.specs.Comparison.{on_found}
use Rattle.machine.specs.Selection.{element_out, entry_out, look_up_in, look_up, in_parts, optionally, tells}
use Rattle.machine.specs.Refines.{used_of, Start}
use Rattle.machine.proofs.Match.{Says, value-now, error-now, then}
use Rattle.machine.proofs.Steps.{pairs-then, found-then}
use Rattle.rooms_comparison.proofs.SeenMeaning.{scalar-parts}
use Rattle.machine.proofs.Seen.{held_none, Probe, probe-view}
use Rattle.machine.proofs.Logic.{truth-now}
use Rattle.machine.proofs.Building.{present-says}
use Rattle.rooms_text.proofs.SizeMeaning.{nth-stands}
use Rattle.rooms.specs.Spans.{row}

None≢Some : {v : Meaning.Value} → ◌≡◌ {A = Option Meaning.Value} None (Some v) → ⊥
None≢Some e = let z : ◌≡◌ {A = ℕ} 0 1 = cc in omega arith

some-injective : {v w : Meaning.Value} → ◌≡◌ {A = Option Meaning.Value} (Some v) (Some w) → v ≡ w
some-injective e = cc

-- ---- parts nest no deeper than their container

nth-nesting : (vs : Values) (i : ℕ) (v : Meaning.Value) → nth vs i ≡ Some v → nesting v ≤ nesting_in vs
unfolding nth nesting_in
nth-nesting nil i v e = absurd (None≢Some e)
nth-nesting (cons w vs) zero v e = subst (λ z. nesting z ≤ max (nesting w) (nesting_in vs)) (some-injective e) (omega arith)
nth-nesting (cons w vs) (suc i) v e = omega (arith, nth-nesting vs i v e)

nth_inside : (vs : Values) (i : ℕ) (v : Meaning.Value) → nth vs i ≡ Some v → i < count vs
unfolding nth count
nth_inside nil i v e = absurd (None≢Some e)
nth_inside (cons w vs) zero v e = omega arith
nth_inside (cons w vs) (suc i) v e = omega (arith, nth_inside vs i v e)

nth-outside : (vs : Values) (i : ℕ) → nth vs i ≡ None → count vs ≤ i
unfolding nth count
nth-outside nil i e = omega arith
nth-outside (cons w vs) zero e = absurd (None≢Some (sym e))
nth-outside (cons w vs) (suc i) e = omega (arith, nth-outside vs i e)

find-nesting : (x : Scalar) (es : Entries) (v : Meaning.Value) → (find x es).1 ≡ Some v → nesting v ≤ nesting_over es
unfolding find tick nesting_over
find-nesting x empty v e = absurd (None≢Some e)
find-nesting x (entry k w es) v e = go (scalar_equal x (key_scalar k)) e (λ i. omega (arith, find-nesting x es v i))
  where
    go : (b : Bool) → (cond b (0, Some w) (find x es)).1 ≡ Some v → ((find x es).1 ≡ Some v → nesting v ≤ max (nesting w) (nesting_over es)) → nesting v ≤ max (nesting w) (nesting_over es)
    go true i f = subst (λ z. nesting z ≤ max (nesting w) (nesting_over es)) (some-injective i) (omega arith)
    go false i f = f i

double-position : (x : Double) (n : ℕ) → Positions.position_of (double_value x) n ≡ Position.Unsuited
double-position (Bits.Plain x) n = refl
double-position (Bits.Nan b) n = refl

module _ (l : Counts) (src : List ℕ) where
  -- the value in a live cell
  pub held-cell : {L : Alive} {u : Counts} {r : Rooms} {s : Scope} {t : Comprehension.Scope} → Start l src L u r s t → (v : Meaning.Value) (space : CellSpace) (c : ℕ) → Stands v L r (cell_at r space c) → nesting v ≤ deepest_value → Holds v L r (cell_at r space c)
  held-cell a v space c h n = record { stands = h; fits = a.fitting space c; nests = n }

  module _ {L : Alive} {u : Counts} {r : Rooms} {s : Scope} {t : Comprehension.Scope} (st : Start l src L u r s t) (p : ℕ) where
    -- ---- in a List

    element-end : (vs : Values) (space : CellSpace) (a i : ℕ) → suc (nesting_in vs) ≤ deepest_value → StandsCells vs L r space a → (o : Option Meaning.Value) → nth vs i ≡ o → Says l src p L u r (element_out p r space a (used_of u) (Positions.inside i (count vs)), r) (or_fail IndexOutOfBounds o)
    unfolding or_fail
    element-end vs space a i deep h None e = rw (le-ltb i (count vs) (nth-outside vs i e)) (error-now l src st p IndexOutOfBounds)
    element-end vs space a i deep h (Some v) e =
        rw (lt-ltb i (count vs) (nth_inside vs i v e)) (value-now l src st p (cell_at r space (a + i)) v (held-cell st v space (a + i) (nth-stands L r vs space a i v h e).1 (omega (arith, nth-nesting vs i v e))))

    index-end : (vs : Values) (space : CellSpace) (a : ℕ) → suc (nesting_in vs) ≤ deepest_value → StandsCells vs L r space a → (z : ℤ) → Says l src p L u r (element_out p r space a (used_of u) (inside_int z (count vs)), r) (or_fail IndexOutOfBounds (element_at vs z))
    unfolding element_at
    index-end vs space a deep h (pos i) = element-end vs space a i deep h (nth vs i) refl
    index-end vs space a deep h (negsuc i) = unfold or_fail in error-now l src st p IndexOutOfBounds

    module _ (vs : Values) (space : CellSpace) (a : ℕ) (deep : suc (nesting_in vs) ≤ deepest_value) (h : StandsCells vs L r space a) where
      abbrev Indexes : Value → Meaning.Value → Type 0
      Indexes n w = Says l src p L u r (element_out p r space a (used_of u) (Positions.position_of n (count vs)), r) (◌>>=◌ (or_fail NoOverload (position_of w)) (λ z. or_fail IndexOutOfBounds (element_at vs z)))

      in_list : (w : Meaning.Value) (n : Value) → Stands w L r n → Indexes n w
      unfolding Stands StandsScalar position_of position_in scalar_of bind ◌>>=◌ after on_value charged or_fail fail pure
      in_list (scalar null) n k = subst (λ x. Indexes x (scalar null)) (sym k) (error-now l src st p NoOverload)
      in_list (scalar (bool b)) n k = subst (λ x. Indexes x (scalar (bool b))) (sym k) (error-now l src st p NoOverload)
      in_list (scalar (int z)) n k = subst (λ x. Indexes x (scalar (int z))) (sym k) (index-end vs space a deep h z)
      in_list (scalar (uint i)) n k = subst (λ x. Indexes x (scalar (uint i))) (sym k) (index-end vs space a deep h (pos i))
      in_list (scalar (double d)) n k = subst (λ x. Indexes x (scalar (double d))) (sym k.1) (subst (λ y. Says l src p L u r (element_out p r space a (used_of u) y, r) (fail NoOverload)) (sym (double-position k.0 (count vs))) (error-now l src st p NoOverload))
      in_list (scalar (string x)) n k = subst (λ y. Indexes y (scalar (string x))) (sym k.2) (error-now l src st p NoOverload)
      in_list (scalar (bytes x)) n k = subst (λ y. Indexes y (scalar (bytes x))) (sym k.2) (error-now l src st p NoOverload)
      in_list (list ws) n k = subst (λ x. Indexes x (list ws)) (sym k.2) (error-now l src st p NoOverload)
      in_list (map es) n k = subst (λ x. Indexes x (map es)) (sym k.2) (error-now l src st p NoOverload)
      in_list optional_none n k = subst (λ x. Indexes x optional_none) (sym k) (error-now l src st p NoOverload)
      in_list (optional_of w) n k = subst (λ x. Indexes x (optional_of w)) (sym k.2) (error-now l src st p NoOverload)

    -- ---- in a Map

    -- a key looked up, by what comes of it
    map-end : (es : Entries) (space : CellSpace) (a : ℕ) → suc (nesting_over es) ≤ deepest_value → StandsEntries es L r space a → (n : Value) (o : Option Scalar) → Probe L r o n → Says l src p L u r (cond (is_key n) (entry_out l.steps p r space a (count_entries es) n (used_of u)) (no_overload p (used_of u)), r) (◌>>=◌ (or_fail NoOverload o) (λ x. ◌>>=◌ (compared (find x es)) (or_fail NoSuchKey)))
    unfolding ◌>>=◌ after on_value charged or_fail fail pure
    map-end es space a deep h n None k = rw k (error-now l src st p NoOverload)
    map-end es space a deep h n (Some x) k =
        rw k.0
        (found-then l src st p space (find x es) (find_in l.steps r n space a (count_entries es) u.steps) (find-ok L r l.steps x n es space a u.steps k.1 h)
        (λ f. (on_found f (used_of u) (λ c w. Outcome.Value (cell_at r space c) w) (λ w. Outcome.Error Error.NoSuchKey p w), r)) (or_fail NoSuchKey) (λ j. refl)
        (λ j b. error-now l src b p NoSuchKey)
        (λ j b v e c i g. value-now l src b p (cell_at r space c) v (held-cell b v space c g (omega (arith, find-nesting x es v e)))))

    in-map-end : (es : Entries) (space : CellSpace) (a : ℕ) → StandsEntries es L r space a → (n : Value) (o : Option Scalar) → Probe L r o n → Says l src p L u r (in_parts l.steps p r n (used_of u) (Parts.Entries (row space a (count_entries es))), r) (◌>>=◌ (or_fail NoOverload o) (λ x. ◌>>=◌ (compared (find x es)) (λ found. truth (is_found found))))
    unfolding ◌>>=◌ after on_value charged or_fail fail pure is_found
    in-map-end es space a h n None k = rw k (error-now l src st p NoOverload)
    in-map-end es space a h n (Some x) k =
        rw k.0
        (found-then l src st p space (find x es) (find_in l.steps r n space a (count_entries es) u.steps) (find-ok L r l.steps x n es space a u.steps k.1 h)
        (λ f. (on_found f (used_of u) (λ c w. truth_out true w) (λ w. truth_out false w), r)) (λ found. truth (is_found found)) (λ j. refl)
        (λ j b. truth-now l src b p false)
        (λ j b v e c i g. truth-now l src b p true))

    -- ---- look-up and `in`

    module _ (w : Meaning.Value) (n : Value) (k : Holds w L r n) where
      abbrev Looks : Value → Meaning.Value → Type 0
      Looks m v = Says l src p L u r (look_up l.steps p r m n (used_of u), r) (Rules.look_up v w)

      pub look_up-says : (v : Meaning.Value) (m : Value) → Holds v L r m → Looks m v
      unfolding Rules.look_up Stands nesting
      look_up-says (scalar x) m h = subst (λ y. Says l src p L u r (look_up_in l.steps p r n (used_of u) y, r) (fail NoOverload)) (sym (scalar-parts L r x m h.stands)) (error-now l src st p NoOverload)
      look_up-says (list vs) m h = subst (λ y. Looks y (list vs)) (sym h.stands.2) (in_list vs h.stands.0 h.stands.1 h.nests h.stands.3 w n k.stands)
      look_up-says (map es) m h = subst (λ y. Looks y (map es)) (sym h.stands.2) (map-end es h.stands.0 h.stands.1 h.nests h.stands.3 n (probe_of w) (probe-view L r w n k.stands))
      look_up-says optional_none m h = subst (λ y. Looks y optional_none) (sym h.stands) (error-now l src st p NoOverload)
      look_up-says (optional_of v) m h = subst (λ y. Looks y (optional_of v)) (sym h.stands.2) (error-now l src st p NoOverload)

    module _ (v : Meaning.Value) (m : Value) (k : Holds v L r m) where
      abbrev Finds : Value → Meaning.Value → Type 0
      Finds n w = Says l src p L u r (in_parts l.steps p r m (used_of u) (parts_of n), r) (in_rule v w)

      pub in-says : (w : Meaning.Value) (n : Value) → Holds w L r n → Finds n w
      unfolding in_rule Stands
      in-says (scalar x) n h = subst (λ y. Says l src p L u r (in_parts l.steps p r m (used_of u) y, r) (fail NoOverload)) (sym (scalar-parts L r x n h.stands)) (error-now l src st p NoOverload)
      in-says (list ws) n h =
          subst (λ y. Finds y (list ws)) (sym h.stands.2)
          (pairs-then l src st p (among v ws) _ (among-ok L r l.steps v ws m h.stands.0 h.stands.1 u.steps k.stands h.stands.3) (λ b z. truth_out b z) (λ b. truth b) (λ c z b. truth-now l src z p b))
      in-says (map es) n h = subst (λ y. Finds y (map es)) (sym h.stands.2) (in-map-end es h.stands.0 h.stands.1 h.stands.3 m (probe_of v) (probe-view L r v m k.stands))
      in-says optional_none n h = subst (λ y. Finds y optional_none) (sym h.stands) (error-now l src st p NoOverload)
      in-says (optional_of w) n h = subst (λ y. Finds y (optional_of w)) (sym h.stands.2) (error-now l src st p NoOverload)

    -- ---- what becomes of a look-up

    pub optionally-says : (x : Outcome) (ρ : Rule Meaning.Value) → Says l src p L u r (x, r) ρ → Says l src p L u r (optionally x r) (Rules2.optionally ρ)
    unfolding Rules2.optionally Rules2.present_or_none
    optionally-says x ρ h =
        then l src st p ρ (x, r) h (λ y. optionally y.0 y.1) Rules2.present_or_none
        (λ M c q b j m v k. present-says l src b p m v k)
        (λ M c q b j e. value-now l src b p Value.OptionalNone optional_none (held_none M q))
        (λ y z q. refl)

    pub tells-says : (x : Outcome) (ρ : Rule Meaning.Value) → Says l src p L u r (x, r) ρ → Says l src p L u r (tells x, r) (Rules2.tells ρ)
    unfolding Rules2.tells Rules2.succeeded
    tells-says x ρ h =
        then l src st p ρ (x, r) h (λ y. (tells y.0, y.1)) Rules2.succeeded
        (λ M c q b j m v k. truth-now l src b p true)
        (λ M c q b j e. truth-now l src b p false)
        (λ y z q. refl)
