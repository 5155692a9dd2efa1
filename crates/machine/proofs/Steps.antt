-- Pairs of values are charged a step each, by equality and by the look-up of a key. Rests on Charges and on the crate rooms_comparison.
-- Assumes nothing.
use Prim.Native.Nat.{ℕ, zero, suc, ◌+◌}
use mathlib.Core.Path.{◌≡◌, refl, sym, ap, ◌∙◌, subst}
use mathlib.Core.List.{List, [], ◌∷◌, ◌++◌, append-nil}
use Rattle.std.specs.Prelude.{Option, None, Some}
use mathlib.Core.Bool.{Bool, true, false, cond}
use native.Mathlib.Omega.{arith}
use lib.Dec.{ltb}
use lib.ListN.{replicate}
use Rattle.meaning.specs.Limits.{Counts}
use Rattle.meaning.specs.Value as Meaning
use Rattle.meaning.specs.Run.{step, Trace, Rule, pure, charged, after, on_value, ◌>>=◌, placed}
use Rattle.meaning.specs.Comprehension as Comprehension
use Rattle.meaning.specs.Comparison.{Tally, compared}
use Rattle.meaning.specs.Limited as Limited
use Rattle.meaning.specs.Limited.{spend, outcome, charge, fits}
use Rattle.rooms.specs.declared.value.CellSpace.{CellSpace}
use Rattle.rooms_comparison.specs.declared.pairs.Pairs.{Pairs}
use Rattle.rooms_comparison.specs.declared.lookup.Found.{Found}
use Rattle.rooms.specs.declared.scope.Scope.{Scope}
use Rattle.rooms.specs.Rooms.{Rooms, cell_at}
use Rattle.rooms.specs.Stands.{Alive, Stands}
use Rattle.rooms_comparison.specs.LookUp.{pair_found}
use Rattle.rooms_comparison.specs.Equality.{pays, pays_found, pair, decided, paid}
use Rattle.rooms_comparison.specs.Finds.{FoundIs, Finds}
use Rattle.machine.specs.declared.outcome.Used.{Used}
use Rattle.machine.specs.declared.outcome.Limit.TheVariants as Limit
use Rattle.machine.specs.declared.outcome.Outcome.{Outcome}
use Rattle.machine.specs.Outcomes.{Res}
use Rattle.machine.specs.Comparison.{on_pairs}
use Rattle.machine.specs.Refines.{used_of, Keeps, Matches, Start}
use Rattle.machine.proofs.Keeping.{keeps_same}
use Rattle.machine.proofs.Traces.{from-charge, cells-step, text-step}
use Rattle.machine.proofs.Traces as Traces
use Rattle.machine.proofs.Match.{Says}
use Rattle.machine.proofs.Charges.{walked, relog, relow, start-walked}

-- n charges of a step, where nothing else is done
abbrev pub pay_in : {X : Type 0} → (ℕ → X) → (limit k n : ℕ) → (ℕ → X) → X
pay_in out limit k zero f = f k
pay_in out limit k (suc n) f = cond (ltb k limit) (pay_in out limit (suc k) n f) (out k)

pays_in : (limit k n : ℕ) (f : ℕ → Pairs) → pays limit k n f ≡ pay_in (λ j. Pairs.Out j) limit k n f
pays_in limit k zero f = refl
pays_in limit k (suc n) f = ap (pair (ltb k limit) k) (pays_in limit (suc k) n f) ∙ go (ltb k limit)
  where
    go : (b : Bool) → pair b k (pay_in (λ j. Pairs.Out j) limit (suc k) n f) ≡ cond b (pay_in (λ j. Pairs.Out j) limit (suc k) n f) (Pairs.Out k)
    go true = refl
    go false = refl

pub found_in : (limit k n : ℕ) (f : ℕ → Found) → pays_found limit k n f ≡ pay_in (λ j. Found.Out j) limit k n f
found_in limit k zero f = refl
found_in limit k (suc n) f = ap (pair_found (ltb k limit) k) (found_in limit (suc k) n f) ∙ go (ltb k limit)
  where
    go : (b : Bool) → pair_found b k (pay_in (λ j. Found.Out j) limit (suc k) n f) ≡ cond b (pay_in (λ j. Found.Out j) limit (suc k) n f) (Found.Out k)
    go true = refl
    go false = refl

-- pairs compared, then a rule
compared_is : {A : Type 0} (t : Tally A) (k : A → Rule Meaning.Value) → ◌≡◌ {A = Rule Meaning.Value} (◌>>=◌ (compared t) k) (replicate t.0 step ++ (k t.1).0, (k t.1).1)
unfolding ◌>>=◌ compared after on_value charged pure
compared_is t k = ap (λ x. (x ++ (k t.1).0, (k t.1).1)) (append-nil (replicate t.0 step))

-- n steps, seen from counts lo and after what `before` built; G goes on from what the pairs come to
module _ (l : Counts) {X : Type 0} (out : ℕ → X) (G : X → Res) (L : Alive) (lo u : Counts) (r : Rooms) (p : ℕ) (ends : (k : ℕ) → G (out k) ≡ (Outcome.Exhausted Limit.Steps (used_of (walked u k)), r)) (kept : (k : ℕ) → Keeps lo (walked u k) r r) (before : Trace) (f : ℕ → X) (ρ : Rule Meaning.Value) where
  -- from k steps on
  abbrev After : ℕ → ℕ → Type 0
  After k n = Matches L lo r (G (pay_in out l.steps k n f)) (outcome (placed p ρ.1) (spend l (replicate n step ++ ρ.0) (walked u k))) (before ++ (replicate n step ++ ρ.0))

  one-step : (k n : ℕ) → After (suc k) n → After k (suc n)
  unfolding charge fits Limited.limit_of
  one-step k n h = subst (λ end. Matches L lo r (G (pay_in out l.steps k (suc n) f)) end (before ++ (step ∷ (replicate n step ++ ρ.0)))) (sym (from-charge l step (replicate n step ++ ρ.0, placed p ρ.1) (walked u k))) (go (ltb k l.steps))
    where
      rest : X
      rest = pay_in out l.steps (suc k) n f

      go : (b : Bool) → Matches L lo r (G (cond b rest (out k))) (Traces.paid b step (walked u k) (λ d. outcome (placed p ρ.1) (spend l (replicate n step ++ ρ.0) d))) (before ++ (step ∷ (replicate n step ++ ρ.0)))
      go true = relog L lo r (G rest) (outcome (placed p ρ.1) (spend l (replicate n step ++ ρ.0) (walked u (suc k)))) (before ++ (replicate n step ++ ρ.0)) (before ++ (step ∷ (replicate n step ++ ρ.0))) (cells-step before (replicate n step ++ ρ.0)) (text-step before (replicate n step ++ ρ.0)) h
      go false = subst (λ x. Matches L lo r x (Limited.exhausted (Limited.limit_of step) (walked u k)) (before ++ (step ∷ (replicate n step ++ ρ.0)))) (sym (ends k)) (record { good = refl; keeps = kept k })

  pub steps_then : (n k : ℕ) → Matches L lo r (G (f (k + n))) (outcome (placed p ρ.1) (spend l ρ.0 (walked u (k + n)))) (before ++ ρ.0) → After k n
  steps_then zero k g = subst (λ j. Matches L lo r (G (f j)) (outcome (placed p ρ.1) (spend l ρ.0 (walked u j))) (before ++ ρ.0)) (plus-zero k) g
    where
      plus-zero : (a : ℕ) → a + 0 ≡ a
      plus-zero a = omega arith
  steps_then (suc n) k g = one-step k n (steps_then n (suc k) (subst (λ j. Matches L lo r (G (f j)) (outcome (placed p ρ.1) (spend l ρ.0 (walked u j))) (before ++ ρ.0)) (shift k n) g))
    where
      shift : (a b : ℕ) → a + suc b ≡ suc a + b
      shift a b = omega arith

module _ (l : Counts) (src : List ℕ) where
  -- nothing but steps since the start
  same-rooms : {L : Alive} {u : Counts} {r : Rooms} {s : Scope} {t : Comprehension.Scope} → Start l src L u r s t → (k : ℕ) → Keeps u (walked u k) r r
  same-rooms {L} {u} {r} a k = keeps_same u (walked u k) r (record { cells = omega arith; bytes = omega arith }) (record { cells = a.roomy.cells; bytes = a.roomy.bytes })

  -- two values are compared, or one is looked for in a list
  pub pairs-then : {L : Alive} {u : Counts} {r : Rooms} {s : Scope} {t : Comprehension.Scope} → Start l src L u r s t → (p : ℕ) (n : Tally Bool) (x : Pairs) → x ≡ paid l.steps u.steps n → (f : Bool → Used → Outcome) (k : Bool → Rule Meaning.Value)
      → ((c : Counts) → Start l src L c r s t → (b : Bool) → Says l src p L c r (f b (used_of c), r) (k b))
      → Says l src p L u r (on_pairs x (used_of u) f, r) (◌>>=◌ (compared n) k)
  unfolding paid
  pairs-then {L} {u} {r} {s} {t} a p n x e f k g =
      subst (λ ρ. Says l src p L u r (on_pairs x (used_of u) f, r) ρ) (sym (compared_is n k))
      (subst (λ y. Matches L u r (on_pairs y (used_of u) f, r) (outcome (placed p (k n.1).1) (spend l (replicate n.0 step ++ (k n.1).0) u)) (replicate n.0 step ++ (k n.1).0)) (sym (e ∙ pays_in l.steps u.steps n.0 (decided n.1)))
      (steps_then l (λ j. Pairs.Out j) (λ y. (on_pairs y (used_of u) f, r)) L u u r p (λ j. refl) (same-rooms a) [] (decided n.1) (k n.1) n.0 u.steps (relow L c u r _ _ _ refl refl (end n.1 (start-walked l src a (u.steps + n.0))))))
    where
      c : Counts
      c = walked u (u.steps + n.0)

      end : (b : Bool) → Start l src L c r s t → Says l src p L c r (on_pairs (decided b (u.steps + n.0)) (used_of u) f, r) (k b)
      end true z = g c z true
      end false z = g c z false

  -- a key is looked up
  pub found-then : {L : Alive} {u : Counts} {r : Rooms} {s : Scope} {t : Comprehension.Scope} → Start l src L u r s t → (p : ℕ) (space : CellSpace) (n : Tally (Option Meaning.Value)) (x : Found) → Finds L r space l.steps u.steps n x
      → (G : Found → Res) (k : Option Meaning.Value → Rule Meaning.Value)
      → ((j : ℕ) → G (Found.Out j) ≡ (Outcome.Exhausted Limit.Steps (used_of (walked u j)), r))
      → ((j : ℕ) → Start l src L (walked u j) r s t → Says l src p L (walked u j) r (G (Found.Missing j)) (k None))
      → ((j : ℕ) → Start l src L (walked u j) r s t → (v : Meaning.Value) → n.1 ≡ Some v → (c : ℕ) → L.cells space c → Stands v L r (cell_at r space c) → Says l src p L (walked u j) r (G (Found.At c j)) (k (Some v)))
      → Says l src p L u r (G x) (◌>>=◌ (compared n) k)
  found-then {L} {u} {r} {s} {t} a p space n x h G k ends missing at =
      subst (λ ρ. Says l src p L u r (G x) ρ) (sym (compared_is n k))
      (subst (λ y. Matches L u r (G y) (outcome (placed p (k n.1).1) (spend l (replicate n.0 step ++ (k n.1).0) u)) (replicate n.0 step ++ (k n.1).0)) (sym (h.2 ∙ found_in l.steps u.steps n.0 h.0))
      (steps_then l (λ j. Found.Out j) G L u u r p ends (same-rooms a) [] h.0 (k n.1) n.0 u.steps (relow L (walked u j) u r _ _ _ refl refl (end n.1 refl h.1 (start-walked l src a j)))))
    where
      j : ℕ
      j = u.steps + n.0

      end : (o : Option Meaning.Value) → n.1 ≡ o → FoundIs L r space o h.0 → Start l src L (walked u j) r s t → Says l src p L (walked u j) r (G (h.0 j)) (k o)
      end None e i z = subst (λ (f : ℕ → Found). Says l src p L (walked u j) r (G (f j)) (k None)) (sym i) (missing j z)
      end (Some v) e i z = subst (λ (f : ℕ → Found). Says l src p L (walked u j) r (G (f j)) (k (Some v))) (sym i.1) (at j z v e i.0 i.2 i.3)
