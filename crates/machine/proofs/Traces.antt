-- Charges one after the other: what they come to, and what they build. Rests on the definition alone. Assumes nothing.
use Prim.Native.Nat.{ℕ, suc, ◌+◌, max}
use mathlib.Core.Path.{◌≡◌, refl, sym, ap, ◌∙◌, subst, fun_ext}
use mathlib.Core.List.{List, [], ◌∷◌, ◌++◌, append_assoc}
use mathlib.Core.Bool.{Bool, true, false, cond}
use native.Mathlib.Omega.{arith}
use lib.ListN.{take, drop}
use lib.Seq.{take-add, drop-drop}
use Rattle.meaning.specs.Limits.{Counts}
use Rattle.meaning.specs.Errors.{ErrorAt}
use Rattle.meaning.specs.Value as Meaning
use Rattle.meaning.specs.Value.{Values, nil, cons, nesting, nesting_in, count, join}
use Rattle.meaning.specs.Run.{Charge, step, cells, text, nest, Trace, Result, Eval}
use Rattle.meaning.specs.Limited.{charge, fits, limit_of, Spent, through, stopped, onward, make, spend, Outcome, ended, outcome, cells_built, text_built}
use Rattle.rooms.specs.declared.value.CellSpace.{CellSpace}
use Rattle.rooms.specs.Rooms.{Rooms, part}
use Rattle.rooms.specs.Stands.{Alive, Stands, StandsCells}
use Rattle.meaning_laws.specs.Charges.{counts_of}
use Rattle.machine.specs.Refines.{Upto, from}
use Rattle.machine.proofs.Keeping.{upto-same, upto-then}

-- ---- lists of values

pub join-nil : (vs : Values) → join vs nil ≡ vs
unfolding join
join-nil nil = refl
join-nil (cons v vs) = ap (cons v) (join-nil vs)

pub join-assoc : (us vs ws : Values) → join (join us vs) ws ≡ join us (join vs ws)
unfolding join
join-assoc nil vs ws = refl
join-assoc (cons u us) vs ws = ap (cons u) (join-assoc us vs ws)

pub nesting-join : (vs ws : Values) → nesting_in (join vs ws) ≡ max (nesting_in vs) (nesting_in ws)
unfolding join nesting_in
nesting-join nil ws = omega arith
nesting-join (cons v vs) ws = ap (max (nesting v)) (nesting-join vs ws) ∙ assoc (nesting v) (nesting_in vs) (nesting_in ws)
  where
    assoc : (a b c : ℕ) → max a (max b c) ≡ max (max a b) c
    assoc a b c = omega arith

pub stands-join : (L : Alive) (r : Rooms) (vs ws : Values) (space : CellSpace) (a : ℕ) → StandsCells vs L r space a → StandsCells ws L r space (a + count vs) → StandsCells (join vs ws) L r space a
unfolding Stands join count
stands-join L r nil ws space a h k = subst (λ i. StandsCells ws L r space i) (plus-zero a) k
  where
    plus-zero : (a : ℕ) → a + 0 ≡ a
    plus-zero a = omega arith
stands-join L r (cons v vs) ws space a h k = (h.0, h.1, stands-join L r vs ws space (suc a) h.2 (subst (λ i. StandsCells ws L r space i) (shift a (count vs)) k))
  where
    shift : (a n : ℕ) → a + suc n ≡ suc a + n
    shift a n = omega arith

-- ---- what charges come to

onward-assoc : (f g : Counts → Spent) (y : Spent) → onward g (onward f y) ≡ onward (λ c. onward g (f c)) y
unfolding onward
onward-assoc f g (through c) = refl
onward-assoc f g (stopped x c) = refl

pub spend-append : (l : Counts) (t u : Trace) (c : Counts) → spend l (t ++ u) c ≡ onward (λ d. spend l u d) (spend l t c)
unfolding spend onward
spend-append l [] u c = refl
spend-append l (x ∷ t) u c = ap (λ f. onward f (make l c x)) (fun_ext (λ d. spend-append l t u d)) ∙ sym (onward-assoc (λ d. spend l t d) (λ d. spend l u d) (make l c x))

-- a first charge, made or not
abbrev pub paid : Bool → Charge → Counts → (Counts → Outcome) → Outcome
paid true x c k = k (charge c x)
paid false x c k = Outcome.exhausted (limit_of x) c

pub from-charge : (l : Counts) (x : Charge) (e : Eval Meaning.Value) (c : Counts) → from l (x ∷ e.0, e.1) c ≡ paid (fits l (charge c x) x) x c (λ d. from l e d)
unfolding spend onward make outcome
from-charge l x e c = go (fits l (charge c x) x)
  where
    go : (b : Bool) → outcome e.1 (onward (λ d. spend l e.0 d) (cond b (through (charge c x)) (stopped (limit_of x) c))) ≡ paid b x c (λ d. outcome e.1 (spend l e.0 d))
    go true = refl
    go false = refl

-- ---- counts only grow

charge-grows : (c : Counts) (x : Charge) → Upto c (charge c x)
unfolding charge
charge-grows c step = record { cells = omega arith; bytes = omega arith }
charge-grows c (cells vs) = record { cells = omega arith; bytes = omega arith }
charge-grows c (text s) = record { cells = omega arith; bytes = omega arith }
charge-grows c (nest d) = record { cells = omega arith; bytes = omega arith }

abbrev spent_counts : Spent → Counts
spent_counts (through c) = c
spent_counts (stopped x c) = c

spend-grows : (l : Counts) (t : Trace) (c : Counts) → Upto c (spent_counts (spend l t c))
unfolding spend onward make
spend-grows l [] c = upto-same c
spend-grows l (x ∷ t) c = go (fits l (charge c x) x) (spend-grows l t (charge c x))
  where
    go : (b : Bool) → Upto (charge c x) (spent_counts (spend l t (charge c x))) → Upto c (spent_counts (onward (λ d. spend l t d) (cond b (through (charge c x)) (stopped (limit_of x) c))))
    go true h = upto-then c (charge c x) _ (charge-grows c x) h
    go false h = upto-same c

pub from-grows : (l : Counts) (e : Eval Meaning.Value) (c : Counts) → Upto c (counts_of (from l e c))
unfolding outcome ended
from-grows l e c = go e.1 (spend l e.0 c) (spend-grows l e.0 c)
  where
    ends : (r : Result ErrorAt Meaning.Value) (d : Counts) → counts_of (ended r d) ≡ d
    ends (Result.value v) d = refl
    ends (Result.error x) d = refl

    go : (r : Result ErrorAt Meaning.Value) (y : Spent) → Upto c (spent_counts y) → Upto c (counts_of (outcome r y))
    go r (through d) h = subst (λ z. Upto c z) (sym (ends r d)) h
    go r (stopped x d) h = h

-- ---- what charges build

pub cells-append : (t u : Trace) → cells_built (t ++ u) ≡ join (cells_built t) (cells_built u)
unfolding cells_built join
cells-append [] u = refl
cells-append (step ∷ t) u = cells-append t u
cells-append (cells vs ∷ t) u = ap (join vs) (cells-append t u) ∙ sym (join-assoc vs (cells_built t) (cells_built u))
cells-append (text s ∷ t) u = cells-append t u
cells-append (nest d ∷ t) u = cells-append t u

pub text-append : (t u : Trace) → text_built (t ++ u) ≡ text_built t ++ text_built u
unfolding text_built
text-append [] u = refl
text-append (step ∷ t) u = text-append t u
text-append (cells vs ∷ t) u = text-append t u
text-append (text s ∷ t) u = ap (λ x. s ++ x) (text-append t u) ∙ sym (append_assoc s (text_built t) (text_built u))
text-append (nest d ∷ t) u = text-append t u

-- two parts of a list, one behind the other
pub part-add : (l : List ℕ) (a n m : ℕ) → part l a (n + m) ≡ part l a n ++ part l (a + n) m
part-add l a n m = take-add n m (drop a l) ∙ ap (λ x. take n (drop a l) ++ take m x) (drop-drop n a l)

-- a step builds nothing
pub cells-step : (t u : Trace) → cells_built (t ++ u) ≡ cells_built (t ++ (step ∷ u))
unfolding cells_built
cells-step [] u = refl
cells-step (step ∷ t) u = cells-step t u
cells-step (cells vs ∷ t) u = ap (join vs) (cells-step t u)
cells-step (text s ∷ t) u = cells-step t u
cells-step (nest d ∷ t) u = cells-step t u

pub text-step : (t u : Trace) → text_built (t ++ u) ≡ text_built (t ++ (step ∷ u))
unfolding text_built
text-step [] u = refl
text-step (step ∷ t) u = text-step t u
text-step (cells vs ∷ t) u = text-step t u
text-step (text s ∷ t) u = ap (λ x. s ++ x) (text-step t u)
text-step (nest d ∷ t) u = text-step t u
