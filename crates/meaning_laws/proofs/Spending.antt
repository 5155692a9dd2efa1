-- Charges made one after the other under limits: which traces go through, and what stands where one stops.
-- Rests on the definition's `fits`, `make` and `spend`. Assumes nothing.
use Prim.Native.Nat.{ℕ, suc, ◌+◌, ◌≤◌, ◌<◌}
use mathlib.Core.Path.{◌≡◌, refl, sym, ◌∙◌, ap, subst, fun_ext}
use mathlib.Core.Logic.{◌↔◌}
use mathlib.Core.List.{[], ◌∷◌, ◌++◌}
use mathlib.Core.Bool.{Bool, true, false, cond, not}
use native.Mathlib.Omega.{arith}
use lib.ListN.{length}
use lib.Dec.{T, leb, leb→le, le→leb, nleb→lt}
use Rattle.meaning.specs.Limits.{Counts, deepest_value, nothing_yet}
use Rattle.meaning.specs.Value.{count}
use Rattle.meaning.specs.Run.{Charge, step, cells, text, nest, Trace}
use Rattle.meaning.specs.Limited.{charge, fits, limit_of, Spent, through, stopped, onward, make, spend}
use Rattle.meaning_laws.specs.Charges.{steps_in, cells_in, bytes_in, total, AtMost, Shallow, Within, Room, Passes}

-- ---- one charge

leb-le : (a b : ℕ) → leb a b ≡ true → a ≤ b
leb-le a b e = leb→le a b (subst T (sym e) tt)

le-leb : (a b : ℕ) → a ≤ b → leb a b ≡ true
le-leb a b h = go (leb a b) (le→leb a b h)
  where
    go : (c : Bool) → T c → c ≡ true
    go true k = refl
    go false k = absurd k

one_more : (n l : ℕ) → (suc n ≤ l) ↔ (n + 1 ≤ l)
one_more n l = (λ h. omega arith, λ h. omega arith)

one-above : (n l : ℕ) → (l < suc n) ↔ (l < n + 1)
one-above n l = (λ h. omega arith, λ h. omega arith)

-- A charge fits exactly if there is room for it: for one step more, for the charge's cells or bytes, or under the nesting limit.
pub fits-room : (limits c : Counts) (x : Charge) → (fits limits (charge c x) x ≡ true) ↔ Room limits c x
unfolding fits charge
fits-room limits c step = (
  λ e. (one_more c.steps limits.steps).0 (leb-le (suc c.steps) limits.steps e),
  λ h. le-leb (suc c.steps) limits.steps ((one_more c.steps limits.steps).1 h),
)
fits-room limits c (cells vs) = (leb-le (c.cells + count vs) limits.cells, le-leb (c.cells + count vs) limits.cells)
fits-room limits c (text s) = (leb-le (c.bytes + length s) limits.bytes, le-leb (c.bytes + length s) limits.bytes)
fits-room limits c (nest d) = (leb-le d deepest_value, le-leb d deepest_value)

lt-leb : (a b : ℕ) → b < a → leb a b ≡ false
lt-leb a b h = go (leb a b) refl
  where
    go : (c : Bool) → leb a b ≡ c → c ≡ false
    go true e = absurd (let k = leb-le a b e in omega arith)
    go false e = refl

leb-lt : (a b : ℕ) → leb a b ≡ false → b < a
leb-lt a b e = nleb→lt a b (subst (λ c. T (not c)) (sym e) tt)

-- A charge does not fit exactly if it would pass its limit.
pub unfit-passes : (limits c : Counts) (x : Charge) → (fits limits (charge c x) x ≡ false) ↔ Passes limits c x
unfolding fits charge
unfit-passes limits c step = (
  λ e. (one-above c.steps limits.steps).0 (leb-lt (suc c.steps) limits.steps e),
  λ h. lt-leb (suc c.steps) limits.steps ((one-above c.steps limits.steps).1 h),
)
unfit-passes limits c (cells vs) = (leb-lt (c.cells + count vs) limits.cells, lt-leb (c.cells + count vs) limits.cells)
unfit-passes limits c (text s) = (leb-lt (c.bytes + length s) limits.bytes, lt-leb (c.bytes + length s) limits.bytes)
unfit-passes limits c (nest d) = (leb-lt d deepest_value, lt-leb d deepest_value)

-- ---- charges in order

-- each charge of the trace fits when its turn comes, from the counts c
abbrev pub InOrder : Counts → Counts → Trace → Type 0
InOrder limits c [] = Unit {0}
InOrder limits c (x ∷ t) = (fits limits (charge c x) x ≡ true) × InOrder limits (charge c x) t

-- the counts after all of them
unfoldable pub made_from : Counts → Trace → Counts
made_from c [] = c
made_from c (x ∷ t) = made_from (charge c x) t

make-fits : (limits c : Counts) (x : Charge) → fits limits (charge c x) x ≡ true → make limits c x ≡ through (charge c x)
unfolding make
make-fits limits c x e = ap (λ b. cond b (through (charge c x)) (stopped (limit_of x) c)) e

make-unfit : (limits c : Counts) (x : Charge) → fits limits (charge c x) x ≡ false → make limits c x ≡ stopped (limit_of x) c
unfolding make
make-unfit limits c x e = ap (λ b. cond b (through (charge c x)) (stopped (limit_of x) c)) e

pub spend-fits : (limits c : Counts) (t : Trace) → InOrder limits c t → spend limits t c ≡ through (made_from c t)
unfolding spend onward made_from
spend-fits limits c [] h = refl
spend-fits limits c (x ∷ t) h = ap (onward (λ d. spend limits t d)) (make-fits limits c x h.0) ∙ spend-fits limits (charge c x) t h.1

pub spend-stops : (limits c : Counts) (t : Trace) (x : Charge) (u : Trace) → InOrder limits c t → fits limits (charge (made_from c t) x) x ≡ false →
    spend limits (t ++ x ∷ u) c ≡ stopped (limit_of x) (made_from c t)
unfolding spend onward made_from
spend-stops limits c [] x u h e = ap (onward (λ d. spend limits u d)) (make-unfit limits c x e)
spend-stops limits c (y ∷ t) x u h e =
    ap (onward (λ d. spend limits (t ++ x ∷ u) d)) (make-fits limits c y h.0) ∙ spend-stops limits (charge c y) t x u h.1 e

-- a trace goes through, or stops at one of its charges
pub data Spends (limits c : Counts) (t : Trace) : Type 0 where
  all : InOrder limits c t → Spends limits c t
  up_to : (made : Trace) (next : Charge) (rest : Trace) → t ≡ made ++ next ∷ rest → InOrder limits c made →
      fits limits (charge (made_from c made) next) next ≡ false → Spends limits c t

further : (limits c : Counts) (x : Charge) (t : Trace) → fits limits (charge c x) x ≡ true → Spends limits (charge c x) t → Spends limits c (x ∷ t)
unfolding made_from
further limits c x t e (all h) = all (e, h)
further limits c x t e (up_to made next rest w h f) = up_to (x ∷ made) next rest (ap (x ∷◌) w) (e, h) f

pub spends : (limits c : Counts) (t : Trace) → Spends limits c t
unfolding made_from
spends limits c [] = all tt
spends limits c (x ∷ t) = go (fits limits (charge c x) x) refl (spends limits (charge c x) t)
  where
    go : (b : Bool) → fits limits (charge c x) x ≡ b → Spends limits (charge c x) t → Spends limits c (x ∷ t)
    go true e s = further limits c x t e s
    go false e s = up_to [] x t refl tt e

-- ---- made one after the other, or added up: the same

three : {a b : ℕ} {c d : ℕ} {e f : ℕ} → a ≡ b → c ≡ d → e ≡ f →
    ◌≡◌ {A = Counts} (record { steps = a; cells = c; bytes = e }) (record { steps = b; cells = d; bytes = f })
three p q r = λ i. record { steps = p i; cells = q i; bytes = r i }

abbrev plus : Counts → Counts → Counts
plus c d = record { steps = c.steps + d.steps; cells = c.cells + d.cells; bytes = c.bytes + d.bytes }

made-plus : (c : Counts) (t : Trace) → made_from c t ≡ plus c (total t)
unfolding made_from charge steps_in cells_in bytes_in
made-plus c [] = three (omega arith) (omega arith) (omega arith)
made-plus c (step ∷ t) = made-plus (charge c step) t ∙ three (omega arith) refl refl
made-plus c (cells vs ∷ t) = made-plus (charge c (cells vs)) t ∙ three refl (omega arith) refl
made-plus c (text s ∷ t) = made-plus (charge c (text s)) t ∙ three refl refl (omega arith)
made-plus c (nest d ∷ t) = made-plus (charge c (nest d)) t

pub made-total : (t : Trace) → made_from nothing_yet t ≡ total t
made-total t = made-plus nothing_yet t ∙ three (omega arith) (omega arith) (omega arith)

in_order : (limits c : Counts) (t : Trace) → AtMost (plus c (total t)) limits → Shallow t → InOrder limits c t
unfolding charge steps_in cells_in bytes_in
in_order limits c [] h n = tt
in_order limits c (step ∷ t) h n = ((fits-room limits c step).1 (omega arith), in_order limits (charge c step) t (omega arith) n)
in_order limits c (cells vs ∷ t) h n = ((fits-room limits c (cells vs)).1 (omega arith), in_order limits (charge c (cells vs)) t (omega arith) n)
in_order limits c (text s ∷ t) h n = ((fits-room limits c (text s)).1 (omega arith), in_order limits (charge c (text s)) t (omega arith) n)
in_order limits c (nest d ∷ t) h n = ((fits-room limits c (nest d)).1 n.0, in_order limits c t h n.1)

at-most-made : (limits c : Counts) (t : Trace) → AtMost c limits → InOrder limits c t → AtMost (made_from c t) limits × Shallow t
unfolding made_from charge
at-most-made limits c [] h f = (h, tt)
at-most-made limits c (step ∷ t) h f = at-most-made limits (charge c step) t (let r = (fits-room limits c step).0 f.0 in omega arith) f.1
at-most-made limits c (cells vs ∷ t) h f =
    at-most-made limits (charge c (cells vs)) t (let r = (fits-room limits c (cells vs)).0 f.0 in omega arith) f.1
at-most-made limits c (text s ∷ t) h f =
    at-most-made limits (charge c (text s)) t (let r = (fits-room limits c (text s)).0 f.0 in omega arith) f.1
at-most-made limits c (nest d ∷ t) h f = let g = at-most-made limits c t h f.1 in (g.0, ((fits-room limits c (nest d)).0 f.0, g.1))

-- All charges of a trace fit exactly if each of them fits when its turn comes.
pub within-in-order : (limits : Counts) (t : Trace) → Within limits t ↔ InOrder limits nothing_yet t
within-in-order limits t = (
  λ w. in_order limits nothing_yet t (subst (λ c. AtMost c limits) (sym (sym (made-plus nothing_yet t) ∙ made-total t)) w.counts) w.nests,
  back,
)
  where
    start : AtMost nothing_yet limits
    start = omega arith

    back : InOrder limits nothing_yet t → Within limits t
    back f = let g = at-most-made limits nothing_yet t start f in record { counts = subst (λ c. AtMost c limits) (made-total t) g.0; nests = g.1 }

-- ---- a trace in two parts

made-prefix : (limits c : Counts) (t u : Trace) → InOrder limits c (t ++ u) → InOrder limits c t
made-prefix limits c [] u h = tt
made-prefix limits c (x ∷ t) u h = (h.0, made-prefix limits (charge c x) t u h.1)

-- If all charges of a trace fit, then so do those of every trace that it begins with.
pub within-prefix : (limits : Counts) (t u : Trace) → Within limits (t ++ u) → Within limits t
within-prefix limits t u w = (within-in-order limits t).1 (made-prefix limits nothing_yet t u ((within-in-order limits (t ++ u)).0 w))

onward-twice : (f g : Counts → Spent) (y : Spent) → onward (λ c. onward g (f c)) y ≡ onward g (onward f y)
unfolding onward
onward-twice f g (through c) = refl
onward-twice f g (stopped x c) = refl

-- Charges in two parts are made part by part.
pub spend-append : (limits : Counts) (t u : Trace) (c : Counts) → spend limits (t ++ u) c ≡ onward (λ d. spend limits u d) (spend limits t c)
unfolding spend onward
spend-append limits [] u c = refl
spend-append limits (x ∷ t) u c =
    ap (λ f. onward f (make limits c x)) (fun_ext (λ d. spend-append limits t u d)) ∙
    onward-twice (λ d. spend limits t d) (λ d. spend limits u d) (make limits c x)
