-- When a run is exhausted, and with which counts; when it gives its value or its error; and that more room changes neither.
-- Rests on Spending. Assumes nothing.
use Prim.Native.Nat.{ℕ}
use mathlib.Core.Path.{◌≡◌, refl, sym, ◌∙◌, ap, subst}
use mathlib.Core.Logic.{◌↔◌, ◌⊎◌, inl, inr}
use mathlib.Core.List.{[], ◌∷◌, ◌++◌}
use mathlib.Core.Bool.{Bool, true, false}
use native.Mathlib.Omega.{arith}
use Rattle.meaning.specs.Limits.{Counts, nothing_yet}
use Rattle.meaning.specs.Errors.{ErrorAt, Exhausted}
use Rattle.meaning.specs.Value.{Value}
use Rattle.meaning.specs.Run.{Charge, Trace, Result, Eval}
use Rattle.meaning.specs.Limited.{charge, fits, limit_of, Spent, through, stopped, spend, Outcome, value, error, exhausted, ended, outcome, limited}
use Rattle.meaning_laws.specs.Charges.{total, AtMost, Within, Stops, counts_of}
use Rattle.meaning_laws.proofs.Spending.{unfit-passes, InOrder, made_from, spend-fits, spend-stops, Spends, all, up_to, spends, made-total, within-in-order}

-- ---- the charges of a trace

spend-within : (limits : Counts) (t : Trace) → Within limits t → spend limits t nothing_yet ≡ through (total t)
spend-within limits t w = spend-fits limits nothing_yet t ((within-in-order limits t).0 w) ∙ ap through (made-total t)

-- a stop, told by charges made one after the other
made-to : {limits : Counts} {t : Trace} {x : Exhausted} {c : Counts} (s : Stops limits t x c) → made_from nothing_yet s.made ≡ c
made-to s = made-total s.made ∙ s.counted

stop-order : {limits : Counts} {t : Trace} {x : Exhausted} {c : Counts} (s : Stops limits t x c) → InOrder limits nothing_yet s.made
stop-order {limits} s = (within-in-order limits s.made).0 s.within

stop-unfit : {limits : Counts} {t : Trace} {x : Exhausted} {c : Counts} (s : Stops limits t x c) →
    fits limits (charge (made_from nothing_yet s.made) s.next) s.next ≡ false
stop-unfit {limits} {c = c} s = ap (λ z. fits limits (charge z s.next) s.next) (made-to s) ∙ (unfit-passes limits c s.next).1 s.passes

spend-stopped : (limits : Counts) (t : Trace) (x : Exhausted) (c : Counts) → Stops limits t x c → spend limits t nothing_yet ≡ stopped x c
spend-stopped limits t x c s =
    ap (λ u. spend limits u nothing_yet) s.whole ∙ spend-stops limits nothing_yet s.made s.next s.rest (stop-order s) (stop-unfit s) ∙
    (λ i. stopped (s.limit i) (made-to s i))

-- all charges of a trace fit, or one of them is the first that does not
abbrev pub Fate : Counts → Trace → Type 0
Fate limits t = Within limits t ⊎ ((x : Exhausted) × (c : Counts) × Stops limits t x c)

pub fate : (limits : Counts) (t : Trace) → Fate limits t
fate limits t = go (spends limits nothing_yet t)
  where
    go : Spends limits nothing_yet t → Fate limits t
    go (all h) = inl ((within-in-order limits t).1 h)
    go (up_to made next rest w h f) =
        inr (
          limit_of next,
          total made,
          record {
            made = made;
            next = next;
            rest = rest;
            whole = w;
            within = (within-in-order limits made).1 h;
            counted = refl;
            passes = (unfit-passes limits (total made) next).0 (ap (λ z. fits limits (charge z next) next) (sym (made-total made)) ∙ f);
            limit = refl;
          },
        )

-- Charges are all made, and reach the counts c, exactly if they all fit and add up to c.
pub through-exactly : (limits : Counts) (t : Trace) (c : Counts) → (spend limits t nothing_yet ≡ through c) ↔ (Within limits t × (total t ≡ c))
through-exactly limits t c = (λ e. go e (fate limits t), λ h. spend-within limits t h.0 ∙ ap through h.1)
  where
    go : spend limits t nothing_yet ≡ through c → Fate limits t → Within limits t × (total t ≡ c)
    go e (inl w) = let q = spend-within limits t w in (w, cc)
    go e (inr s) = absurd (let q = spend-stopped limits t s.0 s.1 s.2 in let z : ◌≡◌ {A = ℕ} 0 1 = cc in omega arith)

-- They stop, at limit x with counts c, exactly if some first ones all fit and add up to c, and the next one would pass x.
pub stopped-exactly : (limits : Counts) (t : Trace) (x : Exhausted) (c : Counts) → (spend limits t nothing_yet ≡ stopped x c) ↔ Stops limits t x c
stopped-exactly limits t x c = (λ e. go e (fate limits t), spend-stopped limits t x c)
  where
    go : spend limits t nothing_yet ≡ stopped x c → Fate limits t → Stops limits t x c
    go e (inl w) = absurd (let q = spend-within limits t w in let z : ◌≡◌ {A = ℕ} 0 1 = cc in omega arith)
    go e (inr s) =
        let q : stopped s.0 s.1 ≡ stopped x c = sym (spend-stopped limits t s.0 s.1 s.2) ∙ e in
        let p : s.0 ≡ x = cc in
        let d : s.1 ≡ c = cc in
        subst (λ z. Stops limits t x z) d (subst (λ z. Stops limits t z s.1) p s.2)

-- ---- exactly when

ended-exhausted : (r : Result ErrorAt Value) (c d : Counts) (x : Exhausted) → ended r c ≡ exhausted x d → ⊥
unfolding ended
ended-exhausted (Result.value v) c d x e = let z : ◌≡◌ {A = ℕ} 0 1 = cc in omega arith
ended-exhausted (Result.error v) c d x e = let z : ◌≡◌ {A = ℕ} 0 1 = cc in omega arith

ended_same : (x y : Result ErrorAt Value) (c d : Counts) → ended x c ≡ ended y d → (x ≡ y) × (c ≡ d)
unfolding ended
ended_same (Result.value v) (Result.value w) c d e = (cc, cc)
ended_same (Result.value v) (Result.error w) c d e = absurd (let z : ◌≡◌ {A = ℕ} 0 1 = cc in omega arith)
ended_same (Result.error v) (Result.value w) c d e = absurd (let z : ◌≡◌ {A = ℕ} 0 1 = cc in omega arith)
ended_same (Result.error v) (Result.error w) c d e = (cc, cc)

outcome-exhausted : (r : Result ErrorAt Value) (y : Spent) (x : Exhausted) (c : Counts) → outcome r y ≡ exhausted x c → y ≡ stopped x c
unfolding outcome
outcome-exhausted r (through d) x c e = absurd (ended-exhausted r d c x e)
outcome-exhausted r (stopped w d) x c e = cc

outcome-ended : (r : Result ErrorAt Value) (y : Spent) (x : Result ErrorAt Value) (c : Counts) → outcome r y ≡ ended x c → (r ≡ x) × (y ≡ through c)
unfolding outcome
outcome-ended r (through d) x c e = let f = ended_same r x d c e in (f.0, ap through f.1)
outcome-ended r (stopped w d) x c e = absurd (ended-exhausted x c d w (sym e))

-- A run is exhausted, of limit x with counts c, exactly if some first charges all fit and add up to c, and the next one would pass x.
pub exhausted-exactly : (limits : Counts) (r : Eval Value) (x : Exhausted) (c : Counts) → (limited limits r ≡ exhausted x c) ↔ Stops limits r.0 x c
unfolding limited outcome
exhausted-exactly limits r x c =
    let s = stopped-exactly limits r.0 x c in
    (λ e. s.0 (outcome-exhausted r.1 (spend limits r.0 nothing_yet) x c e), λ h. ap (outcome r.1) (s.1 h))

-- A run ends with its own result, its value or its error, exactly if all its charges fit; the counts are their total.
pub ended-exactly : (limits : Counts) (r : Eval Value) (x : Result ErrorAt Value) (c : Counts) →
    (limited limits r ≡ ended x c) ↔ ((r.1 ≡ x) × Within limits r.0 × (total r.0 ≡ c))
unfolding limited outcome
ended-exactly limits r x c = (forth, λ h. ap (outcome r.1) (s.1 (h.1, h.2)) ∙ ap (λ y. ended y c) h.0)
  where
    s : (spend limits r.0 nothing_yet ≡ through c) ↔ (Within limits r.0 × (total r.0 ≡ c))
    s = through-exactly limits r.0 c

    forth : limited limits r ≡ ended x c → (r.1 ≡ x) × Within limits r.0 × (total r.0 ≡ c)
    forth e = let f = outcome-ended r.1 (spend limits r.0 nothing_yet) x c e in let g = s.0 f.1 in (f.0, g.0, g.1)

-- So it is for a value ..
pub value-exactly : (limits : Counts) (r : Eval Value) (v : Value) (c : Counts) →
    (limited limits r ≡ value v c) ↔ ((r.1 ≡ Result.value v) × Within limits r.0 × (total r.0 ≡ c))
unfolding ended
value-exactly limits r v c = ended-exactly limits r (Result.value v) c

-- .. and for an error.
pub error-exactly : (limits : Counts) (r : Eval Value) (e : ErrorAt) (c : Counts) →
    (limited limits r ≡ error e c) ↔ ((r.1 ≡ Result.error e) × Within limits r.0 × (total r.0 ≡ c))
unfolding ended
error-exactly limits r e c = ended-exactly limits r (Result.error e) c

-- ---- only one charge can be the one

clash : {b : Bool} → b ≡ true → b ≡ false → ⊥
clash p q = let z : ◌≡◌ {A = ℕ} 0 1 = cc in omega arith

first-only : (limits c : Counts) (m n : Trace) (x y : Charge) (t u : Trace) → InOrder limits c m → fits limits (charge (made_from c m) x) x ≡ false →
    InOrder limits c n → fits limits (charge (made_from c n) y) y ≡ false → m ++ x ∷ t ≡ n ++ y ∷ u → (m ≡ n) × (x ≡ y) × (t ≡ u)
unfolding made_from
first-only limits c [] [] x y t u h f i g e = (refl, cc, cc)
first-only limits c [] (z ∷ n) x y t u h f i g e = let p : x ≡ z = cc in absurd (clash (ap (λ w. fits limits (charge c w) w) p ∙ i.0) f)
first-only limits c (z ∷ m) [] x y t u h f i g e = let p : y ≡ z = cc in absurd (clash (ap (λ w. fits limits (charge c w) w) p ∙ h.0) g)
first-only limits c (z ∷ m) (w ∷ n) x y t u h f i g e =
    let p : w ≡ z = cc in
    let q : m ++ x ∷ t ≡ n ++ y ∷ u = cc in
    let i' : InOrder limits (charge c z) n = subst (λ v. InOrder limits (charge c v) n) p i.1 in
    let g' : fits limits (charge (made_from (charge c z) n) y) y ≡ false = ap (λ v. fits limits (charge (made_from (charge c v) n) y) y) (sym p) ∙ g in
    let r = first-only limits (charge c z) m n x y t u h.1 f i' g' q in
    (λ k. sym p k ∷ r.0 k, r.1, r.2)

-- The charges made, the one that did not fit and those behind it are the same however a stop is told, and so are limit and counts.
pub stops-once : (limits : Counts) (t : Trace) (x y : Exhausted) (c d : Counts) (p : Stops limits t x c) (q : Stops limits t y d) →
    (p.made ≡ q.made) × (p.next ≡ q.next) × (p.rest ≡ q.rest) × (x ≡ y) × (c ≡ d)
stops-once limits t x y c d p q =
    let order = first-only limits nothing_yet p.made q.made p.next q.next p.rest q.rest in
    let same = order (stop-order p) (stop-unfit p) (stop-order q) (stop-unfit q) (sym p.whole ∙ q.whole) in
    (same.0, same.1, same.2, sym p.limit ∙ ap limit_of same.1 ∙ q.limit, sym p.counted ∙ ap total same.0 ∙ q.counted)

-- ---- the counts of an answer

-- Counts never pass the limits, whatever the answer is.
pub counts-at-most : (limits : Counts) (r : Eval Value) → AtMost (counts_of (limited limits r)) limits
counts-at-most limits r = go (limited limits r) refl
  where
    go : (o : Outcome) → limited limits r ≡ o → AtMost (counts_of o) limits
    go (value v c) e = let f = (value-exactly limits r v c).0 e in subst (λ d. AtMost d limits) f.2 f.1.counts
    go (error v c) e = let f = (error-exactly limits r v c).0 e in subst (λ d. AtMost d limits) f.2 f.1.counts
    go (exhausted x c) e = let f = (exhausted-exactly limits r x c).0 e in subst (λ d. AtMost d limits) f.counted f.within.counts

-- ---- more room

within-larger : (limits larger : Counts) → AtMost limits larger → (t : Trace) → Within limits t → Within larger t
within-larger limits larger h t w = record { counts = omega arith; nests = w.nests }

-- A run that gives a value or an error under some limits gives the same, with the same counts, under all larger ones.
pub more_room : (limits larger : Counts) → AtMost limits larger → (r : Eval Value) (x : Result ErrorAt Value) (c : Counts) →
    limited limits r ≡ ended x c → limited larger r ≡ ended x c
more_room limits larger h r x c e =
    let f = (ended-exactly limits r x c).0 e in
    (ended-exactly larger r x c).1 (f.0, within-larger limits larger h r.0 f.1, f.2)

-- So it is for a value ..
pub more-room-value : (limits larger : Counts) → AtMost limits larger → (r : Eval Value) (v : Value) (c : Counts) → limited limits r ≡ value v c →
    limited larger r ≡ value v c
unfolding ended
more-room-value limits larger h r v c e = more_room limits larger h r (Result.value v) c e

-- .. and for an error.
pub more-room-error : (limits larger : Counts) → AtMost limits larger → (r : Eval Value) (e : ErrorAt) (c : Counts) → limited limits r ≡ error e c →
    limited larger r ≡ error e c
unfolding ended
more-room-error limits larger h r e c q = more_room limits larger h r (Result.error e) c q
