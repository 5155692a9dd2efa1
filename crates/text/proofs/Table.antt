-- What the shape of the table gives, found by one computation over it: its rows rise, so at most one begins with a byte,
-- and of a sequence's bytes the first alone does not continue a code point.
use mathlib.Core.Path.{◌≡◌, refl, ap}
use mathlib.Core.Logic.{inl, inr}
use mathlib.Core.Bool.{Bool, true, false, cond, ◌&&◌, ◌||◌, and-eq-true_iff, false≢true}
use mathlib.Core.List.{List, [], ◌∷◌, ◌++◌, tail, nil≢cons}
use Rattle.std.specs.Prelude.{None, Some}
use Prim.Native.Nat.{ℕ, zero, suc, ◌≤◌, ◌<◌}
use native.Mathlib.Omega.{arith}
use lib.Dec.{leb, ltb}
use lib.ListN.{get_or}
use borrow.Author.Tests.{le-leb, lt-leb, leb-true, ltb-true}
use Rattle.text.specs.Utf8.{Range, ◌to◌, table, inside, Matches, InRows, opened, code_points}

-- ---- a range
pub inside-holds : (low high byte : ℕ) → inside (low to high) byte ≡ true → (low ≤ byte) × (byte ≤ high)
unfolding inside
inside-holds low high byte e =
    let both = (and-eq-true_iff (leb low byte) (leb byte high)).0 e in
    (leb-true low byte both.0, leb-true byte high both.1)

pub inside-yes : (low high byte : ℕ) → low ≤ byte → byte ≤ high → inside (low to high) byte ≡ true
unfolding inside
inside-yes low high byte h k = rw (le-leb low byte h, le-leb byte high k)

pub inside-upper : (low high byte : ℕ) → low ≤ byte → inside (low to high) byte ≡ leb byte high
unfolding inside
inside-upper low high byte h = rw (le-leb low byte h)

pub inside_under : (low high byte : ℕ) → byte < low → inside (low to high) byte ≡ false
unfolding inside
inside_under low high byte h = rw (lt-leb low byte h)

pub inside-over : (low high byte : ℕ) → high < byte → inside (low to high) byte ≡ false
unfolding inside
inside-over low high byte h = go (leb low byte)
  where
    go : (t : Bool) → (t && leb byte high) ≡ false
    go true = lt-leb byte high h
    go false = refl

-- a byte tested against a range's ends
pub ruleset ranges = (inside-yes, inside_under, inside-over)

-- ---- the rows rise
-- each row begins at `from` or above, and above where the row before it ends
rising : ℕ → List (List Range) → Bool
rising from [] = true
rising from ([] ∷ rows) = false
rising from ((low to high ∷ ranges) ∷ rows) = leb from low && (leb low high && rising (suc high) rows)

rises : (from low high : ℕ) (ranges : List Range) (rows : List (List Range)) → rising from ((low to high ∷ ranges) ∷ rows) ≡ true
    → (from ≤ low) × (low ≤ high) × (rising (suc high) rows ≡ true)
unfolding rising
rises from low high ranges rows e =
    let a = (and-eq-true_iff (leb from low) (leb low high && rising (suc high) rows)).0 e in
    let b = (and-eq-true_iff (leb low high) (rising (suc high) rows)).0 a.1 in
    (leb-true from low a.0, leb-true low high b.0, b.1)

-- where a row begins, from what all the rows begin at
row-over : (from : ℕ) (rows : List (List Range)) (n : ℕ) {low high : ℕ} {ranges : List Range} → rising from rows ≡ true
    → get_or rows n [] ≡ low to high ∷ ranges → from ≤ low
unfolding rising
row-over from [] n e r = absurd (nil≢cons r)
row-over from ([] ∷ rows) n e r = absurd (false≢true e)
row-over from ((l to h ∷ rest) ∷ rows) zero {low} e r =
    let a = rises from l h rest rows e in
    let s : l ≡ low = cc in
    omega arith
row-over from ((l to h ∷ rest) ∷ rows) (suc n) e r =
    let a = rises from l h rest rows e in
    let k = row-over (suc h) rows n a.2 r in
    omega arith

-- a byte that a row begins with opens that row
row_opens : (from : ℕ) (rows : List (List Range)) (n byte : ℕ) {low high : ℕ} {ranges : List Range} → rising from rows ≡ true
    → get_or rows n [] ≡ low to high ∷ ranges → inside (low to high) byte ≡ true → opened rows byte ≡ Some ranges
unfolding rising opened
row_opens from [] n byte e r i = absurd (nil≢cons r)
row_opens from ([] ∷ rows) n byte e r i = absurd (false≢true e)
row_opens from ((l to h ∷ rest) ∷ rows) zero byte {low} {high} {ranges} e r i =
    let k : inside (l to h) byte ≡ true = cc in
    let s : rest ≡ ranges = cc in
    rw k (ap Some s)
row_opens from ((l to h ∷ rest) ∷ rows) (suc n) byte {low} {high} e r i =
    let a = rises from l h rest rows e in
    let k = row-over (suc h) rows n a.2 r in
    let b = inside-holds low high byte i in
    rw (inside-over l h byte (omega arith)) (row_opens (suc h) rows n byte a.2 r i)

-- the row of a sequence
in_row : (rows : List (List Range)) (byte : ℕ) (bytes : List ℕ) → InRows rows (byte ∷ bytes)
    → (n low high : ℕ) × (ranges : List Range) × (get_or rows n [] ≡ low to high ∷ ranges) × (inside (low to high) byte ≡ true) × Matches ranges bytes
in_row ([] ∷ rows) byte bytes (inr m) = let r = in_row rows byte bytes m in (suc r.0, r.1, r.2, r.3, r.4, r.5, r.6)
in_row ((low to high ∷ ranges) ∷ rows) byte bytes (inl m) = (0, low, high, ranges, refl, m.0, m.1)
in_row ((low to high ∷ ranges) ∷ rows) byte bytes (inr m) = let r = in_row rows byte bytes m in (suc r.0, r.1, r.2, r.3, r.4, r.5, r.6)
in_row [] byte bytes x' = elim x' [ ]
in_row ([] ∷ rows) byte bytes (inl m) = elim m [ ]

-- the sequences of a row that a byte opens
open_row : (rows : List (List Range)) (byte : ℕ) (bytes : List ℕ) (ranges : List Range) → opened rows byte ≡ Some ranges → Matches ranges bytes → InRows rows (byte ∷ bytes)
unfolding opened
open_row [] byte bytes ranges e m = let z : ◌≡◌ {A = ℕ} 0 1 = cc in omega arith
open_row ([] ∷ rows) byte bytes ranges e m = inr (open_row rows byte bytes ranges e m)
open_row ((range ∷ rest) ∷ rows) byte bytes ranges e m = go (inside range byte) refl e (open_row rows byte bytes ranges)
  where
    go : (t : Bool) → inside range byte ≡ t → cond t (Some rest) (opened rows byte) ≡ Some ranges
        → (opened rows byte ≡ Some ranges → Matches ranges bytes → InRows rows (byte ∷ bytes)) → InRows ((range ∷ rest) ∷ rows) (byte ∷ bytes)
    go true i k below = let s : ranges ≡ rest = cc in inl (i, rw s at m)
    go false i k below = inr (below k m)

-- below the first row no row begins
under-rows : (from : ℕ) (rows : List (List Range)) (byte : ℕ) → rising from rows ≡ true → byte < from → opened rows byte ≡ None
unfolding rising opened
under-rows from [] byte e h = refl
under-rows from ([] ∷ rows) byte e h = absurd (false≢true e)
under-rows from ((low to high ∷ ranges) ∷ rows) byte e h =
    let a = rises from low high ranges rows e in
    rw (inside_under low high byte (omega arith)) (under-rows (suc high) rows byte a.2 (omega arith))

-- nor above the last
ending : ℕ → List (List Range) → Bool
ending top [] = true
ending top ([] ∷ rows) = false
ending top ((low to high ∷ ranges) ∷ rows) = leb high top && ending top rows

over-rows : (top : ℕ) (rows : List (List Range)) (byte : ℕ) → ending top rows ≡ true → top < byte → opened rows byte ≡ None
unfolding ending opened
over-rows top [] byte e h = refl
over-rows top ([] ∷ rows) byte e h = absurd (false≢true e)
over-rows top ((low to high ∷ ranges) ∷ rows) byte e h =
    let a = (and-eq-true_iff (leb high top) (ending top rows)).0 e in
    let b = leb-true high top a.0 in
    rw (inside-over low high byte (omega arith)) (over-rows top rows byte a.1 h)

-- ---- what continues a code point
-- each range lies in that of the bytes that continue a code point
continuing : List Range → Bool
continuing [] = true
continuing (low to high ∷ ranges) = (leb 0x80 low && leb high 0xBF) && continuing ranges

-- in every row the first byte does not continue a code point, and the others do
leading : List (List Range) → Bool
leading [] = true
leading ([] ∷ rows) = false
leading ((low to high ∷ ranges) ∷ rows) = (ltb high 0x80 || ltb 0xBF low) && (continuing ranges && leading rows)

continued : (ranges : List Range) (bytes rest : List ℕ) → continuing ranges ≡ true → Matches ranges bytes → code_points (bytes ++ rest) ≡ code_points rest
unfolding continuing code_points
continued [] [] rest e m = refl
continued (low to high ∷ ranges) (byte ∷ bytes) rest e m =
    let a = (and-eq-true_iff (leb 0x80 low && leb high 0xBF) (continuing ranges)).0 e in
    let b = (and-eq-true_iff (leb 0x80 low) (leb high 0xBF)).0 a.0 in
    let l = leb-true 0x80 low b.0 in
    let h = leb-true high 0xBF b.1 in
    let k = inside-holds low high byte m.0 in
    rw (inside-yes 0x80 0xBF byte (omega arith) (omega arith)) (continued ranges bytes rest a.1 m.1)
continued [] (byte ∷ bytes) rest e m = elim m [ ]
continued ((low to high) ∷ ranges) [] rest e m = elim m [ ]

outside : (low high byte : ℕ) → (ltb high 0x80 || ltb 0xBF low) ≡ true → low ≤ byte → byte ≤ high → inside (0x80 to 0xBF) byte ≡ false
outside low high byte e l h = go (ltb high 0x80) (ltb-true high 0x80) e
  where
    go : (t : Bool) → (t ≡ true → high < 0x80) → (t || ltb 0xBF low) ≡ true → inside (0x80 to 0xBF) byte ≡ false
    go true k f = let a = k refl in inside_under 0x80 0xBF byte (omega arith)
    go false k f = let a = ltb-true 0xBF low f in inside-over 0x80 0xBF byte (omega arith)

counted : (rows : List (List Range)) (first rest : List ℕ) → leading rows ≡ true → InRows rows first → code_points (first ++ rest) ≡ suc (code_points rest)
unfolding leading code_points
counted ([] ∷ rows) first rest e m = absurd (false≢true e)
counted ((low to high ∷ ranges) ∷ rows) (byte ∷ bytes) rest e (inl m) =
    let a = (and-eq-true_iff (ltb high 0x80 || ltb 0xBF low) (continuing ranges && leading rows)).0 e in
    let b = (and-eq-true_iff (continuing ranges) (leading rows)).0 a.1 in
    let k = inside-holds low high byte m.0 in
    rw (outside low high byte a.0 k.0 k.1) (ap suc (continued ranges bytes rest b.0 m.1))
counted ((low to high ∷ ranges) ∷ rows) first rest e (inr m) =
    let a = (and-eq-true_iff (ltb high 0x80 || ltb 0xBF low) (continuing ranges && leading rows)).0 e in
    let b = (and-eq-true_iff (continuing ranges) (leading rows)).0 a.1 in
    counted rows first rest b.1 m
counted [] first rest e m = elim m [ ]
counted (((low to high) ∷ ranges) ∷ rows) [] rest e (inl m) = elim m [ ]

-- ---- of the table
-- A byte that a row begins with opens the rest of that row.
pub begins : (n byte : ℕ) {low high : ℕ} {ranges : List Range} → get_or table n [] ≡ low to high ∷ ranges → low ≤ byte → byte ≤ high
    → opened table byte ≡ Some ranges
unfolding table rising
begins n byte {low} {high} r l h = row_opens 0 table n byte refl r (inside-yes low high byte l h)

-- From 0x80 to 0xC1, and above 0xF4, no row begins.
pub begins-none-under : (byte : ℕ) → 0x80 ≤ byte → byte < 0xC2 → opened table byte ≡ None
unfolding table rising opened
begins-none-under byte l h = rw (inside-over 0x00 0x7F byte l) (under-rows 0xC2 (tail table) byte refl h)

pub begins-none-over : (byte : ℕ) → 0xF4 < byte → opened table byte ≡ None
unfolding table ending
begins-none-over byte h = over-rows 0xF4 table byte refl h

-- A sequence of the table is a first byte that opens a row, and what matches the rest of that row.
pub sequence-opens : (byte : ℕ) (bytes : List ℕ) → InRows table (byte ∷ bytes) → (ranges : List Range) × (opened table byte ≡ Some ranges) × Matches ranges bytes
unfolding table rising
sequence-opens byte bytes m =
    let r = in_row table byte bytes m in
    (r.3, row_opens 0 table r.0 byte refl r.4 r.5, r.6)

pub opens-sequence : (byte : ℕ) (bytes : List ℕ) (ranges : List Range) → opened table byte ≡ Some ranges → Matches ranges bytes → InRows table (byte ∷ bytes)
opens-sequence byte bytes ranges e m = open_row table byte bytes ranges e m

-- A sequence of the table counts for one.
pub sequence-counts : (first rest : List ℕ) → InRows table first → code_points (first ++ rest) ≡ suc (code_points rest)
unfolding table leading continuing
sequence-counts first rest m = counted table first rest refl m
