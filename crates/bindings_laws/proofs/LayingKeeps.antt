-- What laying literals down keeps: the words of all cells but those that it fills or takes, and all bytes but those that it takes.
-- Assumes nothing.
use Prim.Native.Nat.{ℕ, zero, suc, ◌+◌, ◌-◌, ◌*◌, ◌≤◌, ◌<◌}
use mathlib.Core.Path.{◌≡◌, refl, sym, ap, ◌∙◌}
use mathlib.Core.Logic.{◌⊎◌, inl, inr}
use mathlib.Core.List.{List, [], ◌∷◌}
use mathlib.Core.Bool.{Bool, true, false, cond}
use native.Mathlib.Omega.{arith}
use lib.ListN.{length, get_or, set, take, drop, length-set, length-drop}
use lib.Seq.{get_or-set_other, get_or-drop, ext_get_or}
use Rattle.meaning.specs.Value.{Scalar, null, bool, int, uint, double, string, bytes}
use Rattle.meaning.specs.Spelling.{Literal, scalar_at, list_at, map_at, Literals, no_literals, literals, LiteralPairs, no_literal_pairs, literal_pairs}
use Rattle.rooms.specs.declared.value.Value.{Value}
use Rattle.rooms.specs.Cells.{head_of, payload_of, has_cell, cell_in, written_in}
use Rattle.rooms.proofs.CellLaws.{written-length, cell_same}
use Rattle.bindings_literals.specs.Laying.{Room, typed, with_text, taking, put, laid_scalar, count_literals, count_pairs, laid, laid_row, laid_pairs}

-- ---- lists by their elements

pub take_same : (n : ℕ) (l m : List ℕ) → length l ≡ length m → ((k : ℕ) → k < n → get_or l k 0 ≡ get_or m k 0) → take n l ≡ take n m
take_same zero l m e h = refl
take_same (suc n) [] [] e h = refl
take_same (suc n) [] (y ∷ m) e h = absurd (omega (arith, e))
take_same (suc n) (x ∷ l) [] e h = absurd (omega (arith, e))
take_same (suc n) (x ∷ l) (y ∷ m) e h = λ i. h 0 (omega arith) i ∷ take_same n l m (omega (arith, e)) (λ k b. h (suc k) (omega (arith, b))) i

pub drop-same : (n : ℕ) (l m : List ℕ) → length l ≡ length m → ((k : ℕ) → n ≤ k → get_or l k 0 ≡ get_or m k 0) → drop n l ≡ drop n m
drop-same n l m e h =
    ext_get_or 0 (drop n l) (drop n m) (length-drop n l ∙ (ap (λ k. k - n) e ∙ sym (length-drop n m)))
    (λ i b. get_or-drop n l i 0 ∙ (h (n + i) (omega arith) ∙ sym (get_or-drop n m i 0)))

-- ---- a room that has become another

-- of the cells that were taken before only those from lo up to hi were filled
pub record Later (lo hi : ℕ) (p q : Room) : Type 0 where
  pub cells : p.cells ≤ q.cells
  pub bytes : p.bytes ≤ q.bytes
  pub words_long : length q.words ≡ length p.words
  pub text_long : length q.text ≡ length p.text
  pub words_kept : (k : ℕ) → (k < 2 * lo) ⊎ (2 * hi ≤ k) → k < 2 * p.cells → get_or q.words k 0 ≡ get_or p.words k 0
  pub words_above : (k : ℕ) → 2 * q.cells ≤ k → get_or q.words k 0 ≡ get_or p.words k 0
  pub text_kept : (k : ℕ) → k < p.bytes → get_or q.text k 0 ≡ get_or p.text k 0
  pub text_above : (k : ℕ) → q.bytes ≤ k → get_or q.text k 0 ≡ get_or p.text k 0

pub later-cell : {lo hi : ℕ} {p q : Room} → Later lo hi p q → (i : ℕ) → (i < lo) ⊎ (hi ≤ i) → i < p.cells → cell_in q.words i ≡ cell_in p.words i
later-cell {lo} {hi} {p} {q} g i away h =
    cell_same q.words p.words i g.words_long (g.words_kept (i * 2) (first away) (omega arith)) (g.words_kept (i * 2 + 1) (second away) (omega arith))
  where
    first : (i < lo) ⊎ (hi ≤ i) → (i * 2 < 2 * lo) ⊎ (2 * hi ≤ i * 2)
    first (inl a) = inl (omega arith)
    first (inr a) = inr (omega arith)

    second : (i < lo) ⊎ (hi ≤ i) → (i * 2 + 1 < 2 * lo) ⊎ (2 * hi ≤ i * 2 + 1)
    second (inl a) = inl (omega arith)
    second (inr a) = inr (omega arith)

pub later-text : {lo hi : ℕ} {p q : Room} → Later lo hi p q → take p.bytes q.text ≡ take p.bytes p.text
later-text {lo} {hi} {p} {q} g = take_same p.bytes q.text p.text g.text_long g.text_kept

-- nothing was filled
pub later-self : (lo : ℕ) (p : Room) → Later lo lo p p
later-self lo p =
    record {
      cells = omega arith;
      bytes = omega arith;
      words_long = refl;
      text_long = refl;
      words_kept = λ k a b. refl;
      words_above = λ k a. refl;
      text_kept = λ k a. refl;
      text_above = λ k a. refl;
    }

-- one after the other
pub later-then : (a b c : ℕ) (p q s : Room) → a ≤ b → b ≤ c → Later a b p q → Later b c q s → Later a c p s
later-then a b c p q s m n g h =
    record {
      cells = omega (arith, g.cells, h.cells);
      bytes = omega (arith, g.bytes, h.bytes);
      words_long = h.words_long ∙ g.words_long;
      text_long = h.text_long ∙ g.text_long;
      words_kept = λ k away u. h.words_kept k (after_first k away) (omega (arith, u, g.cells)) ∙ g.words_kept k (in-first k away) u;
      words_above = λ k u. h.words_above k u ∙ g.words_above k (omega (arith, u, h.cells));
      text_kept = λ k u. h.text_kept k (omega (arith, u, g.bytes)) ∙ g.text_kept k u;
      text_above = λ k u. h.text_above k u ∙ g.text_above k (omega (arith, u, h.bytes));
    }
  where
    after_first : (k : ℕ) → (k < 2 * a) ⊎ (2 * c ≤ k) → (k < 2 * b) ⊎ (2 * c ≤ k)
    after_first k (inl u) = inl (omega arith)
    after_first k (inr u) = inr u

    in-first : (k : ℕ) → (k < 2 * a) ⊎ (2 * c ≤ k) → (k < 2 * a) ⊎ (2 * b ≤ k)
    in-first k (inl u) = inl u
    in-first k (inr u) = inr (omega arith)

-- ---- text

pub typed_long : (t : List ℕ) (to : ℕ) (s : List ℕ) → length (typed t to s) ≡ length t
unfolding typed
typed_long t to [] = refl
typed_long t to (b ∷ s) = typed_long (set t to b) (suc to) s ∙ length-set t to b

pub typed-away : (t : List ℕ) (to : ℕ) (s : List ℕ) (k : ℕ) → (k < to) ⊎ (to + length s ≤ k) → get_or (typed t to s) k 0 ≡ get_or t k 0
unfolding typed
typed-away t to [] k away = refl
typed-away t to (b ∷ s) k away = typed-away (set t to b) (suc to) s k (rest away) ∙ get_or-set_other t to k b 0 (other away)
  where
    rest : (k < to) ⊎ (to + length (b ∷ s) ≤ k) → (k < suc to) ⊎ (suc to + length s ≤ k)
    rest (inl u) = inl (omega arith)
    rest (inr u) = inr (omega arith)

    other : (k < to) ⊎ (to + length (b ∷ s) ≤ k) → k ≡ to → ⊥
    other (inl u) e = omega arith
    other (inr u) e = omega arith

text-later : (r : Room) (s : List ℕ) → Later r.cells r.cells r (with_text r s)
text-later r s =
    record {
      cells = omega arith;
      bytes = omega arith;
      words_long = refl;
      text_long = typed_long r.text r.bytes s;
      words_kept = λ k a b. refl;
      words_above = λ k a. refl;
      text_kept = λ k u. typed-away r.text r.bytes s k (inl u);
      text_above = λ k u. typed-away r.text r.bytes s k (inr u);
    }

-- ---- cells

written-away : (w : List ℕ) (i : ℕ) (v : Value) (k : ℕ) → (k < i * 2) ⊎ (i * 2 + 2 ≤ k) → get_or (written_in w i v) k 0 ≡ get_or w k 0
unfolding written_in
written-away w i v k away = go (has_cell w i)
  where
    second : (k < i * 2) ⊎ (i * 2 + 2 ≤ k) → k ≡ i * 2 + 1 → ⊥
    second (inl u) e = omega arith
    second (inr u) e = omega arith

    first : (k < i * 2) ⊎ (i * 2 + 2 ≤ k) → k ≡ i * 2 → ⊥
    first (inl u) e = omega arith
    first (inr u) e = omega arith

    go : (b : Bool) → get_or (cond b (set (set w (i * 2) (head_of v)) (i * 2 + 1) (payload_of v)) w) k 0 ≡ get_or w k 0
    go true = get_or-set_other (set w (i * 2) (head_of v)) (i * 2 + 1) k (payload_of v) 0 (second away) ∙ get_or-set_other w (i * 2) k (head_of v) 0 (first away)
    go false = refl

-- a part is laid down, and put into a cell that was taken
pub put-later : (r : Room) (a : Value × Room) (to : ℕ) → to < r.cells → Later r.cells r.cells r a.1 → Later to (suc to) r (put a to)
put-later r a to h g =
    record {
      cells = g.cells;
      bytes = g.bytes;
      words_long = written-length a.1.words to a.0 ∙ g.words_long;
      text_long = g.text_long;
      words_kept = λ k away u. written-away a.1.words to a.0 k (aside k away) ∙ g.words_kept k (inl u) u;
      words_above = λ k u. written-away a.1.words to a.0 k (inr (omega (arith, u, h, g.cells))) ∙ g.words_above k u;
      text_kept = g.text_kept;
      text_above = g.text_above;
    }
  where
    aside : (k : ℕ) → (k < 2 * to) ⊎ (2 * suc to ≤ k) → (k < to * 2) ⊎ (to * 2 + 2 ≤ k)
    aside k (inl u) = inl (omega arith)
    aside k (inr u) = inr (omega arith)

-- of the cells that were taken for a container all are filled
filled-later : (r q : Room) (n : ℕ) → Later r.cells (r.cells + n) (taking r n) q → Later r.cells r.cells r q
filled-later r q n g =
    record {
      cells = omega (arith, g.cells);
      bytes = g.bytes;
      words_long = g.words_long;
      text_long = g.text_long;
      words_kept = λ k away u. g.words_kept k (inl u) (omega (arith, u));
      words_above = g.words_above;
      text_kept = g.text_kept;
      text_above = g.text_above;
    }

scalar-later : (x : Scalar) (r : Room) → Later r.cells r.cells r (laid_scalar x r).1
unfolding laid_scalar
scalar-later null r = later-self r.cells r
scalar-later (bool b) r = later-self r.cells r
scalar-later (int z) r = later-self r.cells r
scalar-later (uint n) r = later-self r.cells r
scalar-later (double d) r = later-self r.cells r
scalar-later (string s) r = text-later r s
scalar-later (bytes s) r = text-later r s

module _ (a b : ℕ) (p q : Room) where
  to_end : (c : ℕ) → c ≡ b → Later a c p q → Later a b p q
  to_end c e g = rw e at g

mutual
  unfolding laid laid_row laid_pairs count_literals count_pairs

  pub laid-later : (l : Literal) (r : Room) → Later r.cells r.cells r (laid l r).1
  laid-later (scalar_at p x) r = scalar-later x r
  laid-later (list_at p ls) r =
      filled-later r (laid_row ls r.cells (taking r (count_literals ls))) (count_literals ls) (row-later ls r.cells (taking r (count_literals ls)) (omega arith))
  laid-later (map_at p ls) r =
      filled-later r (laid_pairs ls r.cells (taking r (2 * count_pairs ls))) (2 * count_pairs ls) (pairs-later ls r.cells (taking r (2 * count_pairs ls)) (omega arith))

  pub row-later : (ls : Literals) (to : ℕ) (r : Room) → to + count_literals ls ≤ r.cells → Later to (to + count_literals ls) r (laid_row ls to r)
  row-later no_literals to r h = to_end to (to + 0) r r to (omega arith) (later-self to r)
  row-later (literals l ls) to r h =
      let g = put-later r (laid l r) to (omega arith) (laid-later l r) in
      let i = row-later ls (suc to) (put (laid l r) to) (omega (arith, g.cells)) in
      to_end to (to + suc (count_literals ls)) r _ (suc to + count_literals ls) (omega arith)
      (later-then to (suc to) (suc to + count_literals ls) r (put (laid l r) to) _ (omega arith) (omega arith) g i)

  pub pairs-later : (ls : LiteralPairs) (to : ℕ) (r : Room) → to + 2 * count_pairs ls ≤ r.cells → Later to (to + 2 * count_pairs ls) r (laid_pairs ls to r)
  pairs-later no_literal_pairs to r h = to_end to (to + 0) r r to (omega arith) (later-self to r)
  pairs-later (literal_pairs l m ls) to r h =
      let g = put-later r (laid l r) to (omega arith) (laid-later l r) in
      let i = put-later (put (laid l r) to) (laid m (put (laid l r) to)) (suc to) (omega (arith, g.cells)) (laid-later m (put (laid l r) to)) in
      let j = pairs-later ls (suc (suc to)) (put (laid m (put (laid l r) to)) (suc to)) (omega (arith, g.cells, i.cells)) in
      to_end to (to + 2 * suc (count_pairs ls)) r _ (suc (suc to) + 2 * count_pairs ls) (omega arith)
      (later-then to (suc to) (suc (suc to) + 2 * count_pairs ls) r (put (laid l r) to) _ (omega arith) (omega arith) g
      (later-then (suc to) (suc (suc to)) (suc (suc to) + 2 * count_pairs ls) (put (laid l r) to) (put (laid m (put (laid l r) to)) (suc to)) _ (omega arith) (omega arith) i j))
