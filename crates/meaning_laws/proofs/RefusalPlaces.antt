-- Where the reader of node tables stops: what it reads ends inside the parent, and what it refuses lies inside it or at its end.
-- It rests on the heads. Assumes nothing.
use Prim.Native.Nat.{ℕ, zero, suc, ◌≤◌}
use native.Mathlib.Omega.{arith}
use mathlib.Core.Path.{◌≡◌, refl}
use mathlib.Core.List.{List}
use Rattle.std.specs.Prelude.{Option, None, Some}
use mathlib.Core.Bool.{Bool, true, false, ◌&&◌}
use lib.ListN.{length}
use Rattle.std.specs.Prelude.{slice_get}
use lib.Dec.{leb, eqb}
use Rattle.meaning.specs.Limits.{shortest_table, longest_table, deepest_record}
use Rattle.meaning.specs.declared.refusal.Reason.{Reason}
use Rattle.meaning.specs.declared.refusal.Reason.TheVariants.{TableLength, WrongExtent, BytesAfterRoot}
use Rattle.meaning.specs.Expr.{Expr}
use Rattle.meaning.specs.Kinds.{ExprKind, null_kind, bool_kind, int_kind, uint_kind, double_kind, string_kind, bytes_kind, name_kind, unary_kind, binary_kind}
use Rattle.meaning.specs.Kinds.{conditional_kind, select_kind, list_kind, map_kind, comprehension_kind, function_kind, Kind, mark, expr}
use Rattle.meaning.specs.Kinds.{Called, to_one, to_none, to_two}
use Rattle.meaning.specs.Heads.{Got, got, refused, ◌>>=◌, ◌>>◌, demand, or_refuse, start, Head, row_at, head_at}
use Rattle.meaning.specs.Table.{Part, Reader, elements_from, pairs_from, filled, called_at, body_at, as_expr, as_part, expr_at, part_at, root_at}
use Rattle.meaning.specs.Table.{word_bytes, read_table}
use Rattle.meaning_laws.proofs.TableHeads.{Opened, head_opened}
use Rattle.meaning_laws.proofs.TableBytes.{nonsense}

-- ---- results inside bounds

-- what is read ends, or is refused, between these places
abbrev Within : {A : Type 0} → ℕ → ℕ → Got (A × ℕ) → Type 0
Within low end (got r) = (low ≤ r.1) × (r.1 ≤ end)
Within low end (refused r q) = (low ≤ q) × (q ≤ end)

record Inside {A : Type 0} (low end : ℕ) (g : Got (A × ℕ)) : Type 0 where
  within : Within low end g

-- a reader that stays inside
abbrev Bounded : {A : Type 0} → Reader A → Type 0
Bounded R = (p end : ℕ) → p ≤ end → Inside p end (R p end)

-- steps of a reader that began at p and stays up to `end`
module _ {A B : Type 0} (p end : ℕ) where
  inside-next : (low : ℕ) (g : Got (A × ℕ)) (k : A × ℕ → Got (B × ℕ)) → p ≤ low → Inside low end g
      → ((x : A) (q : ℕ) → low ≤ q → q ≤ end → Inside p end (k (x, q))) → Inside p end (◌>>=◌ g k)
  unfolding ◌>>=◌
  inside-next low (got a) k h i f = f a.0 a.1 i.within.0 i.within.1
  inside-next low (refused r q) k h i f = record { within = (omega (arith, i.within.0), i.within.1) }

  inside-chosen : (r : Reason) (o : Option A) (k : A → Got (B × ℕ)) → p ≤ end → ((a : A) → Inside p end (k a))
      → Inside p end (◌>>=◌ (or_refuse r p o) k)
  unfolding ◌>>=◌ or_refuse
  inside-chosen r None k h f = record { within = (omega arith, h) }
  inside-chosen r (Some a) k h f = f a

inside-end : {A : Type 0} (p q end : ℕ) (x : A) → p ≤ q → q ≤ end → Inside p end (got (x, q))
inside-end p q end x h k = record { within = (h, k) }

inside-filled : {A : Type 0} (p q : ℕ) (h : Head) (x : A) → p ≤ q → q ≤ h.end → Inside p h.end (filled p h x q)
unfolding filled demand ◌>>◌ ◌>>=◌
inside-filled p q h x l u = go (eqb q h.end)
  where
    go : (t : Bool) → Inside p h.end (◌>>◌ (demand t WrongExtent p) (got (x, q)))
    go true = record { within = (l, u) }
    go false = record { within = (omega arith, omega arith) }

-- ---- heads are refused where they start

-- nothing is refused at another place
abbrev Only : {A : Type 0} → ℕ → Got A → Type 0
Only p (got a) = Unit {0}
Only p (refused r q) = q ≡ p

only_next : {A B : Type 0} (p : ℕ) (g : Got A) (k : A → Got B) → Only p g → ((a : A) → Only p (k a)) → Only p (◌>>=◌ g k)
unfolding ◌>>=◌
only_next p (got a) k o f = f a
only_next p (refused r q) k o f = o

only-chosen : {A : Type 0} (p : ℕ) (r : Reason) (o : Option A) → Only p (or_refuse r p o)
unfolding or_refuse
only-chosen p r None = refl
only-chosen p r (Some a) = tt

only-demand : (p : ℕ) (r : Reason) (t : Bool) → Only p (demand t r p)
unfolding demand
only-demand p r true = tt
only-demand p r false = refl

module _ (width : ℕ) (table : List ℕ) where
  only-head : (p end : ℕ) → Only p (head_at width table p end)
  unfolding head_at row_at ◌>>◌
  only-head p end =
      only_next p (row_at width table p) _ (only_next p (or_refuse _ p (slice_get table p)) _ (only-chosen p _ _) (λ b. only-chosen p _ _))
      (λ r. only_next p (demand _ _ p) _ (only-demand p _ _) (λ u. tt))

  inside-head : {A : Type 0} (p end : ℕ) (k : Head → Got (A × ℕ)) → p ≤ end → ((h : Head) → Opened width table p end h → Inside p end (k h))
      → Inside p end (◌>>=◌ (head_at width table p end) k)
  unfolding ◌>>=◌
  inside-head p end k h f = go (head_at width table p end) refl (only-head p end)
    where
      go : (g : Got Head) → head_at width table p end ≡ g → Only p g → Inside p end (◌>>=◌ g k)
      go (got x) e o = f x (head_opened width table p end x e)
      go (refused r q) e o = record { within = (omega arith, omega arith) }

-- ---- records, one kind after the other

elements-inside : (P : Reader Part) → Bounded P → (n p end : ℕ) → p ≤ end → Inside p end (elements_from P n p end)
unfolding elements_from
elements-inside P b zero p end h = inside-end p p end _ (omega arith) h
elements-inside P b (suc n) p end h =
    inside-next p end p (P p end) _ (omega arith) (b p end h) λ x q l u.
    inside-next p end q (elements_from P n q end) _ l (elements-inside P b n q end u) λ es r m v. inside-end p r end _ (omega arith) v

pairs-inside : (R : Reader Expr) (P : Reader Part) → Bounded R → Bounded P → (n p end : ℕ) → p ≤ end → Inside p end (pairs_from R P n p end)
unfolding pairs_from
pairs-inside R P a b zero p end h = inside-end p p end _ (omega arith) h
pairs-inside R P a b (suc n) p end h =
    inside-next p end p (R p end) _ (omega arith) (a p end h) λ k q l u. inside-next p end q (P q end) _ l (b q end u) λ x r m v.
    inside-next p end r (pairs_from R P n r end) _ (omega arith) (pairs-inside R P a b n r end v) λ es s j w. inside-end p s end _ (omega arith) w

module _ (text : List ℕ) (R : Reader Expr) (P : Reader Part) (bound_r : Bounded R) (bound_p : Bounded P) (p : ℕ) (h : Head) (low : p ≤ h.operands_at)
    (high : h.operands_at ≤ h.end) where
  abbrev Stays : Got (Expr × ℕ) → Type 0
  Stays g = Inside p h.end g

  -- an operand behind what was read up to q
  operand : {B : Type 0} (q : ℕ) (k : Expr × ℕ → Got (B × ℕ)) → p ≤ q → q ≤ h.end
      → ((x : Expr) (r : ℕ) → q ≤ r → r ≤ h.end → Inside p h.end (k (x, r))) → Inside p h.end (◌>>=◌ (R q h.end) k)
  operand q k l u f = inside-next p h.end q (R q h.end) k l (bound_r q h.end u) f

  -- a field that is looked up
  pick : {A B : Type 0} (r : Reason) (o : Option A) (k : A → Got (B × ℕ)) → ((a : A) → Inside p h.end (k a))
      → Inside p h.end (◌>>=◌ (or_refuse r p o) k)
  pick r o k f = inside-chosen p h.end r o k (omega arith) f

  closed : (x : Expr) → Stays (got (x, h.end))
  closed x = inside-end p h.end h.end x (omega arith) (omega arith)

  called-inside : (f : Called) → Stays (called_at text R P p h f)
  unfolding called_at
  called-inside (to_one f) = operand h.operands_at _ low high λ x q l u. inside-filled p q h _ (omega arith) u
  called-inside to_none = closed _
  called-inside to_two = operand h.operands_at _ low high λ x q l u. operand q _ (omega arith) u λ y r m v. inside-filled p r h _ (omega arith) v

  body-inside : (k : ExprKind) (ns : List ℕ) → Stays (body_at text R P p h k ns)
  unfolding body_at
  body-inside null_kind ns = closed _
  body-inside bool_kind ns = pick _ _ _ λ b. closed _
  body-inside int_kind ns = closed _
  body-inside uint_kind ns = closed _
  body-inside double_kind ns = closed _
  body-inside string_kind ns = pick _ _ _ λ s. closed _
  body-inside bytes_kind ns = pick _ _ _ λ s. closed _
  body-inside name_kind ns = pick _ _ _ λ n. closed _
  body-inside unary_kind ns = pick _ _ _ λ o. operand h.operands_at _ low high λ x q l u. inside-filled p q h _ (omega arith) u
  body-inside binary_kind ns =
      pick _ _ _ λ o. operand h.operands_at _ low high λ x q l u. operand q _ (omega arith) u λ y r m v. inside-filled p r h _ (omega arith) v
  body-inside conditional_kind ns =
      operand h.operands_at _ low high λ x q l u. operand q _ (omega arith) u λ y r m v.
      operand r _ (omega arith) v λ z s n w. inside-filled p s h _ (omega arith) w
  body-inside select_kind ns =
      pick _ _ _ λ t. pick _ _ _ λ f. operand h.operands_at _ low high λ x q l u. inside-filled p q h _ (omega arith) u
  body-inside list_kind ns =
      inside-next p h.end h.operands_at _ _ low (elements-inside P bound_p _ h.operands_at h.end high) λ es q l u.
      inside-filled p q h _ (omega arith) u
  body-inside map_kind ns =
      inside-next p h.end h.operands_at _ _ low (pairs-inside R P bound_r bound_p _ h.operands_at h.end high) λ es q l u.
      inside-filled p q h _ (omega arith) u
  body-inside comprehension_kind ns =
      pick _ _ _ λ a. pick _ _ _ λ i. operand h.operands_at _ low high λ x q l u. operand q _ (omega arith) u λ y r m v.
      operand r _ (omega arith) v λ z s n w. operand s _ (omega arith) w λ c t g b. operand t _ (omega arith) b λ d e f j.
      inside-filled p e h _ (omega arith) j
  body-inside function_kind ns = pick _ _ _ λ f. called-inside f

  expr-inside : (k : Kind) → Stays (as_expr text R P p h k)
  unfolding as_expr
  expr-inside mark = record { within = (omega arith, omega arith) }
  expr-inside (expr k) = body-inside k h.numbers

  part-inside : (k : Kind) → Inside p h.end (as_part text R P p h k)
  unfolding as_part
  part-inside mark = operand h.operands_at _ low high λ x q l u. inside-filled p q h _ (omega arith) u
  part-inside (expr k) = inside-next p h.end p _ _ (omega arith) (body-inside k h.numbers) λ x q l u. inside-end p q h.end _ l u

-- ---- whole tables

wider : {A : Type 0} (p x y : ℕ) (g : Got (A × ℕ)) → x ≤ y → Inside p x g → Inside p y g
wider p x y (got a) h i = record { within = (i.within.0, omega (arith, i.within.1)) }
wider p x y (refused r q) h i = record { within = (i.within.0, omega (arith, i.within.1)) }

-- What is read inside a parent ends inside it, and what is refused lies there.
levels-inside : (width : ℕ) (table text : List ℕ) (left : ℕ)
    → Bounded (expr_at width table text left) × Bounded (part_at width table text left)
unfolding expr_at ◌>>◌
levels-inside width table text zero = (
  λ p end b. inside-head width table p end _ b (λ h o. record { within = (omega arith, b) }),
  λ p end b. inside-head width table p end _ b (λ h o. record { within = (omega arith, b) }),
)
levels-inside width table text (suc left) =
    let (bound_r, bound_p) = levels-inside width table text left in
    let R = expr_at width table text left in
    let P = part_at width table text left in (
      λ p end b. inside-head width table p end _ b λ h o.
          wider p h.end end _ o.end_inside
          (expr-inside text R P bound_r bound_p p h (omega (arith, o.operands_there)) o.operands_inside h.kind),
      λ p end b. inside-head width table p end _ b λ h o.
          wider p h.end end _ o.end_inside
          (part-inside text R P bound_r bound_p p h (omega (arith, o.operands_there)) o.operands_inside h.kind),
    )

-- A table is refused at one of its bytes or at its end.
pub refused-inside : (table text : List ℕ) (r : Reason) (p : ℕ) → read_table table text ≡ refused r p → p ≤ length table
unfolding read_table root_at ◌>>=◌ ◌>>◌ demand
refused-inside table text r p e = short (leb shortest_table (length table) && leb (length table) longest_table) e
  where
    ended : (t : Bool) (x : Expr) (q : ℕ) → q ≤ length table → ◌>>◌ (demand t BytesAfterRoot q) (got x) ≡ refused r p → p ≤ length table
    ended true x q h e = nonsense (cc)
    ended false x q h e = let same : q ≡ p = cc in omega arith

    root : (g : Got (Expr × ℕ)) → Inside 0 (length table) g
        → ◌>>=◌ g (λ (x, q). ◌>>◌ (demand (eqb q (length table)) BytesAfterRoot q) (got x)) ≡ refused r p → p ≤ length table
    root (got a) i e = ended (eqb a.1 (length table)) a.0 a.1 i.within.1 e
    root (refused s q) i e = let same : q ≡ p = cc in omega (arith, i.within.1)

    short : (t : Bool) → ◌>>◌ (demand t TableLength start) (root_at word_bytes table text start) ≡ refused r p → p ≤ length table
    short true e = root (expr_at word_bytes table text deepest_record start (length table))
        ((levels-inside word_bytes table text deepest_record).0 start (length table) (omega arith)) e
    short false e = let same : start ≡ p = cc in omega arith
