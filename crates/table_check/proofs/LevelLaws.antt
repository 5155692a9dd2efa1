-- What is read with fewer levels left, or inside a shorter parent, is read with more. Assumes nothing.
use mathlib.Core.Path.{◌≡◌, refl, sym, ◌∙◌}
use mathlib.Core.List.{List}
use Prim.Native.Nat.{ℕ, zero, suc, ◌≤◌}
use native.Mathlib.Omega.{arith}
use Rattle.meaning.specs.declared.refusal.Reason.{Reason}
use Rattle.meaning.specs.declared.refusal.Reason.TheVariants.{RecordNesting}
use Rattle.meaning.specs.Expr.{Expr}
use Rattle.meaning.specs.Kinds.{ExprKind, null_kind, bool_kind, int_kind, uint_kind, double_kind, string_kind, bytes_kind, name_kind, unary_kind, binary_kind, conditional_kind, select_kind, list_kind, map_kind, comprehension_kind, function_kind, Kind, mark, expr, Called, to_one, to_none, to_two}
use Rattle.meaning.specs.Heads.{Got, got, refused, ◌>>=◌, ◌>>◌, Head, head_at}
use Rattle.meaning.specs.Table.{Part, Reader, elements_from, pairs_from, called_at, body_at, as_expr, as_part, expr_at, part_at, word_bytes}
use Rattle.table_check.proofs.HeadLaws.{HeadView, good, bad, head-view, longer}

-- what the first gives, the second gives
abbrev Under : {A : Type 0} → Got A → Got A → Type 0
Under {A} g h = (a : A) → g ≡ got a → h ≡ got a

same : {A : Type 0} (g : Got A) → Under g g
same g a e = e

bind-more : {A B : Type 0} (g h : Got A) (k l : A → Got B) → Under g h → ((a : A) → Under (k a) (l a)) → Under (◌>>=◌ g k) (◌>>=◌ h l)
unfolding ◌>>=◌
bind-more (got a) h k l f m b e = rw (f a refl) (m a b e)
bind-more (refused r p) h k l f m b e = let z : ◌≡◌ {A = ℕ} 0 1 = cc in absurd (omega arith)

module _ (text : List ℕ) (e f : Reader Expr) (a b : Reader Part) (exprs : (q end : ℕ) → Under (e q end) (f q end))
    (parts : (q end : ℕ) → Under (a q end) (b q end)) where
  elements-more : (n q end : ℕ) → Under (elements_from a n q end) (elements_from b n q end)
  unfolding elements_from
  elements-more zero q end = same _
  elements-more (suc n) q end = bind-more _ _ _ _ (parts q end) (λ x. bind-more _ _ _ _ (elements-more n x.1 end) (λ y. same _))

  pairs-more : (n q end : ℕ) → Under (pairs_from e a n q end) (pairs_from f b n q end)
  unfolding pairs_from
  pairs-more zero q end = same _
  pairs-more (suc n) q end =
      bind-more _ _ _ _ (exprs q end) (λ k. bind-more _ _ _ _ (parts k.1 end) (λ x. bind-more _ _ _ _ (pairs-more n x.1 end) (λ y. same _)))

  module _ (p : ℕ) (h : Head) where
    called_more : (c : Called) → Under (called_at text e a p h c) (called_at text f b p h c)
    unfolding called_at
    called_more (to_one g) = bind-more _ _ _ _ (exprs _ _) (λ x. same _)
    called_more to_none = same _
    called_more to_two = bind-more _ _ _ _ (exprs _ _) (λ x. bind-more _ _ _ _ (exprs _ _) (λ y. same _))

    body_more : (k : ExprKind) (ns : List ℕ) → Under (body_at text e a p h k ns) (body_at text f b p h k ns)
    unfolding body_at
    body_more null_kind ns = same _
    body_more bool_kind ns = same _
    body_more int_kind ns = same _
    body_more uint_kind ns = same _
    body_more double_kind ns = same _
    body_more string_kind ns = same _
    body_more bytes_kind ns = same _
    body_more name_kind ns = same _
    body_more unary_kind ns = bind-more _ _ _ _ (same _) (λ o. bind-more _ _ _ _ (exprs _ _) (λ x. same _))
    body_more binary_kind ns = bind-more _ _ _ _ (same _) (λ o. bind-more _ _ _ _ (exprs _ _) (λ x. bind-more _ _ _ _ (exprs _ _) (λ y. same _)))
    body_more conditional_kind ns = bind-more _ _ _ _ (exprs _ _) (λ x. bind-more _ _ _ _ (exprs _ _) (λ y. bind-more _ _ _ _ (exprs _ _) (λ z. same _)))
    body_more select_kind ns = bind-more _ _ _ _ (same _) (λ o. bind-more _ _ _ _ (same _) (λ s. bind-more _ _ _ _ (exprs _ _) (λ x. same _)))
    body_more list_kind ns = bind-more _ _ _ _ (elements-more _ _ _) (λ x. same _)
    body_more map_kind ns = bind-more _ _ _ _ (pairs-more _ _ _) (λ x. same _)
    body_more comprehension_kind ns =
        bind-more _ _ _ _ (same _)
        (λ m. bind-more _ _ _ _ (same _)
        (λ n. bind-more _ _ _ _ (exprs _ _)
        (λ v. bind-more _ _ _ _ (exprs _ _)
        (λ w. bind-more _ _ _ _ (exprs _ _) (λ x. bind-more _ _ _ _ (exprs _ _) (λ y. bind-more _ _ _ _ (exprs _ _) (λ z. same _)))))))
    body_more function_kind ns = bind-more _ _ _ _ (same _) (λ c. called_more c)

    expr-more : (k : Kind) → Under (as_expr text e a p h k) (as_expr text f b p h k)
    unfolding as_expr
    expr-more mark = same _
    expr-more (expr k) = body_more k h.numbers

    part-more : (k : Kind) → Under (as_part text e a p h k) (as_part text f b p h k)
    unfolding as_part
    part-more mark = bind-more _ _ _ _ (exprs _ _) (λ x. same _)
    part-more (expr k) = bind-more _ _ _ _ (body_more k h.numbers) (λ x. same _)

head_more : (t : List ℕ) (p end more : ℕ) → end ≤ more → Under (head_at word_bytes t p end) (head_at word_bytes t p more)
head_more t p end more le = by (head-view t p end)
  where
    by : HeadView t p end → Under (head_at word_bytes t p end) (head_at word_bytes t p more)
    by (good h) a e = (longer t p more h le).is ∙ sym h.is ∙ e
    by (bad r f) a e = let z : ◌≡◌ {A = ℕ} 0 1 = cc in absurd (omega arith)

never : {A B : Type 0} (g : Got A) (r : Reason) (p : ℕ) {b : B} → ◌>>◌ g (refused r p) ≡ got b → ⊥
unfolding ◌>>◌ ◌>>=◌
never (got a) r p e = let z : ◌≡◌ {A = ℕ} 0 1 = cc in omega arith
never (refused s q) r p e = let z : ◌≡◌ {A = ℕ} 0 1 = cc in omega arith

-- with one level more, inside a parent that ends no earlier
module _ (t x : List ℕ) where
  mutual
    unfolding expr_at part_at

    pub expr-deeper : (left p end more : ℕ) → end ≤ more → Under (expr_at word_bytes t x left p end) (expr_at word_bytes t x (suc left) p more)
    expr-deeper zero p end more le a e = absurd (never (head_at word_bytes t p end) RecordNesting p e)
    expr-deeper (suc left) p end more le a e =
        bind-more _ _ _ _ (head_more t p end more le)
        (λ h. expr-more x _ _ _ _ (λ q r b f. expr-deeper left q r r (omega arith) b f) (λ q r b f. part-deeper left q r r (omega arith) b f) p h h.kind) a
        e

    pub part-deeper : (left p end more : ℕ) → end ≤ more → Under (part_at word_bytes t x left p end) (part_at word_bytes t x (suc left) p more)
    part-deeper zero p end more le a e = absurd (never (head_at word_bytes t p end) RecordNesting p e)
    part-deeper (suc left) p end more le a e =
        bind-more _ _ _ _ (head_more t p end more le)
        (λ h. part-more x _ _ _ _ (λ q r b f. expr-deeper left q r r (omega arith) b f) (λ q r b f. part-deeper left q r r (omega arith) b f) p h h.kind) a
        e
