-- The kind of a record and the expression that it spells. A law on expressions of one kind, or of all kinds but one, is stated over
-- expressions alone, and `kind-here` brings it to a place. Assumes nothing.
use Prim.Native.Nat.{ℕ, ◌+◌, ◌≤◌, ◌<◌}
use mathlib.Core.Path.{◌≡◌, refl, sym, ◌∙◌, ap}
use mathlib.Core.List.{List}
use Rattle.std.specs.Prelude.{Option, None, Some}
use native.Mathlib.Omega.{arith}
use lib.ListN.{length, get_or}
use Rattle.meaning.specs.Expr.{Expr, literal, name, unary, binary, conditional, select, list_of, map_of, comprehension, call, none_call, or_value}
use Rattle.meaning.specs.Kinds.{ExprKind, null_kind, bool_kind, int_kind, uint_kind, double_kind, string_kind, bytes_kind, name_kind, unary_kind, binary_kind, conditional_kind, select_kind, list_kind, map_kind, comprehension_kind, function_kind, Called, to_one, to_none, to_two, numbered, functions}
use Rattle.table_layout.proofs.KindLaws.{head-table}
use Rattle.table_check.specs.Records.{expr_of, Sound, SoundPart, kind_byte, call_of, node}
use Rattle.table_check.proofs.HeadLaws.{Here}
use Rattle.table_check.proofs.AcceptedRecordLaws.{sound-here, part-here}
use Rattle.table_check.proofs.Opened.{opened}
use Rattle.table_check.proofs.Parts.{sound-kind}

-- ---- the place of an accepted record

pub record Standing (t : List ℕ) (q : ℕ) : Type 0 where
  pub here : q < length t
  pub known : get_or t q 0 < 17
  -- its extent is there
  pub start : q + 3 ≤ length t

of-here : (t : List ℕ) (q : ℕ) → Here t q (length t) → Standing t q
of-here t q h =
    let f = head-table (get_or t q 0) h.known in
    record { here = omega (arith, f.0, f.1, h.room); known = h.known; start = omega (arith, f.0, f.1, h.room) }

pub sound-stands : (t x : List ℕ) (q : ℕ) → Sound t x q → Standing t q
sound-stands t x q s = of-here t q (sound-here t x q s)

pub part-stands : (t x : List ℕ) (q : ℕ) → SoundPart t x q → Standing t q
part-stands t x q s = of-here t q (part-here t x q s)

-- ---- its kind

-- of literals 0 stands for all kinds
abbrev pub kind_in : Expr → ℕ
kind_in (literal p x) = 0
kind_in (name p n) = 7
kind_in (unary p o e) = 8
kind_in (binary p o e f) = 9
kind_in (conditional p c e f) = 10
kind_in (select p t f e) = 11
kind_in (list_of p es) = 12
kind_in (map_of p es) = 13
kind_in (comprehension p a i r s c t e) = 15
kind_in (call p f e) = 16
kind_in (none_call p) = 16
kind_in (or_value p e f) = 16

-- an expression, and the kind byte of the record that spells it
pub record KindOf (e : Expr) (n : ℕ) : Type 0 where
  pub low : n < 7 → kind_in e ≡ 0
  pub high : 7 ≤ n → kind_in e ≡ n
  pub leaf : n < 8 → kind_in e < 8
  pub below : kind_in e < 8 → n < 8
  pub known : (m : ℕ) → 7 ≤ m → kind_in e ≡ m → n ≡ m
  pub other : (m : ℕ) → 7 ≤ m → (n ≡ m → ⊥) → kind_in e ≡ m → ⊥

of-literal : (e : Expr) {n : ℕ} → n < 7 → kind_in e ≡ 0 → KindOf e n
of-literal e h i = record { low = λ l. i; high = λ l. absurd (omega (arith, h, l)); leaf = λ l. omega (arith, i); below = λ l. omega (arith, h); known = λ m l g. absurd (omega (arith, i, l, g)); other = λ m l f g. omega (arith, i, l, g) }

of_other : (e : Expr) {n k : ℕ} → n ≡ k → 7 ≤ k → kind_in e ≡ k → KindOf e n
of_other e b h i =
    record { low = λ l. absurd (omega (arith, b, h, l)); high = λ l. i ∙ sym b; leaf = λ l. omega (arith, b, i, l); below = λ l. omega (arith, b, i, l); known = λ m l g. b ∙ (sym i ∙ g); other = λ m l f g. f (b ∙ (sym i ∙ g)) }

module _ (t x : List ℕ) (p : ℕ) (s : Sound t x p) where
  pub here-is : (k : ExprKind) → get_or t p 0 ≡ kind_byte k → expr_of t x p ≡ node t x p k
  here-is k b = (opened t x p k b s).is

  call-kind : (c : Option Called) → kind_in (call_of t x p c) ≡ 16
  call-kind None = refl
  call-kind (Some (to_one f)) = refl
  call-kind (Some to_none) = refl
  call-kind (Some to_two) = refl

  of-literal-kind : (k : ExprKind) → get_or t p 0 ≡ kind_byte k → get_or t p 0 < 7 → kind_in (node t x p k) ≡ 0 → KindOf (expr_of t x p) (get_or t p 0)
  of-literal-kind k b h i = of-literal (expr_of t x p) h (ap kind_in (here-is k b) ∙ i)

  of-kind : (k : ExprKind) → get_or t p 0 ≡ kind_byte k → 7 ≤ kind_byte k → kind_in (node t x p k) ≡ kind_byte k → KindOf (expr_of t x p) (get_or t p 0)
  of-kind k b h i = of_other (expr_of t x p) b h (ap kind_in (here-is k b) ∙ i)

  by_kind : (k : ExprKind) → get_or t p 0 ≡ kind_byte k → KindOf (expr_of t x p) (get_or t p 0)
  by_kind null_kind b = of-literal-kind null_kind b (omega (arith, b)) refl
  by_kind bool_kind b = of-literal-kind bool_kind b (omega (arith, b)) refl
  by_kind int_kind b = of-literal-kind int_kind b (omega (arith, b)) refl
  by_kind uint_kind b = of-literal-kind uint_kind b (omega (arith, b)) refl
  by_kind double_kind b = of-literal-kind double_kind b (omega (arith, b)) refl
  by_kind string_kind b = of-literal-kind string_kind b (omega (arith, b)) refl
  by_kind bytes_kind b = of-literal-kind bytes_kind b (omega (arith, b)) refl
  by_kind name_kind b = of-kind name_kind b (omega arith) refl
  by_kind unary_kind b = of-kind unary_kind b (omega arith) refl
  by_kind binary_kind b = of-kind binary_kind b (omega arith) refl
  by_kind conditional_kind b = of-kind conditional_kind b (omega arith) refl
  by_kind select_kind b = of-kind select_kind b (omega arith) refl
  by_kind list_kind b = of-kind list_kind b (omega arith) refl
  by_kind map_kind b = of-kind map_kind b (omega arith) refl
  by_kind comprehension_kind b = of-kind comprehension_kind b (omega arith) refl
  by_kind function_kind b = of-kind function_kind b (omega arith) (call-kind (numbered functions (get_or t (p + 3) 0)))

  pub kind-here : KindOf (expr_of t x p) (get_or t p 0)
  kind-here = let k = sound-kind t x p s in by_kind k.0 k.1

  leaf-by : (k : ExprKind) → get_or t p 0 ≡ kind_byte k → (get_or t p 0 ≡ 8 → ⊥) → (get_or t p 0 ≡ 9 → ⊥) → (get_or t p 0 ≡ 10 → ⊥) → (get_or t p 0 ≡ 11 → ⊥) →
      (get_or t p 0 ≡ 12 → ⊥) → (get_or t p 0 ≡ 13 → ⊥) → (get_or t p 0 ≡ 15 → ⊥) → (get_or t p 0 ≡ 16 → ⊥) → get_or t p 0 < 8
  leaf-by null_kind b a1 a2 a3 a4 a5 a6 a7 a8 = omega (arith, b)
  leaf-by bool_kind b a1 a2 a3 a4 a5 a6 a7 a8 = omega (arith, b)
  leaf-by int_kind b a1 a2 a3 a4 a5 a6 a7 a8 = omega (arith, b)
  leaf-by uint_kind b a1 a2 a3 a4 a5 a6 a7 a8 = omega (arith, b)
  leaf-by double_kind b a1 a2 a3 a4 a5 a6 a7 a8 = omega (arith, b)
  leaf-by string_kind b a1 a2 a3 a4 a5 a6 a7 a8 = omega (arith, b)
  leaf-by bytes_kind b a1 a2 a3 a4 a5 a6 a7 a8 = omega (arith, b)
  leaf-by name_kind b a1 a2 a3 a4 a5 a6 a7 a8 = omega (arith, b)
  leaf-by unary_kind b a1 a2 a3 a4 a5 a6 a7 a8 = absurd (a1 b)
  leaf-by binary_kind b a1 a2 a3 a4 a5 a6 a7 a8 = absurd (a2 b)
  leaf-by conditional_kind b a1 a2 a3 a4 a5 a6 a7 a8 = absurd (a3 b)
  leaf-by select_kind b a1 a2 a3 a4 a5 a6 a7 a8 = absurd (a4 b)
  leaf-by list_kind b a1 a2 a3 a4 a5 a6 a7 a8 = absurd (a5 b)
  leaf-by map_kind b a1 a2 a3 a4 a5 a6 a7 a8 = absurd (a6 b)
  leaf-by comprehension_kind b a1 a2 a3 a4 a5 a6 a7 a8 = absurd (a7 b)
  leaf-by function_kind b a1 a2 a3 a4 a5 a6 a7 a8 = absurd (a8 b)

  -- of none of the kinds that have operands
  pub leaf-here : (get_or t p 0 ≡ 8 → ⊥) → (get_or t p 0 ≡ 9 → ⊥) → (get_or t p 0 ≡ 10 → ⊥) → (get_or t p 0 ≡ 11 → ⊥) → (get_or t p 0 ≡ 12 → ⊥) →
      (get_or t p 0 ≡ 13 → ⊥) → (get_or t p 0 ≡ 15 → ⊥) → (get_or t p 0 ≡ 16 → ⊥) → get_or t p 0 < 8
  leaf-here = let k = sound-kind t x p s in leaf-by k.0 k.1
