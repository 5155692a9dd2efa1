-- The operands of the record at a place, by its form and by its kind; a literal or a name by its kind byte. Assumes nothing.
use Prim.Native.Nat.{ℕ, ◌+◌, ◌≤◌, ◌<◌}
use mathlib.Core.Path.{◌≡◌, refl, sym, ◌∙◌, ap}
use mathlib.Core.Bool.{Bool, true, false}
use mathlib.Core.List.{List, [], ◌∷◌}
use Rattle.std.specs.Prelude.{Option, None, Some}
use native.Mathlib.Omega.{arith}
use lib.Dec.{ltb}
use lib.ListN.{length, get_or}
use types.Run.{OneOf, miss}
use denote.Enum.Declared.{tag_of}
use borrow.Author.Tests.{ltb-true, ltb-false}
use Rattle.meaning.specs.Expr.{Expr, literal, name, unary, binary, conditional, select, list_of, map_of, comprehension, call, none_call, or_value}
use Rattle.meaning.specs.Kinds.{unary_kind, conditional_kind, select_kind, function_kind, Called, to_one, to_none, to_two, numbered, functions}
use Rattle.table_layout.specs.Layout.{head_bytes, after}
use Rattle.table_check.specs.Shapes.{called_count}
use Rattle.table_check.specs.declared.faults.Marks.TheVariants.{Nowhere}
use Rattle.table_check.specs.Records.{expr_of, Sound, Row, call_of}
use Rattle.table_check.proofs.Opened.{opened}
use Rattle.eval_outcomes.specs.declared.operators.Function.{Function}
use Rattle.eval_shapes.specs.declared.next.Fixed.{Fixed}
use Rattle.eval_shapes.specs.declared.Shape.{Shape}
use Rattle.eval_shapes.specs.Shapes.{shape_of}
use Rattle.eval_shapes.specs.contracts.Shape.{the_type}
use Rattle.eval_shapes.specs.Leaves.{leaf_kinds, slot_in}
use Rattle.eval_shapes.proofs.Numbered.{by_number}
use Rattle.eval_shapes.proofs.KindLaws.{sound-stands, kind_in, kind-here, here-is}
use Rattle.eval_shapes.proofs.ShapeLaws.{shape-byte, leaf-shape-here, leaf-byte}
use Rattle.eval_shapes.proofs.SeenOfRecords.{binary-at}
use Rattle.eval_shallow.specs.declared.slots.Sides.{Sides}
use Rattle.eval_shallow.specs.declared.slots.Pair.{Pair}
use Rattle.eval_shallow.specs.Slots.{Operands, neither, one, two, operands_of, sides_seen, SoundSides, called_sides, call_sides, leaf_shape, is_leaf, pair, flat_slots, flat_of, small_of, beside, near_slots, PairBelow, QuadBelow}

-- ---- by the form

abbrev pub sides_with : (t x : List ℕ) (p : ℕ) → Fixed → Operands
sides_with t x p (Fixed.Unary o) = one (expr_of t x (p + 4))
sides_with t x p (Fixed.Binary o) = two (expr_of t x (p + 4)) (expr_of t x (after t (p + 4)))
sides_with t x p Fixed.Conditional = neither
sides_with t x p (Fixed.Select y) = one (expr_of t x (p + 8))
sides_with t x p (Fixed.Call f) = one (expr_of t x (p + 4))
sides_with t x p Fixed.OrValue = neither

-- a record that is of no such form
pub none_beside : (e : Expr) (r : Shape) → r ≡ shape_of e → OneOf (0 ∷ 1 ∷ 2 ∷ 3 ∷ 4 ∷ []) (tag_of the_type r) → neither ≡ operands_of e
none_beside e r i h = by e (rw i at h)
  where
    by : (e : Expr) → OneOf (0 ∷ 1 ∷ 2 ∷ 3 ∷ 4 ∷ []) (tag_of the_type (shape_of e)) → neither ≡ operands_of e
    by (literal p x) h = refl
    by (name p n) h = refl
    by (unary p o e) h = absurd (miss (0 ∷ 1 ∷ 2 ∷ 3 ∷ 4 ∷ []) 5 tt h)
    by (binary p o e f) h = absurd (miss (0 ∷ 1 ∷ 2 ∷ 3 ∷ 4 ∷ []) 5 tt h)
    by (conditional p c e f) h = refl
    by (select p t f e) h = absurd (miss (0 ∷ 1 ∷ 2 ∷ 3 ∷ 4 ∷ []) 5 tt h)
    by (list_of p es) h = refl
    by (map_of p es) h = refl
    by (comprehension p a i r s c t e) h = refl
    by (call p f e) h = absurd (miss (0 ∷ 1 ∷ 2 ∷ 3 ∷ 4 ∷ []) 5 tt h)
    by (none_call p) h = refl
    by (or_value p e f) h = refl

module _ (t x : List ℕ) (p : ℕ) where
  call-one : (f : Function) (c : Option Called) → shape_of (call_of t x p c) ≡ Shape.Operands (Fixed.Call f) → operands_of (call_of t x p c) ≡ one (expr_of t x (p + 4))
  call-one f None e = let z : ◌≡◌ {A = ℕ} 0 1 = cc in absurd (omega arith)
  call-one f (Some (to_one g)) e = refl
  call-one f (Some to_none) e = let z : ◌≡◌ {A = ℕ} 0 1 = cc in absurd (omega arith)
  call-one f (Some to_two) e = let z : ◌≡◌ {A = ℕ} 0 1 = cc in absurd (omega arith)

  call-two : (c : Option Called) → shape_of (call_of t x p c) ≡ Shape.Operands Fixed.OrValue → operands_of (call_of t x p c) ≡ neither
  call-two None e = refl
  call-two (Some (to_one g)) e = let z : ◌≡◌ {A = ℕ} 0 1 = cc in absurd (omega arith)
  call-two (Some to_none) e = refl
  call-two (Some to_two) e = refl

  module _ (s : Sound t x p) where
    called_is : get_or t p 0 ≡ 16 → expr_of t x p ≡ call_of t x p (numbered functions (get_or t (p + 3) 0))
    called_is b = here-is t x p s function_kind b

    pub operands-at : (f : Fixed) → shape_of (expr_of t x p) ≡ Shape.Operands f → operands_of (expr_of t x p) ≡ sides_with t x p f
    operands-at (Fixed.Unary o) e = ap operands_of (here-is t x p s unary_kind (shape-byte t x p s (Shape.Operands (Fixed.Unary o)) e (omega arith)))
    operands-at (Fixed.Binary o) e = ap operands_of (binary-at t x p s (shape-byte t x p s (Shape.Operands (Fixed.Binary o)) e (omega arith))).is
    operands-at Fixed.Conditional e = ap operands_of (here-is t x p s conditional_kind (shape-byte t x p s (Shape.Operands Fixed.Conditional) e (omega arith)))
    operands-at (Fixed.Select y) e = ap operands_of (here-is t x p s select_kind (shape-byte t x p s (Shape.Operands (Fixed.Select y)) e (omega arith)))
    operands-at (Fixed.Call f) e =
        let i = called_is (shape-byte t x p s (Shape.Operands (Fixed.Call f)) e (omega arith)) in
        ap operands_of i ∙ call-one f (numbered functions (get_or t (p + 3) 0)) (rw i at e)
    operands-at Fixed.OrValue e =
        let i = called_is (shape-byte t x p s (Shape.Operands Fixed.OrValue) e (omega arith)) in
        ap operands_of i ∙ call-two (numbered functions (get_or t (p + 3) 0)) (rw i at e)

-- ---- by the kind, as the code finds them

abbrev NoCall : ℕ → Option Called → Type 0
NoCall n c = (q : ℕ) → (n ≡ 1 → ⊥) → (n ≡ 2 → ⊥) → (n ≡ 4 → ⊥) → (n ≡ 5 → ⊥) → Sides.Neither ≡ called_sides c q

-- a number that is no function's of one argument
pub no_call : (n : ℕ) → NoCall n (numbered functions n)
unfolding functions
no_call =
    by_number NoCall functions (λ n q a b c d. refl) (
      λ q a b c d. absurd (a refl),
      (λ q a b c d. absurd (b refl), (λ q a b c d. refl, (λ q a b c d. absurd (c refl), (λ q a b c d. absurd (d refl), (λ q a b c d. refl, tt))))),
    )

no_sides : (e : Expr) → (kind_in e ≡ 8 → ⊥) → (kind_in e ≡ 9 → ⊥) → (kind_in e ≡ 11 → ⊥) → (kind_in e ≡ 16 → ⊥) → neither ≡ operands_of e
no_sides (literal p x) a b c d = refl
no_sides (name p n) a b c d = refl
no_sides (unary p o e) a b c d = absurd (a refl)
no_sides (binary p o e f) a b c d = absurd (b refl)
no_sides (conditional p g e f) a b c d = refl
no_sides (select p y f e) a b c d = absurd (c refl)
no_sides (list_of p es) a b c d = refl
no_sides (map_of p es) a b c d = refl
no_sides (comprehension p m i r s g y e) a b c d = refl
no_sides (call p f e) a b c d = absurd (d refl)
no_sides (none_call p) a b c d = absurd (d refl)
no_sides (or_value p e f) a b c d = absurd (d refl)

module _ (t x : List ℕ) (p : ℕ) where
  abbrev pub SidesIn : Expr → Sides → Type 0
  SidesIn e r = (sides_seen t x r ≡ operands_of e) × SoundSides t x r

  called-sides : (c : Option Called) → Row t x Nowhere (after t p) (called_count c) (p + 4) → SidesIn (call_of t x p c) (called_sides c (p + 4))
  called-sides None r = (refl, tt)
  called-sides (Some (to_one f)) r = (refl, r.0)
  called-sides (Some to_none) r = (refl, tt)
  called-sides (Some to_two) r = (refl, tt)

  module _ (s : Sound t x p) where
    pub neither-here : (get_or t p 0 ≡ 8 → ⊥) → (get_or t p 0 ≡ 9 → ⊥) → (get_or t p 0 ≡ 11 → ⊥) → (get_or t p 0 ≡ 16 → ⊥) → SidesIn (expr_of t x p) Sides.Neither
    neither-here a b c d =
        let k = kind-here t x p s in (
          no_sides (expr_of t x p) (k.other 8 (omega arith) a) (k.other 9 (omega arith) b) (k.other 11 (omega arith) c) (k.other 16 (omega arith) d),
          tt,
        )

    -- with what `first_operand` says
    module _ {q : ℕ} (i : q ≡ p + head_bytes (get_or t p 0)) where
      pub unary-side : get_or t p 0 ≡ 8 → SidesIn (expr_of t x p) (Sides.One q)
      unary-side b = let o = opened t x p unary_kind b s in rw (i ∙ o.first, o.is) (refl, o.row.0)

      pub select-side : get_or t p 0 ≡ 11 → SidesIn (expr_of t x p) (Sides.One q)
      select-side b = let o = opened t x p select_kind b s in rw (i ∙ o.first, o.is) (refl, o.row.0)

      pub call-side : get_or t p 0 ≡ 16 → {n : ℕ} → n ≡ get_or t (p + 3) 0 → {r : Sides} → r ≡ call_sides n q → SidesIn (expr_of t x p) r
      call-side b j k =
          let o = opened t x p function_kind b s in
          rw (k, j, i ∙ o.first, o.is) (called-sides (numbered functions (get_or t (p + 3) 0)) o.row)

      module _ (b : get_or t p 0 ≡ 9) where
        pub first-start : q + 3 ≤ length t
        first-start = let o = binary-at t x p s b in rw (i ∙ o.first) (sound-stands t x (p + 4) o.one).start

        pub binary-sides : {n : ℕ} → n ≡ after t q → SidesIn (expr_of t x p) (Sides.Two q n)
        binary-sides j = let o = binary-at t x p s b in rw (j, i ∙ o.first, o.is) (refl, (o.one, o.two))

-- ---- literals and names

no-leaf : (r : Shape) → (r ≡ Shape.Leaf → ⊥) → false ≡ leaf_shape r
no-leaf Shape.Leaf h = absurd (h refl)
no-leaf Shape.List h = refl
no-leaf Shape.Map h = refl
no-leaf Shape.Comprehension h = refl
no-leaf Shape.None h = refl
no-leaf (Shape.Operands f) h = refl

only-leaf : (r : Shape) → leaf_shape r ≡ true → r ≡ Shape.Leaf
only-leaf Shape.Leaf h = refl
only-leaf Shape.List h = let z : ◌≡◌ {A = ℕ} 0 1 = cc in absurd (omega arith)
only-leaf Shape.Map h = let z : ◌≡◌ {A = ℕ} 0 1 = cc in absurd (omega arith)
only-leaf Shape.Comprehension h = let z : ◌≡◌ {A = ℕ} 0 1 = cc in absurd (omega arith)
only-leaf Shape.None h = let z : ◌≡◌ {A = ℕ} 0 1 = cc in absurd (omega arith)
only-leaf (Shape.Operands f) h = let z : ◌≡◌ {A = ℕ} 0 1 = cc in absurd (omega arith)

module _ (t x : List ℕ) (p : ℕ) (s : Sound t x p) where
  pub leaf-kind : is_leaf (expr_of t x p) ≡ true → get_or t p 0 < leaf_kinds
  leaf-kind h = leaf-byte t x p s (only-leaf (shape_of (expr_of t x p)) h)

  leaf-by : (b : Bool) → ltb (get_or t p 0) leaf_kinds ≡ b → b ≡ is_leaf (expr_of t x p)
  leaf-by true h = ap leaf_shape (leaf-shape-here t x p s (ltb-true (get_or t p 0) leaf_kinds h))
  leaf-by false h = no-leaf (shape_of (expr_of t x p)) (λ e. omega (arith, ltb-false (get_or t p 0) leaf_kinds h, leaf-byte t x p s e))

  -- what `is_leaf` says
  pub leaf-seen : {b : Bool} → b ≡ ltb (get_or t p 0) leaf_kinds → b ≡ is_leaf (expr_of t x p)
  leaf-seen {b} h = leaf-by b (sym h)

-- ---- the slots, as the code finds them

module _ (e : Expr) where
  pub small-leaf : {b : Bool} → b ≡ is_leaf e → b ≡ true → {n : ℕ} → n ≡ slot_in e → Some (pair n 0) ≡ small_of e
  small-leaf h i j = rw (sym h ∙ i, j)

  pub small-flat : {b : Bool} → b ≡ is_leaf e → b ≡ false → {m : Option (Pair ℕ)} → m ≡ flat_of e → m ≡ small_of e
  small-flat h i j = rw (sym h ∙ i) j

module _ (t x : List ℕ) {r : Sides} {m : Operands} (i : sides_seen t x r ≡ m) (h : SoundSides t x r) where
  -- a record without operands of that form
  pub none-flat : r ≡ Sides.Neither → None ≡ flat_slots m
  none-flat j = rw (sym i, j)

  module _ {p : ℕ} (j : r ≡ Sides.One p) where
    pub one-sound : Sound t x p
    one-sound = rw j at h

    pub one-far : {b : Bool} → b ≡ ltb (get_or t p 0) leaf_kinds → b ≡ false → None ≡ flat_slots m
    one-far k l = rw (sym i, j, sym (leaf-seen t x p one-sound k) ∙ l)

    pub one-flat : {b : Bool} → b ≡ ltb (get_or t p 0) leaf_kinds → b ≡ true → {n : ℕ} → n ≡ slot_in (expr_of t x p) → Some (pair n 0) ≡ flat_slots m
    one-flat k l g = rw (sym i, j, sym (leaf-seen t x p one-sound k) ∙ l, g)

  module _ {p q : ℕ} (j : r ≡ Sides.Two p q) where
    pub two-sound : Sound t x p × Sound t x q
    two-sound = rw j at h

    pub two-far : {b : Bool} → b ≡ ltb (get_or t p 0) leaf_kinds → b ≡ false → None ≡ flat_slots m
    two-far k l = rw (sym i, j, sym (leaf-seen t x p two-sound.0 k) ∙ l)

    module _ {b : Bool} (k : b ≡ ltb (get_or t p 0) leaf_kinds) (l : b ≡ true) {c : Bool} (k' : c ≡ ltb (get_or t q 0) leaf_kinds) where
      pub second-far : c ≡ false → None ≡ flat_slots m
      second-far l' = rw (sym i, j, sym (leaf-seen t x p two-sound.0 k) ∙ l, sym (leaf-seen t x q two-sound.1 k') ∙ l')

      pub two-flat : c ≡ true → {n o : ℕ} → n ≡ slot_in (expr_of t x p) → o ≡ slot_in (expr_of t x q) → Some (pair n o) ≡ flat_slots m
      two-flat l' g g' =
          rw (sym i, j, sym (leaf-seen t x p two-sound.0 k) ∙ l, sym (leaf-seen t x q two-sound.1 k') ∙ l', g, g')

-- ---- two pairs of slots

module _ {m n : Option (Pair ℕ)} {a b : Pair ℕ} (i : m ≡ Some a) (j : n ≡ Some b) where
  pub both-slots : PairBelow m → PairBelow n → (Some (record { first = a; second = b }) ≡ beside m n) × QuadBelow (Some (record { first = a; second = b }))
  both-slots h k =
      let h' = rw i at h in
      let k' = rw j at k in
      (rw (i, j), (h', k'))

module _ (t x : List ℕ) {r : Sides} {m : Operands} (i : sides_seen t x r ≡ m) (h : SoundSides t x r) where
  pub none-near : r ≡ Sides.Neither → None ≡ near_slots m
  none-near j = rw (sym i, j)

  pub one-near : {p : ℕ} → r ≡ Sides.One p → {a : Option (Pair ℕ)} → a ≡ small_of (expr_of t x p) → {z : Option (Pair (Pair ℕ))} → z ≡ beside a (Some (pair 0 0)) → z ≡ near_slots m
  one-near j k l = rw (sym i, j, l, k)

  pub two-near : {p q : ℕ} → r ≡ Sides.Two p q → {a b : Option (Pair ℕ)} → a ≡ small_of (expr_of t x p) → b ≡ small_of (expr_of t x q) → {z : Option (Pair (Pair ℕ))} → z ≡ beside a b → z ≡ near_slots m
  two-near j k k' l = rw (sym i, j, l, k, k')
