-- `==`, `!=`, the order and operators of two operands refine their rules. Rests on Steps, Operands, and the crates rooms and rooms_comparison.
-- Assumes nothing.
use Prim.Native.Nat.{ℕ}
use mathlib.Core.Path.{◌≡◌, refl, sym, ap, ap₂, ◌∙◌, subst}
use mathlib.Core.List.{List}
use Rattle.std.specs.Prelude.{Option, None, Some}
use mathlib.Core.Bool.{Bool, beq}
use Rattle.std.specs.declared.cmp.Ordering.{Ordering}
use Rattle.meaning.specs.Limits.{Counts}
use Rattle.meaning.specs.Errors.{NoOverload, Unordered}
use Rattle.meaning.specs.Value as Meaning
use Rattle.meaning.specs.Value.{Scalar, scalar, list, map, optional_none, optional_of, scalar_of}
use Rattle.meaning.specs.Expr.{Comparison}
use Rattle.meaning.specs.Run.{Eval, Rule, pure, charged, after, on_value, ◌>>=◌, fail, or_fail, operand, truth}
use Rattle.meaning.specs.Comparison.{rank, scalar_order, holds, ordered, compare_values, compare_rule, equal, equal_rule}
use Rattle.meaning.specs.Comprehension as Comprehension
use Rattle.meaning.specs.Meaning.{of_two}
use Rattle.rooms.specs.declared.value.Value.{Value}
use Rattle.rooms.specs.declared.scope.Scope.{Scope}
use Rattle.rooms.specs.Rooms.{Rooms}
use Rattle.rooms.specs.Stands.{Alive, Stands, Holds}
use Rattle.rooms_comparison.specs.Seen.{Seen, seen_scalar, seen_none, seen_other, seen_in}
use Rattle.rooms_comparison.specs.Order.{order_seen, compared_of}
use Rattle.rooms_comparison.proofs.EqualMeaning.{equal-pairs}
use Rattle.machine.specs.declared.outcome.Used.{Used}
use Rattle.machine.specs.Outcomes.{Res, Does, truth_out, with_value}
use Rattle.machine.specs.Comparison.{equal_out, compared_out, compare_out}
use Rattle.machine.specs.Machine.{wants_value, on_left, both}
use Rattle.machine.specs.Refines.{used_of, Start, Refines}
use Rattle.machine.proofs.Match.{Says, raises, error-now}
use Rattle.machine.proofs.Operands.{of-operand, value_of}
use Rattle.machine.proofs.Steps.{pairs-then}
use Rattle.machine.proofs.Logic.{truth-now}
use Rattle.rooms.proofs.Frame.{holds_frame}
use Rattle.rooms_comparison.proofs.SeenMeaning.{scalar-seen}

-- ---- what is seen

abbrev seen_value : Meaning.Value → Seen
seen_value (scalar x) = seen_scalar x
seen_value (list vs) = seen_other
seen_value (map es) = seen_other
seen_value optional_none = seen_none
seen_value (optional_of v) = seen_other

seen-view : (L : Alive) (r : Rooms) (v : Meaning.Value) (m : Value) → Stands v L r m → seen_in r m ≡ seen_value v
unfolding Stands seen_in
seen-view L r (scalar x) m h = scalar-seen L r x m h
seen-view L r (list vs) m h = ap (seen_in r) h.2
seen-view L r (map es) m h = ap (seen_in r) h.2
seen-view L r optional_none m h = ap (seen_in r) h
seen-view L r (optional_of v) m h = ap (seen_in r) h.2

-- two scalars that have an order
abbrev order_option : Option Scalar → Option Scalar → Option (Option Ordering)
order_option None y = None
order_option (Some x) None = None
order_option (Some x) (Some y) = scalar_order (rank x) (rank y)

order-seen : (v w : Meaning.Value) → order_seen (seen_value v) (seen_value w) ≡ order_option (scalar_of v) (scalar_of w)
unfolding scalar_of
order-seen (scalar x) (scalar y) = refl
order-seen (scalar x) (list ws) = refl
order-seen (scalar x) (map es) = refl
order-seen (scalar x) optional_none = refl
order-seen (scalar x) (optional_of w) = refl
order-seen (list vs) w = refl
order-seen (map es) w = refl
order-seen optional_none w = refl
order-seen (optional_of v) w = refl

-- the rule, from the order of the two values
abbrev order_rule : Comparison → Option (Option Ordering) → Rule Meaning.Value
order_rule c None = fail NoOverload
order_rule c (Some o) = ◌>>=◌ (ordered o) (λ x. truth (holds c x))

order-rule : (c : Comparison) (v w : Meaning.Value) → compare_rule c v w ≡ order_rule c (order_option (scalar_of v) (scalar_of w))
unfolding compare_rule compare_values ◌>>=◌ after on_value charged or_fail fail pure
order-rule c v w = go (scalar_of v) (scalar_of w)
  where
    last : (o : Option (Option Ordering)) → ◌>>=◌ (◌>>=◌ (or_fail NoOverload o) ordered) (λ x. truth (holds c x)) ≡ order_rule c o
    last None = refl
    last (Some o) = refl

    go : (a b : Option Scalar) → ◌>>=◌ (◌>>=◌ (or_fail NoOverload a) (λ x. ◌>>=◌ (or_fail NoOverload b) (λ y. ◌>>=◌ (or_fail NoOverload (scalar_order (rank x) (rank y))) ordered))) (λ x. truth (holds c x)) ≡ order_rule c (order_option a b)
    go None b = refl
    go (Some x) None = refl
    go (Some x) (Some y) = last (scalar_order (rank x) (rank y))

module _ (l : Counts) (src : List ℕ) where
  -- ---- comparison of two values

  pub equal-says : {L : Alive} {u : Counts} {r : Rooms} {s : Scope} {t : Comprehension.Scope} → Start l src L u r s t → (p : ℕ) (wanted : Bool) (m n : Value) (v w : Meaning.Value) → Holds v L r m → Holds w L r n → Says l src p L u r (equal_out l.steps wanted m n (used_of u) r, r) (equal_rule wanted v w)
  unfolding equal_rule
  equal-says {L} {u} {r} a p wanted m n v w h k =
      pairs-then l src a p (equal v w) _ (equal-pairs L r l.steps v w m n u.steps h.stands k.stands) (λ b z. truth_out (beq wanted b) z) (λ b. truth (beq wanted b)) (λ c z b. truth-now l src z p (beq wanted b))

  order-end : {L : Alive} {u : Counts} {r : Rooms} {s : Scope} {t : Comprehension.Scope} → Start l src L u r s t → (p : ℕ) (c : Comparison) (o : Option (Option Ordering)) → Says l src p L u r (compared_out c p (used_of u) (compared_of o), r) (order_rule c o)
  unfolding ◌>>=◌ after on_value charged fail pure ordered or_fail
  order-end a p c None = error-now l src a p NoOverload
  order-end a p c (Some (Some o)) = truth-now l src a p (holds c o)
  order-end a p c (Some None) = error-now l src a p Unordered

  pub compare-says : {L : Alive} {u : Counts} {r : Rooms} {s : Scope} {t : Comprehension.Scope} → Start l src L u r s t → (p : ℕ) (c : Comparison) (m n : Value) (v w : Meaning.Value) → Holds v L r m → Holds w L r n → Says l src p L u r (compare_out c p m n (used_of u) r, r) (compare_rule c v w)
  compare-says {L} {u} {r} a p c m n v w h k =
      subst (λ ρ. Says l src p L u r (compare_out c p m n (used_of u) r, r) ρ) (sym (order-rule c v w))
      (subst (λ o. Says l src p L u r (compared_out c p (used_of u) (compared_of o), r) (order_rule c (order_option (scalar_of v) (scalar_of w)))) (sym (ap₂ order_seen (seen-view L r v m h.stands) (seen-view L r w n k.stands) ∙ order-seen v w)) (order-end a p c (order_option (scalar_of v) (scalar_of w))))

  -- ---- two operands that have to be values

  -- after the left operand came to x
  abbrev pub two_does : Does → (Value → Value → Used → Rooms → Res) → Scope → Res → Res
  two_does right op s x = on_left (wants_value x.0) x.0 x.1 (λ w q. with_value (right s w q).0 (right s w q).1 (λ v z d. both x.0 d (λ m. op m v z d)))

  pub two-says : {L : Alive} {u : Counts} {r : Rooms} {s : Scope} {t : Comprehension.Scope} → Start l src L u r s t → (p : ℕ) (left : Does) (f : Comprehension.Scope → Eval Meaning.Value) → Refines l src left f → (right : Does) (g : Comprehension.Scope → Eval Meaning.Value) → Refines l src right g
      → (op : Value → Value → Used → Rooms → Res) (rule : Meaning.Value → Meaning.Value → Rule Meaning.Value)
      → ((M : Alive) (c : Counts) (q : Rooms) → Start l src M c q s t → (m n : Value) (v w : Meaning.Value) → Holds v M q m → Holds w M q n → Says l src p M c q (op m n (used_of c) q) (rule v w))
      → Says l src p L u r (two_does right op s (left s (used_of u) r)) (of_two (f t) (g t) rule)
  unfolding of_two ◌>>=◌ on_value
  two-says {L} {u} {r} {s} {t} a p left f hf right g hg op rule h =
      of-operand l src a p left f hf (two_does right op s) (on_value (λ v. ◌>>=◌ (operand (g t)) (λ w. rule v w)))
      (λ M c q b j m v k. value_of l src b p right g hg (λ n z d. op m n z d) (λ w. rule v w) (λ N e o b' j' n w i. h N e o b' m n v w (holds_frame M N q o j' v m k) i))
      (λ M c q b j e. raises l src b p e)
      (λ x z q. refl)
