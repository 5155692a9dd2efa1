-- size and the functions on Optionals refine their rules. Rests on Selecting, Building, Numbers. Assumes nothing.
use Prim.Native.Nat.{ℕ, ◌^◌, ◌<◌}
use mathlib.Core.Path.{◌≡◌, refl, sym, subst}
use mathlib.Core.List.{List}
use mathlib.Core.Bool.{true, false}
use native.Mathlib.Omega.{arith}
use lib.IntN.{pos}
use lib.ListN.{length}
use Rattle.numbers.specs.declared.double.Double.{Double}
use Rattle.numbers.specs.declared.double.Double.TheVariants as Bits
use Rattle.text.specs.Utf8.{code_points}
use Rattle.text.proofs.Utf8Laws.{code-points-length}
use Rattle.meaning.specs.Limits.{Counts}
use Rattle.meaning.specs.Errors.{NoOverload, FunctionError}
use Rattle.meaning.specs.Value as Meaning
use Rattle.meaning.specs.Value.{null, bool, int, uint, double, string, bytes, scalar, list, map, optional_none, optional_of, count, count_entries}
use Rattle.meaning.specs.Expr.{Function, size_call, of_call, has_value_call, value_call}
use Rattle.meaning.specs.Run.{Eval, pure, fail, truth}
use Rattle.meaning.specs.Optionals.{Unwrapped, NotOptional, PresentOptional, NoneOptional, unwrap_optional, has_value_rule, value_rule, or_value_rule}
use Rattle.meaning.specs.Calls.{counted, scalar_size, size_rule, call_rule, or_value_call}
use Rattle.meaning.specs.Comprehension as Comprehension
use Rattle.rooms.specs.declared.value.Value.{Value}
use Rattle.std.specs.Prelude.{None, Some}
use Rattle.rooms.specs.declared.scope.Scope.{Scope}
use Rattle.rooms.specs.Value.{double_value}
use Rattle.rooms.specs.Rooms.{Rooms, cell_at}
use Rattle.rooms.specs.Stands.{Alive, StandsScalar, Stands, Holds}
use Rattle.rooms_text.specs.Sizes.{size_of}
use Rattle.machine.specs.Outcomes.{Does}
use Rattle.machine.specs.Views.{optional_in}
use Rattle.machine.specs.Calls.{size_out, has_value_out, value_out, or_value_out, called}
use Rattle.machine.specs.Machine.{or_value_does}
use Rattle.machine.specs.Refines.{used_of, Start, Refines}
use Rattle.machine.proofs.Match.{Says, value-now, error-now}
use Rattle.machine.proofs.Operands.{value_of}
use Rattle.machine.proofs.Logic.{truth-now}
use Rattle.machine.proofs.Building.{present-says}
use Rattle.machine.proofs.Numbers.{held-int}
use Rattle.machine.proofs.Selecting.{UnwrapView, unwrap-view}
use Rattle.rooms.specs.Cells.{Fits}
use Rattle.rooms.proofs.Frame.{holds_frame}

double-size : (r : Rooms) (x : Double) → size_of r (double_value x) ≡ None
double-size r (Bits.Plain x) = refl
double-size r (Bits.Nan c) = refl

module _ (l : Counts) (src : List ℕ) {L : Alive} {u : Counts} {r : Rooms} {s : Scope} {t : Comprehension.Scope} (st : Start l src L u r s t) (p : ℕ) where
  -- ---- size

  counts : (n : ℕ) → n < 2 ^ 16 → Says l src p L u r (size_out p (used_of u) (Some n), r) (counted n)
  unfolding counted
  counts n h = value-now l src st p (Value.Int (pos n)) (scalar (int (pos n))) (held-int L r (pos n) (omega arith))

  abbrev Sizes : Value → Meaning.Value → Type 0
  Sizes m v = Says l src p L u r (size_out p (used_of u) (size_of r m), r) (size_rule v)

  size-says : (v : Meaning.Value) (m : Value) → Holds v L r m → Sizes m v
  unfolding size_rule scalar_size Stands StandsScalar
  size-says (scalar null) m h = subst (λ x. Sizes x (scalar null)) (sym h.stands) (error-now l src st p NoOverload)
  size-says (scalar (bool b)) m h = subst (λ x. Sizes x (scalar (bool b))) (sym h.stands) (error-now l src st p NoOverload)
  size-says (scalar (int z)) m h = subst (λ x. Sizes x (scalar (int z))) (sym h.stands) (error-now l src st p NoOverload)
  size-says (scalar (uint n)) m h = subst (λ x. Sizes x (scalar (uint n))) (sym h.stands) (error-now l src st p NoOverload)
  size-says (scalar (double d)) m h = subst (λ x. Sizes x (scalar (double d))) (sym h.stands.1) (subst (λ z. Says l src p L u r (size_out p (used_of u) z, r) (fail NoOverload)) (sym (double-size r h.stands.0)) (error-now l src st p NoOverload))
  size-says (scalar (string x)) m h =
      subst (λ y. Sizes y (scalar (string x))) (sym h.stands.2)
      (subst (λ y. Says l src p L u r (size_out p (used_of u) (Some (code_points y)), r) (counted (code_points x))) (sym h.stands.3.spells)
      (counts (code_points x) (omega (arith, code-points-length x, (subst Fits h.stands.2 h.fits).1))))
  size-says (scalar (bytes x)) m h = subst (λ y. Sizes y (scalar (bytes x))) (sym h.stands.2) (counts (length x) (subst Fits h.stands.2 h.fits).1)
  size-says (list vs) m h = subst (λ x. Sizes x (list vs)) (sym h.stands.2) (counts (count vs) (subst Fits h.stands.2 h.fits).2)
  size-says (map es) m h = subst (λ x. Sizes x (map es)) (sym h.stands.2) (counts (count_entries es) (subst Fits h.stands.2 h.fits).2)
  size-says optional_none m h = subst (λ x. Sizes x optional_none) (sym h.stands) (error-now l src st p NoOverload)
  size-says (optional_of v) m h = subst (λ x. Sizes x (optional_of v)) (sym h.stands.2) (error-now l src st p NoOverload)

  -- ---- Optionals

  has_value : (o : Unwrapped) (m : Value) → UnwrapView l src L r o m → Says l src p L u r (has_value_out p (used_of u) (optional_in m), r) (has_value_rule o)
  unfolding has_value_rule
  has_value (NotOptional v) m h = subst (λ y. Says l src p L u r (has_value_out p (used_of u) y, r) (fail NoOverload)) (sym h.0) (error-now l src st p NoOverload)
  has_value (PresentOptional v) m h = subst (λ y. Says l src p L u r (has_value_out p (used_of u) y, r) (truth true)) (sym h.2) (truth-now l src st p true)
  has_value NoneOptional m h = subst (λ y. Says l src p L u r (has_value_out p (used_of u) (optional_in y), r) (truth false)) (sym h) (truth-now l src st p false)

  value_in : (o : Unwrapped) (m : Value) → UnwrapView l src L r o m → Says l src p L u r (value_out p (used_of u) r (optional_in m), r) (value_rule o)
  unfolding value_rule
  value_in (NotOptional v) m h = subst (λ y. Says l src p L u r (value_out p (used_of u) r y, r) (fail NoOverload)) (sym h.0) (error-now l src st p NoOverload)
  value_in (PresentOptional v) m h = subst (λ y. Says l src p L u r (value_out p (used_of u) r y, r) (pure v)) (sym h.2) (value-now l src st p (cell_at r h.0 h.1) v h.3)
  value_in NoneOptional m h = subst (λ y. Says l src p L u r (value_out p (used_of u) r (optional_in y), r) (fail FunctionError)) (sym h) (error-now l src st p FunctionError)

  or-value : (d : Value) (w : Meaning.Value) → Holds w L r d → (o : Unwrapped) (m : Value) → UnwrapView l src L r o m → Says l src p L u r (or_value_out p d (used_of u) r (optional_in m), r) (or_value_rule w o)
  unfolding or_value_rule
  or-value d w k (NotOptional v) m h = subst (λ y. Says l src p L u r (or_value_out p d (used_of u) r y, r) (fail NoOverload)) (sym h.0) (error-now l src st p NoOverload)
  or-value d w k (PresentOptional v) m h = subst (λ y. Says l src p L u r (or_value_out p d (used_of u) r y, r) (pure v)) (sym h.2) (value-now l src st p (cell_at r h.0 h.1) v h.3)
  or-value d w k NoneOptional m h = subst (λ y. Says l src p L u r (or_value_out p d (used_of u) r (optional_in y), r) (pure w)) (sym h) (value-now l src st p d w k)

  pub call-says : (f : Function) (v : Meaning.Value) (m : Value) → Holds v L r m → Says l src p L u r (called p f m (used_of u) r) (call_rule f v)
  unfolding call_rule
  call-says size_call v m h = size-says v m h
  call-says of_call v m h = present-says l src st p m v h
  call-says has_value_call v m h = has_value (unwrap_optional v) m (unwrap-view l src st v m h)
  call-says value_call v m h = value_in (unwrap_optional v) m (unwrap-view l src st v m h)

-- the argument, then the target
pub or_value-says : (l : Counts) (src : List ℕ) {L : Alive} {u : Counts} {r : Rooms} {s : Scope} {t : Comprehension.Scope} → Start l src L u r s t → (p : ℕ) (target : Does) (f : Comprehension.Scope → Eval Meaning.Value) → Refines l src target f → (argument : Does) (g : Comprehension.Scope → Eval Meaning.Value) → Refines l src argument g
    → Says l src p L u r (or_value_does p target argument s (used_of u) r) (or_value_call (f t) (g t))
unfolding or_value_call
or_value-says l src {L} {u} {r} {s} {t} st p target f hf argument g hg =
    value_of l src st p argument g hg _ _ (λ M c q b j d w k.
    value_of l src b p target f hf (λ v z o. (or_value_out p d z o (optional_in v), o)) (λ v. or_value_rule w (unwrap_optional v)) (λ N e o b' j' m v i. or-value l src b' p d w (holds_frame M N q o j' w d k) (unwrap_optional v) m (unwrap-view l src b' v m i)))
