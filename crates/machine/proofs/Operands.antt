-- Operands: what goes on from an operand's value, from its Bool, or from its error. Rests on Match. Assumes nothing.
use Prim.Native.Nat.{ℕ, ◌≤◌}
use mathlib.Core.Path.{◌≡◌, refl, sym, ap, ◌∙◌, subst}
use mathlib.Core.List.{List, append_assoc}
use Rattle.std.specs.Prelude.{Option, None, Some}
use Rattle.meaning.specs.Options.{bind}
use mathlib.Core.Bool.{Bool}
use Rattle.numbers.specs.declared.double.Double.{Double}
use Rattle.numbers.specs.declared.double.Double.TheVariants as Bits
use native.Mathlib.Omega.{arith}
use Rattle.meaning.specs.Limits.{Counts}
use Rattle.meaning.specs.Errors.{UnexpectedType, a_bool}
use Rattle.meaning.specs.Value as Meaning
use Rattle.meaning.specs.Value.{null, bool, int, uint, double, string, bytes, scalar, list, map, optional_none, optional_of, scalar_of, bool_of}
use Rattle.meaning.specs.Run.{Result, value, error, Raised, by_rule, Run, Eval, Rule, pure, charged, after, on_value, ◌>>=◌, fail, or_fail, operand, try_bool}
use Rattle.meaning.specs.Logic.{raised_error}
use Rattle.meaning.specs.Comprehension as Comprehension
use Rattle.meaning.specs.Limited.{spend, outcome}
use Rattle.rooms.specs.declared.value.Value.{Value}
use Rattle.rooms.specs.declared.scope.Scope.{Scope}
use Rattle.rooms.specs.Value.{double_value}
use Rattle.rooms.specs.Rooms.{Rooms}
use Rattle.rooms.specs.Stands.{Alive, StandsScalar, Stands, Agrees, Holds}
use Rattle.machine.specs.declared.outcome.Used.{Used}
use Rattle.machine.specs.declared.outcome.Outcome.TheVariants as Outcome
use Rattle.machine.specs.Outcomes.{Res, Does, with_value}
use Rattle.machine.specs.Views.{bool_in}
use Rattle.machine.specs.Refines.{used_of, error_of, Matches, Start, Meets, Refines}
use Rattle.machine.proofs.Match.{operand-here, raised_place, Says, raises, OnValue, OnError, HandsOut, then, then-built}

-- ---- a rule in a rule

pub after-assoc : {E F G A B C : Type 0} (r : Run E A) (f : Result E A → Run F B) (g : Result F B → Run G C) → ◌≡◌ {A = Run G C} (after (after r f) g) (after r (λ y. after (f y) g))
unfolding after charged
after-assoc r f g = λ i. (append_assoc r.0 (f r.1).0 (g (f r.1).1).0 i, (g (f r.1).1).1)

-- ---- a Bool

double-no-bool : (x : Double) → bool_in (double_value x) ≡ None
double-no-bool (Bits.Plain x) = refl
double-no-bool (Bits.Nan b) = refl

pub bool-view : (L : Alive) (r : Rooms) (v : Meaning.Value) (m : Value) → Stands v L r m → bool_in m ≡ bool_of v
unfolding Stands StandsScalar bool_of scalar_of Meaning.bool_in bind
bool-view L r (scalar null) m h = ap bool_in h
bool-view L r (scalar (bool b)) m h = ap bool_in h
bool-view L r (scalar (int z)) m h = ap bool_in h
bool-view L r (scalar (uint n)) m h = ap bool_in h
bool-view L r (scalar (double d)) m h = ap bool_in h.1 ∙ double-no-bool h.0
bool-view L r (scalar (string s)) m h = ap bool_in h.2
bool-view L r (scalar (bytes s)) m h = ap bool_in h.2
bool-view L r (list vs) m h = ap bool_in h.2
bool-view L r (map es) m h = ap bool_in h.2
bool-view L r optional_none m h = ap bool_in h
bool-view L r (optional_of v) m h = ap bool_in h.2

-- ---- operands

module _ (l : Counts) (src : List ℕ) where
  pub operand-says : (p : ℕ) (L : Alive) (u : Counts) (r : Rooms) (x : Res) (e : Eval Meaning.Value) → Meets l src L u r x e → Says l src p L u r x (operand e)
  unfolding operand
  operand-says p L u r x e h = subst (λ y. Matches L u r x (outcome y (spend l e.0 u)) e.0) (sym (operand-here p e.1)) h

  -- whatever came of an operand
  pub of-operand : {L : Alive} {u : Counts} {r : Rooms} {s : Scope} {t : Comprehension.Scope} → Start l src L u r s t → (p : ℕ) (m : Does) (f : Comprehension.Scope → Eval Meaning.Value) → Refines l src m f → (K : Res → Res) (k : Result Raised Meaning.Value → Rule Meaning.Value)
      → OnValue l src p L r s t K k → OnError l src p L r s t K k → HandsOut l src K → Says l src p L u r (K (m s (used_of u) r)) (after (operand (f t)) k)
  of-operand {L} {u} {r} {s} {t} a p m f h K k g e w = then l src a p (operand (f t)) (m s (used_of u) r) (operand-says p L u r (m s (used_of u) r) (f t) (h L s t u r a)) K k g e w

  -- goes on with a value, of an operand or a rule
  abbrev pub Goes : ℕ → Alive → Rooms → Scope → Comprehension.Scope → (Value → Used → Rooms → Res) → (Meaning.Value → Rule Meaning.Value) → Type 1
  Goes p L r s t K k = (M : Alive) (c : Counts) (q : Rooms) → Start l src M c q s t → Agrees L M r q → (m : Value) (v : Meaning.Value) → Holds v M q m → Says l src p M c q (K m (used_of c) q) (k v)

  pub value_of : {L : Alive} {u : Counts} {r : Rooms} {s : Scope} {t : Comprehension.Scope} → Start l src L u r s t → (p : ℕ) (m : Does) (f : Comprehension.Scope → Eval Meaning.Value) → Refines l src m f → (K : Value → Used → Rooms → Res) (k : Meaning.Value → Rule Meaning.Value)
      → Goes p L r s t K k → Says l src p L u r (with_value (m s (used_of u) r).0 (m s (used_of u) r).1 K) (◌>>=◌ (operand (f t)) k)
  unfolding ◌>>=◌ on_value
  value_of a p m f h K k g = of-operand a p m f h (λ x. with_value x.0 x.1 K) (on_value k) g (λ M c q b j e. raises l src b p e) (λ x u q. refl)

  -- an operand that has to be a Bool
  abbrev pub OnBool : ℕ → Alive → Rooms → Scope → Comprehension.Scope → (Res → Res) → (Result Raised Bool → Rule Meaning.Value) → Type 1
  OnBool p L r s t K k = (M : Alive) (c : Counts) (q : Rooms) → Start l src M c q s t → Agrees L M r q → (m : Value) (b : Bool) → bool_in m ≡ Some b → Says l src p M c q (K (Outcome.Value m (used_of c), q)) (k (value b))

  abbrev pub OnOther : ℕ → Alive → Rooms → Scope → Comprehension.Scope → (Res → Res) → (Result Raised Bool → Rule Meaning.Value) → Type 1
  OnOther p L r s t K k = (M : Alive) (c : Counts) (q : Rooms) → Start l src M c q s t → Agrees L M r q → (m : Value) → bool_in m ≡ None → Says l src p M c q (K (Outcome.Value m (used_of c), q)) (k (error (by_rule (UnexpectedType a_bool))))

  abbrev pub OnBoolError : ℕ → Alive → Rooms → Scope → Comprehension.Scope → (Res → Res) → (Result Raised Bool → Rule Meaning.Value) → Type 1
  OnBoolError p L r s t K k = (M : Alive) (c : Counts) (q : Rooms) → Start l src M c q s t → Agrees L M r q → (e : Raised) → Says l src p M c q (K (Outcome.Error (error_of (raised_error e)) (raised_place p e) (used_of c), q)) (k (error e))

  -- the same, where it matters that cells are only taken
  abbrev pub OnBoolGrown : ℕ → Alive → Counts → Rooms → Scope → Comprehension.Scope → (Res → Res) → (Result Raised Bool → Rule Meaning.Value) → Type 1
  OnBoolGrown p L u r s t K k = (M : Alive) (c : Counts) (q : Rooms) → Start l src M c q s t → Agrees L M r q → u.cells ≤ c.cells → (m : Value) (b : Bool) → bool_in m ≡ Some b → Says l src p M c q (K (Outcome.Value m (used_of c), q)) (k (value b))

  pub try-bool-grown : {L : Alive} {u : Counts} {r : Rooms} {s : Scope} {t : Comprehension.Scope} → Start l src L u r s t → (p : ℕ) (m : Does) (f : Comprehension.Scope → Eval Meaning.Value) → Refines l src m f → (K : Res → Res) (k : Result Raised Bool → Rule Meaning.Value)
      → OnBoolGrown p L u r s t K k → OnOther p L r s t K k → OnBoolError p L r s t K k → HandsOut l src K
      → Says l src p L u r (K (m s (used_of u) r)) (after (try_bool (f t)) k)
  unfolding try_bool ◌>>=◌ on_value or_fail
  try-bool-grown {L} {u} {r} {s} {t} a p m f h K k g o e w =
      subst (λ ρ. Says l src p L u r (K (m s (used_of u) r)) ρ) (sym (after-assoc (operand (f t)) (on_value (λ v. or_fail (UnexpectedType a_bool) (bool_of v))) k))
      (then-built l src a p (operand (f t)) (m s (used_of u) r) (operand-says p L u r (m s (used_of u) r) (f t) (h L s t u r a)) K (λ y. after (on_value (λ v. or_fail (UnexpectedType a_bool) (bool_of v)) y) k)
      (λ M c q b j n v i x y. go M c q b j (omega arith) n v (bool_of v) (bool-view M q v n i.stands))
      (λ M c q b j n. unfold on_value after charged in e M c q b j n) w)
    where
      go : (M : Alive) (c : Counts) (q : Rooms) → Start l src M c q s t → Agrees L M r q → u.cells ≤ c.cells → (n : Value) (v : Meaning.Value) (x : Option Bool) → bool_in n ≡ x → Says l src p M c q (K (Outcome.Value n (used_of c), q)) (after (or_fail (UnexpectedType a_bool) x) k)
      go M c q b j d n v None i = unfold or_fail fail after charged in o M c q b j n i
      go M c q b j d n v (Some y) i = unfold or_fail pure after charged in g M c q b j d n y i

  pub try-bool : {L : Alive} {u : Counts} {r : Rooms} {s : Scope} {t : Comprehension.Scope} → Start l src L u r s t → (p : ℕ) (m : Does) (f : Comprehension.Scope → Eval Meaning.Value) → Refines l src m f → (K : Res → Res) (k : Result Raised Bool → Rule Meaning.Value)
      → OnBool p L r s t K k → OnOther p L r s t K k → OnBoolError p L r s t K k → HandsOut l src K
      → Says l src p L u r (K (m s (used_of u) r)) (after (try_bool (f t)) k)
  try-bool a p m f h K k g o e w = try-bool-grown a p m f h K k (λ M c q b j d n y i. g M c q b j n y i) o e w
