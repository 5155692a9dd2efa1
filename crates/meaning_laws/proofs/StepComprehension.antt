-- The steps of a comprehension record, by the path it takes: the ordinary loop, or, as its step is written, the append path.
-- Rests on StepItems, LookWritten and BegunCovers. Assumes nothing.
use Prim.Native.Nat.{ℕ}
use mathlib.Core.Path.{◌≡◌, refl, sym, ◌∙◌, ap, subst}
use mathlib.Core.Logic.{◌⊎◌, inl, inr}
use mathlib.Core.List.{List, [], ◌∷◌, ◌++◌, append_assoc}
use Rattle.std.specs.Prelude.{Option, None, Some}
use native.Mathlib.Omega.{arith}
use Rattle.meaning.specs.Value.{Scalar, Value, list, nil}
use Rattle.meaning.specs.Expr.{LogicalFold, Expr, literal, name, unary, binary, conditional, select, list_of, map_of, comprehension, call, none_call, or_value}
use Rattle.meaning.specs.Run.{step, Trace, value, choose}
use Rattle.meaning.specs.Comprehension.{Scope, store, items_of, AppendStep, Comprehension, is_empty_list, loop_from}
use Rattle.meaning.specs.Look.{of_name, append_step}
use Rattle.meaning.specs.Meaning.{run, look}
use Rattle.meaning_laws.specs.Begins.{TakesLoop, Appends, always, guarded, InAppend, Begins, init_of, range_of, loop_of, append_of}
use Rattle.meaning_laws.specs.Steps.{StepOf}
use Rattle.meaning_laws.proofs.BegunItems.{parts_of, takes-loop, guard_of, Seen, seen, path-open}
use Rattle.meaning_laws.proofs.LookWritten.{WrittenAppend}
use Rattle.meaning_laws.proofs.BegunCovers.{takes-either}
use Rattle.meaning_laws.proofs.CoveredSteps.{Covered}
use Rattle.meaning_laws.proofs.StepOrigins.{Accounted, of-operand, Behind, begun-accounted, operand-steps}
use Rattle.meaning_laws.proofs.StepItems.{loop-accounted, append-accounted, rule-accounted}

-- ---- a step that appends

-- what may be begun inside a step that appends: its items list, and its guard
abbrev pub InsideAccounted : Expr → Type 0
InsideAccounted (literal p x) = Unit {0}
InsideAccounted (name p n) = Unit {0}
InsideAccounted (unary p o e) = Unit {0}
InsideAccounted (binary p o e f) = Accounted f
InsideAccounted (conditional p c e f) = Accounted c × InsideAccounted e
InsideAccounted (select p test field e) = Unit {0}
InsideAccounted (list_of p es) = Unit {0}
InsideAccounted (map_of p ps) = Unit {0}
InsideAccounted (comprehension p a i range init condition next result) = Unit {0}
InsideAccounted (call p f e) = Unit {0}
InsideAccounted (none_call p) = Unit {0}
InsideAccounted (or_value p target argument) = Unit {0}

no-guard : {g : Expr} → None ≡ Some g → ⊥
no-guard e = let z : ◌≡◌ {A = ℕ} 0 1 = cc in omega arith

the-guard : {g h : Expr} → Some g ≡ Some h → g ≡ h
the-guard e = cc

guard-accounted : {a : ℕ} {next : Expr} {guard : Option Expr} {items : Expr} → Appends a next guard items → InsideAccounted next →
    (g : Expr) → guard ≡ Some g → Accounted g
guard-accounted always c g e = absurd (no-guard e)
guard-accounted guarded c g e = subst Accounted (the-guard e) c.0

items-list-accounted : {a : ℕ} {next : Expr} {guard : Option Expr} {items : Expr} → Appends a next guard items → InsideAccounted next → Accounted items
items-list-accounted always c = c
items-list-accounted guarded c = c.1

-- ---- what the comprehension sees of it

way-open : {a : ℕ} {next guard items : _} {condition result : Expr} (q n : ℕ) (x : Scalar) → condition ≡ literal q x → result ≡ name n a →
    (k : Seen a next guard items) →
    append_step a (look condition) (look next) (look result) ≡ Some (record { guard = guard_of guard; items = k.m })
way-open {a} {next} {result} q n x c r k =
    ap (λ e. append_step a (look e) (look next) (look result)) c ∙ ap (λ e. append_step a (look (literal q x)) (look next) (look e)) r ∙ path-open q n x k

-- ---- the record

module _ (p a i : ℕ) (range init condition next result : Expr) where
  abbrev whole : Expr
  whole = comprehension p a i range init condition next result

  abbrev fold : Option LogicalFold
  fold = of_name a (look next).folds

  abbrev path : Option AppendStep
  path = append_step a (look condition) (look next) (look result)

  abbrev parts : Comprehension Value
  parts = parts_of a i fold path range init condition next result

  append-begins : {s t : Scope} {w : Value} {xs : List Value} {before : Trace} {f : Expr} (k : WrittenAppend a condition next result) →
      (run init s).1 ≡ value (list nil) → (run range s).1 ≡ value w → items_of w ≡ Some xs →
      InAppend i condition k.guard k.items xs s before f t →
      Begins whole s (step ∷ ((run init s).0 ++ ((run range s).0 ++ before))) f t
  append-begins {s} {t} {w} {xs} {before} {f} k e g q b =
      subst (λ c. Begins (comprehension p a i range init c next result) s (step ∷ ((run init s).0 ++ ((run range s).0 ++ before))) f t)
      (sym k.condition_is)
      (subst (λ r. Begins (comprehension p a i range init (literal k.condition_place k.constant) next r) s
      (step ∷ ((run init s).0 ++ ((run range s).0 ++ before))) f t) (sym k.result_is)
      (append_of e g q k.appends (subst (λ c. InAppend i c k.guard k.items xs s before f t) k.condition_is b)))

  -- a step of the record behind init, range and these charges
  abbrev AtItems : Scope → Trace → Type 0
  AtItems s x = Behind whole s ((run init s).0 ++ ((run range s).0 ++ x))

  grouped : (s : Scope) (b x : Trace) → StepOf whole s ((step ∷ ((run init s).0 ++ ((run range s).0 ++ b))) ++ x) → AtItems s (b ++ x)
  grouped s b x o i =
      subst (λ t. StepOf whole s (step ∷ t))
      (append_assoc (run init s).0 ((run range s).0 ++ b) x ∙ ap ((run init s).0 ++◌) (append_assoc (run range s).0 b x)) o

  pub comprehension-steps : Accounted range → Accounted init → Accounted condition → Accounted next → Accounted result → InsideAccounted next →
      Accounted whole
  unfolding run loop_from is_empty_list choose
  comprehension-steps of_range of_init of_condition of_next of_result of_inside s =
      begun-accounted whole s p _ refl (rule-accounted parts s (operand-steps [] init_of of_init)
      (λ g. operand-steps (run init s).0 (range_of g) of_range) (λ v w xs e f q. go v w xs e f q (takes-either a condition next result v)))
    where
      go : (v w : Value) (xs : List Value) → (run init s).1 ≡ value v → (run range s).1 ≡ value w → items_of w ≡ Some xs →
          TakesLoop path v ⊎ (WrittenAppend a condition next result × (v ≡ list nil)) → Covered (AtItems s) (loop_from parts path v xs s).0
      go v w xs e f q (inl k) =
          subst (λ r. Covered (AtItems s) r.0) (sym (takes-loop parts k xs s))
          (loop-accounted a i fold path range init condition next result of_condition of_next of_result xs (store s a v) None
          (λ b g t l x o. grouped s b x (of-operand (loop_of e f q k l) x o)))
      go v w xs e f q (inr k) =
          let ways = k.0 in
          let sight = seen ways.appends in
          let seen_so = way-open ways.condition_place ways.result_place ways.constant ways.condition_is ways.result_is sight in
          subst (λ u. Covered (AtItems s) (loop_from parts path u xs s).0) (sym k.1)
          (subst (λ o. Covered (AtItems s) (loop_from parts o (list nil) xs s).0) (sym seen_so)
          (append-accounted a i fold path range init condition next result ways.guard sight.lists of_condition
          (guard-accounted ways.appends of_inside) (items-list-accounted ways.appends of_inside) xs s nil
          (λ b g t l x o. grouped s b x (of-operand (append-begins ways (subst (λ u. (run init s).1 ≡ value u) k.1 e) f q l) x o))))
