-- Where a comprehension has a choice, `Begins` has a case for each way: after each step the loop goes on or ends in the step's error, and
-- from each init it takes the ordinary loop or, written so, the append path. That the whole relation is complete stands in EveryStep.
-- Rests on LookWritten. Assumes nothing.
use Prim.Native.Nat.{ℕ}
use mathlib.Core.Path.{◌≡◌, refl, sym, subst}
use mathlib.Core.Logic.{◌⊎◌, inl, inr}
use Rattle.std.specs.Prelude.{Option, None, Some}
use mathlib.Core.Bool.{Bool, true, false}
use Rattle.meaning.specs.Errors.{ErrorAt}
use Rattle.meaning.specs.Value.{Value, scalar, list, map, optional_none, optional_of, nil, cons, bool_of}
use Rattle.meaning.specs.Expr.{LogicalFold, Expr}
use Rattle.meaning.specs.Run.{Result, value, error}
use Rattle.meaning.specs.Logic.{absorbs}
use Rattle.meaning.specs.Comprehension.{Scope, store, AppendStep, Pending, is_empty_list}
use Rattle.meaning.specs.Look.{append_step}
use Rattle.meaning.specs.Meaning.{look}
use Rattle.meaning_laws.specs.Begins.{GoesOn, plain, folded, cleared, still_held, held, TakesLoop, no_append, not_empty}
use Rattle.meaning_laws.proofs.LookWritten.{WrittenAppend, clash-bool, written}

-- ---- after a step

-- After a step the loop goes on, or the step is no fold's and its error ends the loop.
pub goes-on-or-ends : (a : ℕ) (fold : Option LogicalFold) (s : Scope) (pending : Pending) (r : Result ErrorAt Value) →
    ((t : Scope) × (still : Pending) × GoesOn a fold s pending r t still) ⊎ ((e : ErrorAt) × (fold ≡ None) × (r ≡ error e))
goes-on-or-ends a None s pending (value v) = inl (store s a v, None, plain)
goes-on-or-ends a None s pending (error e) = inr (e, refl, refl)
goes-on-or-ends a (Some fold) s None (value v) = inl (store s a v, None, folded)
goes-on-or-ends a (Some fold) s (Some e) (value v) = go (absorbs fold (bool_of v)) refl
  where
    go : (b : Bool) → absorbs fold (bool_of v) ≡ b →
        ((t : Scope) × (still : Pending) × GoesOn a (Some fold) s (Some e) (value v) t still) ⊎
        ((f : ErrorAt) × (Some fold ≡ None) × (value v ≡ error f))
    go true q = inl (store s a v, None, cleared q)
    go false q = inl (s, Some e, still_held q)
goes-on-or-ends a (Some fold) s pending (error e) = inl (s, Some e, held)

-- ---- the choice of the path

empty-list : (v : Value) → is_empty_list v ≡ true → v ≡ list nil
unfolding is_empty_list
empty-list (scalar x) h = absurd (clash-bool refl h)
empty-list (list nil) h = refl
empty-list (list (cons v vs)) h = absurd (clash-bool refl h)
empty-list (map es) h = absurd (clash-bool refl h)
empty-list optional_none h = absurd (clash-bool refl h)
empty-list (optional_of v) h = absurd (clash-bool refl h)

-- From every init a comprehension takes the ordinary loop, or it is written for the append path and its init is an empty list.
pub takes-either : (a : ℕ) (condition next result : Expr) (v : Value) →
    TakesLoop (append_step a (look condition) (look next) (look result)) v ⊎ (WrittenAppend a condition next result × (v ≡ list nil))
takes-either a condition next result v = go (append_step a (look condition) (look next) (look result)) refl (is_empty_list v) refl
  where
    go : (o : Option AppendStep) → append_step a (look condition) (look next) (look result) ≡ o → (b : Bool) → is_empty_list v ≡ b →
        TakesLoop (append_step a (look condition) (look next) (look result)) v ⊎ (WrittenAppend a condition next result × (v ≡ list nil))
    go None e b h = inl (subst (λ o. TakesLoop o v) (sym e) no_append)
    go (Some x) e true h = inr (written a condition next result x e, empty-list v h)
    go (Some x) e false h = inl (subst (λ o. TakesLoop o v) (sym e) (not_empty h))
