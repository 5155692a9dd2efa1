-- The turns of the append path refine its rule. Rests on Gathering. Assumes nothing.
use Prim.Native.Nat.{ℕ, ◌+◌, ◌≤◌, ◌<◌}
use mathlib.Core.Path.{refl, sym, subst}
use mathlib.Core.List.{List, [], ◌∷◌}
use Rattle.std.specs.Prelude.{Option, None, Some}
use mathlib.Core.Bool.{Bool, true, false}
use native.Mathlib.Omega.{arith}
use lib.ListN.{length}
use Rattle.meaning.specs.Limits.{Counts, names}
use Rattle.meaning.specs.Errors.{UnexpectedType, a_bool}
use Rattle.meaning.specs.Value as Meaning
use Rattle.meaning.specs.Value.{Values, list, join}
use Rattle.meaning.specs.Expr.{LogicalFold}
use Rattle.meaning.specs.Run.{cells, error, by_rule, Eval, Rule, charged, on_value, ◌>>=◌, try_bool, choose, built}
use Rattle.meaning.specs.Logic.{raised_error}
use Rattle.meaning.specs.Comprehension as Rules
use Rattle.meaning.specs.Comprehension.{Scope, store, Comprehension, append_items, append_turn, append_loop}
use Rattle.rooms.specs.declared.value.CellSpace.{CellSpace}
use Rattle.rooms.specs.declared.scope.Scope as Code
use Rattle.rooms.specs.Value.{parts_of}
use Rattle.rooms.specs.Rooms.{Rooms, cell_at}
use Rattle.rooms.specs.Scope.{stored}
use Rattle.rooms.specs.Stands.{Alive, Agrees}
use Rattle.machine.specs.declared.outcome.Used.{Used}
use Rattle.machine.specs.declared.outcome.Outcome.TheVariants as Outcome
use Rattle.machine.specs.Outcomes.{Res, Does}
use Rattle.machine.specs.Logic.{branch}
use Rattle.machine.specs.Comprehension as Machine
use Rattle.machine.specs.Comprehension.{asks, Gathered, gather_parts, gathered, guarded, append_turns}
use Rattle.machine.specs.Refines.{used_of, error_of, Start, Refines}
use Rattle.machine.proofs.Match.{Says, raises}
use Rattle.machine.proofs.Operands.{try-bool-grown}
use Rattle.machine.proofs.Turns.{ItemsAt, items-frame, stores, looping, meant}
use Rattle.machine.proofs.Gathering.{Gathers, gathers-frame, ItemsOk, items-then, gathered-says, gather-says}

module _ (l : Counts) (src : List ℕ) where
  -- a guard, or none, in both
  abbrev pub GuardOk : Option Does → Option (Scope → Eval Meaning.Value) → Type 1
  GuardOk None None = Unit {1}
  GuardOk None (Some f) = (P : Type 0) → P
  GuardOk (Some m) None = (P : Type 0) → P
  GuardOk (Some m) (Some f) = Refines l src m f

  -- a condition or a guard: it holds, it fails, or it ends the loop
  asks-says : {L : Alive} {u : Counts} {r : Rooms} {s : Code.Scope} {t : Scope} → Start l src L u r s t → (p : ℕ) (m : Does) (f : Scope → Eval Meaning.Value) → Refines l src m f → (H F : Used → Rooms → Res) (κ ρ : Rule Meaning.Value)
      → ((M : Alive) (c : Counts) (q : Rooms) → Start l src M c q s t → Agrees L M r q → u.cells ≤ c.cells → Says l src p M c q (H (used_of c) q) κ)
      → ((M : Alive) (c : Counts) (q : Rooms) → Start l src M c q s t → Agrees L M r q → u.cells ≤ c.cells → Says l src p M c q (F (used_of c) q) ρ)
      → Says l src p L u r (asks p (m s (used_of u) r) H F) (◌>>=◌ (try_bool (f t)) (choose κ ρ))
  unfolding ◌>>=◌ on_value
  asks-says {L} {u} {r} {s} {t} st p m f h H F κ ρ holds' fails' =
      try-bool-grown l src st p m f h (λ y. asks p y H F) (on_value (choose κ ρ))
      (λ M c q b j d y x k. subst (λ o. Says l src p M c q (branch p (used_of c) q o H F) (choose κ ρ x)) (sym k) (chosen M c q b j d x))
      (λ M c q b j y k. subst (λ o. Says l src p M c q (branch p (used_of c) q o H F) ([], error (by_rule (UnexpectedType a_bool)))) (sym k) (wanted b))
      (λ M c q b j y. raises l src b p y)
      (λ y z q. refl)
    where
      wanted : {M : Alive} {c : Counts} {q : Rooms} → Start l src M c q s t → Says l src p M c q (Outcome.Error (error_of (UnexpectedType a_bool)) p (used_of c), q) ([], error (by_rule (UnexpectedType a_bool)))
      wanted b = unfold raised_error in raises l src b p (by_rule (UnexpectedType a_bool))

      chosen : (M : Alive) (c : Counts) (q : Rooms) → Start l src M c q s t → Agrees L M r q → u.cells ≤ c.cells → (x : Bool) → Says l src p M c q (branch p (used_of c) q (Some x) H F) (choose κ ρ x)
      chosen M c q b j d true = unfold choose in holds' M c q b j d
      chosen M c q b j d false = unfold choose in fails' M c q b j d

  module _ (p a i : ℕ) (ia : a < names) (ii : i < names) (fold : Option LogicalFold) (mt mn mr : Does) (ft fn fr : Scope → Eval Meaning.Value) (ht : Refines l src mt ft) (hn : Refines l src mn fn) (hr : Refines l src mr fr) (space : CellSpace) (stride : ℕ) (append : Option Rules.AppendStep) (range init : Scope → Eval Meaning.Value) where
    abbrev loops : Machine.Loop
    loops = looping l src p a i ia ii fold mt mn mr ft fn fr ht hn hr

    abbrev means : Comprehension Meaning.Value
    means = meant l src p a i ia ii fold mt mn mr ft fn fr ht hn hr space stride append range init

    module _ (path : Machine.AppendStep) (step : Rules.AppendStep) (hg : GuardOk path.guard step.guard) (hi : ItemsOk l src path.items step.items) where
      -- the rest of the path, over these items
      abbrev AppendOk : List Meaning.Value → (ℕ → Gathered → Does) → Rules.Gathering → Type 1
      AppendOk xs R κ = (g : Gathered) (out : Values) (L : Alive) (s : Code.Scope) (t : Scope) (u : Counts) (r : Rooms) (at : ℕ) → Start l src L u r s t → Gathers g out L u r → ItemsAt xs L r space stride at → Says l src p L u r (R at g s (used_of u) r) (κ t out)

      module _ (xs : List Meaning.Value) (R : ℕ → Gathered → Does) (κ : Rules.Gathering) (ih : AppendOk xs R κ) where
        -- what the item adds
        adds-ok : {L : Alive} {u : Counts} {r : Rooms} {s : Code.Scope} {t : Scope} → Start l src L u r s t → (g : Gathered) (out : Values) → Gathers g out L u r → (at : ℕ) → ItemsAt xs L r space stride at → Says l src p L u r (Machine.append_items path g s (used_of u) r (λ h z q. R at h s z q)) (append_items step.items κ t out)
        unfolding append_items
        adds-ok {L} {u} {r} {s} {t} st g out h at k =
            items-then l src st p path.items step.items hi (λ v w q. gather_parts v g (parts_of v) w q (λ h' z d. R at h' s z d)) (λ vs. charged (cells vs ∷ []) (κ t (join out vs)))
            (λ M c q b j y vs e n. gather-says l src b p g out (gathers-frame g out L M u c r q j (omega arith) h) y vs e (omega (arith, h.few)) (λ h' z d. R at h' s z d) (κ t (join out vs))
            (λ g' N c' q' b' j' h'. ih g' (join out vs) N s t c' q' at b' h' (items-frame M N q q' j' xs space stride at (items-frame L M r q j xs space stride at k))))

        -- one item, its condition known to hold
        turn-ok : {L : Alive} {u : Counts} {r : Rooms} {s : Code.Scope} {t : Scope} → Start l src L u r s t → (g : Gathered) (out : Values) → Gathers g out L u r → (at : ℕ) → ItemsAt xs L r space stride at → (o : Option Does) (w : Option (Scope → Eval Meaning.Value)) → GuardOk o w → Says l src p L u r (guarded p o s (used_of u) r (λ z q. Machine.append_items path g s z q (λ h y d. R at h s y d)) (λ z q. R at g s z q)) (append_turn w step.items κ t out)
        unfolding append_turn
        turn-ok st g out h at k None None e = adds-ok st g out h at k
        turn-ok st g out h at k None (Some f) e = e _
        turn-ok st g out h at k (Some m) None e = e _
        turn-ok {L} {u} {r} {s} {t} st g out h at k (Some m) (Some f) e =
            asks-says st p m f e (λ z q. Machine.append_items path g s z q (λ h' y d. R at h' s y d)) (λ z q. R at g s z q) (append_items step.items κ t out) (κ t out)
            (λ M c q b j d. adds-ok b g out (gathers-frame g out L M u c r q j d h) at (items-frame L M r q j xs space stride at k))
            (λ M c q b j d. ih g out M s t c q at b (gathers-frame g out L M u c r q j d h) (items-frame L M r q j xs space stride at k))

      pub append-ok : (xs : List Meaning.Value) → AppendOk xs (λ at g. append_turns loops path space stride (length xs) at g) (λ t out. append_loop means step xs t out)
      unfolding append_turns append_loop
      append-ok [] g out L s t u r at st h k = gathered-says l src st p g out h
      append-ok (x ∷ xs) g out L s t u r at st h k =
          asks-says st p mt ft ht
          (λ w q. guarded p path.guard (stored s i (cell_at q space at)) w q (λ z o. Machine.append_items path g (stored s i (cell_at q space at)) z o (λ h' y d. append_turns loops path space stride (length xs) (at + stride) h' (stored s i (cell_at q space at)) y d)) (λ z o. append_turns loops path space stride (length xs) (at + stride) g (stored s i (cell_at q space at)) z o))
          (λ w q. gathered g w q) (append_turn step.guard step.items (λ t' more. append_loop means step xs t' more) (store t i x) out) (built out (list out))
          (λ M c q b j d. let f : ItemsAt (x ∷ xs) M q space stride at = items-frame L M r q j (x ∷ xs) space stride at k in
          turn-ok xs (λ at' g'. append_turns loops path space stride (length xs) at' g') (λ t' more. append_loop means step xs t' more) (append-ok xs) (stores l src b i ii (cell_at q space at) x (record { stands = f.1; fits = b.fitting space at; nests = f.2 })) g out (gathers-frame g out L M u c r q j d h) (at + stride) f.3 path.guard step.guard hg)
          (λ M c q b j d. gathered-says l src b p g out (gathers-frame g out L M u c r q j d h))
