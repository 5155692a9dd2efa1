-- A value that `evaluate` answers is one that words can hold. Rests on Refine (crate machine). Assumes nothing.
use Prim.Native.Nat.{ℕ, ◌/◌, min}
use mathlib.Core.Path.{◌≡◌, refl, sym, ◌∙◌, subst}
use mathlib.Core.List.{List}
use native.Mathlib.Omega.{arith}
use lib.ListN.{length}
use Rattle.meaning.specs.Limits.{Counts, nothing_yet, cut, most_steps}
use Rattle.meaning.specs.Expr.{Expr}
use Rattle.meaning.specs.Run.{Trace}
use Rattle.meaning.specs.Comprehension as Comprehension
use Rattle.meaning.specs.Limited as Limited
use Rattle.meaning.specs.Meaning.{run}
use Rattle.meaning.specs.Heads.{Got, got, refused}
use Rattle.meaning.specs.Table.{read_table}
use Rattle.rooms.specs.declared.value.Value.{Value}
use Rattle.rooms.specs.Cells.{Fits}
use Rattle.rooms.specs.Rooms.{Rooms}
use Rattle.rooms.specs.Scope.{StandsScope}
use Rattle.rooms.specs.Stands.{Alive}
use Rattle.bindings_sound.specs.declared.Bindings.{Bindings}
use Rattle.std.specs.Prelude.{Ok}
use Rattle.bindings_sound.specs.Sound.{sound_of}
use Rattle.bindings_sound.specs.Held.{held_scope, alive_below}
use Rattle.bindings_sound.proofs.SoundScope.{sound-scope}
use Rattle.machine.specs.declared.outcome.Used.{Used}
use Rattle.machine.specs.declared.outcome.Outcome.{Outcome}
use Rattle.machine.specs.Outcomes.{Res}
use Rattle.machine.specs.Machine.{machine}
use Rattle.machine.specs.Refines.{used_of, from, Good, Below}
use Rattle.machine.proofs.AnyCells.{words-fit}
use Rattle.machine.proofs.AcceptedTables.{read-accepted}
use Rattle.machine.proofs.Answering.{begins}
use Rattle.machine.proofs.Refine.{refines}
use Rattle.answer.specs.declared.Answer.TheVariants as Answer
use Rattle.answer.specs.Evaluated.{as_answer, accepted, after, evaluated}
use Rattle.answer.specs.Promised.{Lent}
use Rattle.answer.proofs.Answering.{was-accepted}

-- a value among the outcomes
value-is : (o : Outcome) (m : Value) (u : Used) → as_answer o ≡ Answer.Value m u → o ≡ Outcome.Value m u
value-is (Outcome.Value v w) m u e = let f : v ≡ m = cc in let g : w ≡ u = cc in λ i. Outcome.Value (f i) (g i)
value-is (Outcome.Error x p w) m u e = let z : ◌≡◌ {A = ℕ} 0 1 = cc in absurd (omega arith)
value-is (Outcome.Exhausted x w) m u e = let z : ◌≡◌ {A = ℕ} 0 1 = cc in absurd (omega arith)

good-fits : (L : Alive) (lo : Counts) (q : Rooms) (o : Outcome) (t : Trace) (end : Limited.Outcome) → Good L lo q o t end → (m : Value) (u : Used) → o ≡ Outcome.Value m u → Fits m
good-fits L lo q o t (Limited.value v c) g m u e =
    let same : Outcome.Value g.0 (used_of c) ≡ Outcome.Value m u = sym g.1 ∙ e in
    let is : g.0 ≡ m = cc in
    subst Fits is g.2.fits
good-fits L lo q o t (Limited.error x c) g m u e = let f = sym g.0 ∙ e in let z : ◌≡◌ {A = ℕ} 0 1 = cc in absurd (omega arith)
good-fits L lo q o t (Limited.exhausted x c) g m u e = let f = sym g ∙ e in let z : ◌≡◌ {A = ℕ} 0 1 = cc in absurd (omega arith)

module _ (table : List ℕ) (bindings : Bindings) (steps : ℕ) (lent : Rooms) (all : Lent table bindings lent) where
  abbrev alive : Alive
  alive = alive_below bindings.cells

  abbrev lengths : Counts
  lengths = record { steps = steps; cells = length lent.cells / 2; bytes = length lent.text }

  below : Below alive nothing_yet
  below = record { cells = λ i h. absurd h; bytes = omega arith }

  -- the scope that the room holds
  abbrev scope : Comprehension.Scope
  scope = held_scope lent.binding_cells lent.binding_text bindings

  stands : sound_of lent.binding_cells lent.binding_text bindings ≡ Ok tt → StandsScope scope alive lent bindings.scope
  stands s = sound-scope lent.binding_cells lent.binding_text bindings s all.slots all.values lent.literal lent.cells lent.text

  ran-fits : (e : Expr) → read_table table lent.literal ≡ got e → sound_of lent.binding_cells lent.binding_text bindings ≡ Ok tt
      → (m : Value) (u : Used) → as_answer (machine table (min steps most_steps) e bindings.scope (used_of nothing_yet) lent).0 ≡ Answer.Value m u → Fits m
  unfolding cut
  ran-fits e g s m u h =
      let x : Res = machine table (min steps most_steps) e bindings.scope (used_of nothing_yet) lent in
      let matches =
      refines table lent.literal (cut lengths) e (read-accepted table lent.literal all.table_bytes e g) alive bindings.scope scope nothing_yet lent
      (begins table all.table_bytes steps lent alive bindings.scope scope below (words-fit lent all.words all.binding_words) (stands s)) in
      good-fits alive nothing_yet x.1 x.0 (run e scope).0 (from (cut lengths) (run e scope) nothing_yet) matches.good m u (value-is x.0 m u h)

  after-fits : (g : Got Expr) → accepted table bindings lent ≡ g → (m : Value) (u : Used) → (after table bindings steps lent g).0 ≡ Answer.Value m u → Fits m
  unfolding accepted
  after-fits (refused why p) a m u h = let z : ◌≡◌ {A = ℕ} 0 1 = cc in absurd (omega arith)
  after-fits (got e) a m u h =
      let s = was-accepted (read_table table lent.literal) (sound_of lent.binding_cells lent.binding_text bindings) e a in
      ran-fits e s.0 s.1 m u h

  -- A value that comes back is one that words can hold.
  pub value-fits : (m : Value) (u : Used) → (evaluated table bindings steps lent).0 ≡ Answer.Value m u → Fits m
  unfolding evaluated
  value-fits m u h = after-fits (accepted table bindings lent) refl m u h
