-- `scope_in`: the slots read so far, and absent ones behind them. Assumes nothing.
use Prim.Native.Nat.{◌+◌, ◌-◌}
use mathlib.Core.Path.{◌≡◌, sym, ap, ◌∙◌}
use native.Mathlib.Omega.{arith}
use Rattle.rooms.specs.declared.scope.Scope.{Scope}
use Rattle.board_state.proofs.SlotSteps.{slots_so_far, slot-absent, slot-stored, slot_kept, slots-none, slots-all}
use Rattle.board_state.proofs.scope_in.Goals.{then-not-says_absent, else-not-says_absent}
use Rattle.board_state.proofs.scope_in.Goals as goal

pub loop-name-init : goal.loop-name-init
loop-name-init c = slots-none c.args.words.now c.empty-scope.result.slots (ap (λ (s : Scope). s.slots) c.empty-scope.ensures)

pub loop-name-preserved : goal.loop-name-preserved
loop-name-preserved c =
    let fewer : (128 - c.loop-name.name) - 1 ≡ 128 - (c.loop-name.name + 1) = omega arith in
    elim c.if-not-says_absent.branch [
      | then-not-says_absent w ↦ ap (λ (s : Scope). s.slots) w.scope-is ∙ slot-stored c.args.words.now c.loop-name.scope.slots w.slot_in.result c.loop-name.name (128 - c.loop-name.name) (omega arith) c.loop-name.invariant w.slot_in.ensures ∙ ap (slots_so_far c.args.words.now (c.loop-name.name + 1)) fewer
      | else-not-says_absent w ↦ ap (λ (s : Scope). s.slots) w.scope-is ∙ slot_kept c.args.words.now c.loop-name.scope.slots c.loop-name.name (128 - c.loop-name.name) (omega arith) c.loop-name.invariant (slot-absent c.args.words.now c.loop-name.name (sym c.says_absent.ensures ∙ w.if-not-says_absent.false)) ∙ ap (slots_so_far c.args.words.now (c.loop-name.name + 1)) fewer
    ]

pub returns : goal.returns
returns c = slots-all c.args.words.now c.loop-name.scope c.loop-name.name (128 - c.loop-name.name) (omega arith) (omega arith) c.loop-name.invariant
