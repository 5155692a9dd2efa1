-- `slot_in`. Assumes nothing.
use mathlib.Core.Path.{sym, ◌∙◌}
use Rattle.board_state.proofs.SlotSteps.{slot-value, slot-absent, slot-wrong}
use Rattle.board_state.proofs.slot_in.Goals as goal

pub returns-then-says_absent : goal.returns-then-says_absent
returns-then-says_absent c = slot-absent c.args.words.now c.args.name (sym c.says_absent.ensures ∙ c.if-says_absent.true)

pub returns-then-is_absent : goal.returns-then-is_absent
returns-then-is_absent c = slot-wrong c.args.words.now c.args.name c.read_cell-value.result c.read_cell-value.ensures (sym c.is_absent.ensures ∙ c.if-is_absent.true) (sym c.says_absent.ensures ∙ c.if-says_absent.false)

pub returns-else-is_absent : goal.returns-else-is_absent
returns-else-is_absent c = slot-value c.args.words.now c.args.name c.read_cell-value.result c.read_cell-value.ensures (sym c.is_absent.ensures ∙ c.if-is_absent.false)
