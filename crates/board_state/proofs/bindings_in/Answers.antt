-- `bindings_in`. Assumes nothing.
use mathlib.Core.Path.{◌∙◌}
use Rattle.board_state.proofs.SlotSteps.{other_length, other-count, is_state}
use Rattle.board_state.proofs.bindings_in.Goals as goal

pub returns-then-words-ne-STATE_WORDS : goal.returns-then-words-ne-STATE_WORDS
returns-then-words-ne-STATE_WORDS c = c.no_bindings.ensures ∙ other_length c.args.words.now c.if-words-ne-STATE_WORDS.true

pub returns-then-words-ne-SLOTS : goal.returns-then-words-ne-SLOTS
returns-then-words-ne-SLOTS c = c.no_bindings-then-words-ne-SLOTS.ensures ∙ other-count c.args.words.now c.if-words-ne-STATE_WORDS.false c.if-words-ne-SLOTS.true

pub returns : goal.returns
returns c = is_state c.args.words.now c.scope_in.result c.if-words-ne-STATE_WORDS.false c.if-words-ne-SLOTS.false c.scope_in.ensures
