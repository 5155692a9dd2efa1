-- `says_absent`. Assumes nothing.
use native.Mathlib.Omega.{arith}
use Rattle.board_state.proofs.SlotSteps.{says_two, says_other, says_none}
use Rattle.board_state.proofs.says_absent.Goals as goal

pub returns-then-words-name-eq-ABSENT : goal.returns-then-words-name-eq-ABSENT
returns-then-words-name-eq-ABSENT c = says_two c.args.words.now c.args.name c.if-name-words.true c.if-words-name-eq-ABSENT.true

pub returns-else-words-name-eq-ABSENT : goal.returns-else-words-name-eq-ABSENT
returns-else-words-name-eq-ABSENT c = says_other c.args.words.now c.args.name c.if-name-words.true c.if-words-name-eq-ABSENT.false

pub returns-else-name-words : goal.returns-else-name-words
returns-else-name-words c = says_none c.args.words.now c.args.name (omega arith)
