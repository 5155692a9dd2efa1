-- `plain::same_number` meets its contract. Assumes nothing.
use borrow.Enum.Refused.{opened}
use mathlib.Core.Path.{◌∙◌}
use Rattle.rooms_comparison.proofs.ScalarLaws.{number_same}
use Rattle.rooms_comparison.proofs.Classes.{other-class, number-unlike-seen}
use Rattle.rooms_comparison.proofs.plain.same_number.Goals as goal

pub returns-in_default : goal.returns-in_default
returns-in_default c = λ r. number-unlike-seen r.literal r.binding_text r.text c.args.left c.args.other (other-class 2 c.args.other (opened c.in_default.in_default-own.keys2))

pub returns : goal.returns
returns c = λ r. simp c.in-Number.is (c.equal.ensures ∙ number_same c.args.left c.in-Number.right)
