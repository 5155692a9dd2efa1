-- `ordering::compare_number` meets its contract. Assumes nothing.
use borrow.Enum.Refused.{opened}
use mathlib.Core.Path.{ap, ◌∙◌}
use Rattle.rooms_comparison.specs.declared.ordering.Compared.TheVariants as Compared
use Rattle.rooms_comparison.proofs.OrderMeaning.{number-order}
use Rattle.rooms_comparison.proofs.Classes.{other-class}
use Rattle.rooms_comparison.proofs.OrderMeaning.{number-no-order-seen}
use Rattle.rooms_comparison.proofs.ordering.compare_number.Goals as goal

pub returns-in_default : goal.returns-in_default
returns-in_default c = λ r. number-no-order-seen r.literal r.binding_text r.text c.args.left c.args.other (other-class 2 c.args.other (opened c.in_default.in_default-own.keys2))

pub returns : goal.returns
returns c = λ r. simp c.in-Number.is (ap Compared.Is c.compare.ensures ∙ number-order c.args.left c.in-Number.right)
