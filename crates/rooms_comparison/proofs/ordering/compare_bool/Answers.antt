-- `ordering::compare_bool` meets its contract. Assumes nothing.
use borrow.Enum.Refused.{opened}
use mathlib.Core.Path.{ap, ◌∙◌}
use Rattle.meaning.specs.Value.{bool}
use Rattle.meaning.specs.Comparison.{rank}
use Rattle.rooms_comparison.specs.declared.ordering.Compared.TheVariants as Compared
use Rattle.rooms_comparison.proofs.OrderMeaning.{bool-order}
use Rattle.rooms_comparison.proofs.Classes.{other-class}
use Rattle.rooms_comparison.proofs.OrderMeaning.{no-order-seen}
use Rattle.std.specs.Prelude.{Some}
use Rattle.rooms_comparison.proofs.ordering.compare_bool.Goals as goal

pub returns-in_default : goal.returns-in_default
unfolding rank
returns-in_default c = λ r. no-order-seen r.literal r.binding_text r.text (bool c.args.left) c.args.other (other-class 1 c.args.other (opened c.in_default.in_default-own.keys2))

pub returns : goal.returns
returns c = λ r. simp c.in-Bool.is (ap (λ o. Compared.Is (Some o)) c.cmp.ensures ∙ bool-order c.args.left c.in-Bool.right)
