-- `plain::same_bool` meets its contract. Assumes nothing.
use borrow.Enum.Refused.{opened}
use Rattle.meaning.specs.Value.{bool}
use Rattle.meaning.specs.Comparison.{rank}
use Rattle.rooms_comparison.proofs.ScalarLaws.{bool_same}
use Rattle.rooms_comparison.proofs.Classes.{other-class, unlike-seen}
use Rattle.rooms_comparison.proofs.plain.same_bool.Goals as goal

pub returns-in_default : goal.returns-in_default
unfolding rank
returns-in_default c = λ r. unlike-seen r.literal r.binding_text r.text (bool c.args.left) c.args.other (other-class 1 c.args.other (opened c.in_default.in_default-own.keys2))

pub returns : goal.returns
returns c = λ r. simp c.in-Bool.is (bool_same c.args.left c.in-Bool.right)
