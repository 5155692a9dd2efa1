-- `plain::same_null` meets its contract. Assumes nothing.
use borrow.Enum.Refused.{opened}
use Rattle.meaning.specs.Value.{null}
use Rattle.meaning.specs.Comparison.{rank}
use Rattle.rooms_comparison.proofs.ScalarLaws.{null-same}
use Rattle.rooms_comparison.proofs.Classes.{other-class, unlike-seen}
use Rattle.rooms_comparison.proofs.plain.same_null.Goals as goal

pub returns-in-Null : goal.returns-in-Null
returns-in-Null c = λ r. simp c.in-Null.is null-same

pub returns-in_default : goal.returns-in_default
unfolding rank
returns-in_default c = λ r. unlike-seen r.literal r.binding_text r.text null c.args.other (other-class 0 c.args.other (opened c.in_default.in_default-own.keys2))
