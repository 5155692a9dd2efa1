-- `plain::same_string` meets its contract. Assumes nothing.
use borrow.Enum.Refused.{opened}
use mathlib.Core.Path.{◌∙◌}
use Rattle.meaning.specs.Value.{string}
use Rattle.rooms.specs.Rooms.{part, text_of}
use Rattle.meaning.specs.Comparison.{rank}
use Rattle.rooms_comparison.proofs.AskedFirst.{text_same}
use Rattle.rooms_comparison.proofs.Classes.{other-class, unlike-seen}
use Rattle.rooms_comparison.proofs.plain.same_string.Goals as goal

pub returns-in_default : goal.returns-in_default
unfolding rank
returns-in_default c = unlike-seen c.args.view.now.literal.now c.args.view.now.binding_text.now c.args.view.now.text.now (string (part (text_of c.args.view.now.literal.now c.args.view.now.binding_text.now c.args.view.now.text.now c.args.span.space) c.args.span.first c.args.span.length)) c.args.other (other-class 3 c.args.other (opened c.in_default.in_default-own.keys2))

pub returns : goal.returns
returns c = simp c.in-String.is (c.parts_equal.ensures ∙ text_same _ _)
