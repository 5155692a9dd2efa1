-- `ordering::compare_bytes` meets its contract. Assumes nothing.
use borrow.Enum.Refused.{opened}
use mathlib.Core.Path.{ap, ◌∙◌}
use Rattle.meaning.specs.Value.{bytes}
use Rattle.rooms.specs.Rooms.{part, text_of}
use Rattle.meaning.specs.Comparison.{rank}
use Rattle.rooms_comparison.specs.declared.ordering.Compared.TheVariants as Compared
use Rattle.rooms_comparison.proofs.OrderMeaning.{bytes-order}
use Rattle.rooms_comparison.proofs.Classes.{other-class}
use Rattle.rooms_comparison.proofs.OrderMeaning.{no-order-seen}
use Rattle.std.specs.Prelude.{Some}
use Rattle.rooms_comparison.proofs.ordering.compare_bytes.Goals as goal

pub returns-in_default : goal.returns-in_default
unfolding rank
returns-in_default c = no-order-seen c.args.view.now.literal.now c.args.view.now.binding_text.now c.args.view.now.text.now (bytes (part (text_of c.args.view.now.literal.now c.args.view.now.binding_text.now c.args.view.now.text.now c.args.span.space) c.args.span.first c.args.span.length)) c.args.other (other-class 4 c.args.other (opened c.in_default.in_default-own.keys2))

pub returns : goal.returns
returns c = simp c.in-Bytes.is (ap (λ o. Compared.Is (Some o)) c.parts_compare.ensures ∙ bytes-order _ _)
