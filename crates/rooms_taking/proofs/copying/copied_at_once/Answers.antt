-- `copying::copied_at_once` meets its contract. Assumes nothing.
use mathlib.Core.Path.{◌∙◌}
use Rattle.rooms_taking.proofs.OneSlice.{literal-at-once, binding-at-once}
use Rattle.rooms_taking.proofs.copying.copied_at_once.Goals as goal

pub returns-in-Literal : goal.returns-in-Literal
returns-in-Literal c =
    rw c.in-Literal.is
    (c.copied_whole.ensures ∙ literal-at-once c.args.literal.now c.args.binding_text.now c.args.text.now c.args.first c.args.to c.args.length c.copied_whole.result)

pub returns-in-Binding : goal.returns-in-Binding
returns-in-Binding c =
    rw c.in-Binding.is
    (c.copied_whole-in-Binding.ensures ∙ binding-at-once c.args.literal.now c.args.binding_text.now c.args.text.now c.args.first c.args.to c.args.length c.copied_whole-in-Binding.result)
