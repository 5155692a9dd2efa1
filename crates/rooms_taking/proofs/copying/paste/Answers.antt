-- `copying::paste` meets its contract: what is not copied at once is copied a byte at a time. Assumes nothing.
use mathlib.Core.Path.{ap, ◌∙◌}
use Rattle.rooms_taking.specs.Taking.{pasted}
use Rattle.rooms_taking.proofs.copying.paste.Goals as goal

pub returns-then-copied_at_once : goal.returns-then-copied_at_once
returns-then-copied_at_once c = rw c.if-copied_at_once.true at c.copied_at_once.ensures

pub returns : goal.returns
returns c =
    let kept = rw c.if-copied_at_once.false at c.copied_at_once.ensures in
    c.copy_each.ensures ∙ ap (λ t. pasted c.args.literal.now c.args.binding_text.now c.args.space t c.args.first c.args.to c.args.length) kept
