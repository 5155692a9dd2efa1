-- `plain::key_equal` meets its contract. Assumes nothing.
use mathlib.Core.Path.{◌≡◌, sym, ◌∙◌}
use Rattle.rooms_comparison.proofs.AskedFirst.{text_same}
use Rattle.rooms_comparison.proofs.plain.key_equal.Goals as goal
use Rattle.rooms_comparison.proofs.plain.key_equal.Goals.{in-String+in_default-second, in_default}

pub returns-in-String-second : goal.returns-in-String-second
returns-in-String-second c = simp (c.in-String.is, c.in-String-second.is) (c.parts_equal.ensures ∙ text_same _ _)

pub returns : goal.returns
returns c =
    let e : c.match-first.first ≡ c.args.first = elim c.match-first.branch [ in-String+in_default-second w ↦ w.first-is ∙ sym w.in-String.is | in_default w ↦ w.first-is ] in
    rw e at c.equal_by_kind.ensures
