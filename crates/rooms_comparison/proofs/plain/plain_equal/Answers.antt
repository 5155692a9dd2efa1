-- `plain::plain_equal` meets its contract. Assumes nothing.
use mathlib.Core.Path.{◌≡◌, sym, ◌∙◌}
use borrow.Author.Rules.{sfits_of}
use Rattle.rooms_comparison.proofs.AskedFirst.{int_same}
use Rattle.rooms_comparison.proofs.plain.plain_equal.Goals as goal
use Rattle.rooms_comparison.proofs.plain.plain_equal.Goals.{in-Int+in_default-second, in_default}

pub returns-in-Int-second : goal.returns-in-Int-second
returns-in-Int-second c =
    simp (c.in-Int.is, c.in-Int-second.is) (int_same c.in-Int.one c.in-Int-second.other (sfits_of c.in-Int.known_told-1-own.given.0.1) (sfits_of c.in-Int-second.known_told-in-Int-1-own.given.0.1))

pub returns : goal.returns
returns c =
    let e : c.match-first.first ≡ c.args.first = elim c.match-first.branch [ in-Int+in_default-second w ↦ w.first-is ∙ sym w.in-Int.is | in_default w ↦ w.first-is ] in
    rw e at c.key_equal.ensures
