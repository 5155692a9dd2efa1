-- `sizes::within` meets its contract. Assumes nothing.
use borrow.Author.Tests.{le-ltb, lt-ltb}
use Rattle.rooms_text.proofs.sizes.within.Goals as goal

pub returns-then-index-length : goal.returns-then-index-length
returns-then-index-length c = simp (lt-ltb _ _ c.if-index-length.true)

pub returns-else-index-length : goal.returns-else-index-length
returns-else-index-length c = simp (le-ltb _ _ c.if-index-length.false)
