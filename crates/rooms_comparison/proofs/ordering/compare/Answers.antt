-- `ordering::compare` meets its contract. Assumes nothing.
use Rattle.rooms_comparison.specs.Seen.{seen_of}
use Rattle.rooms_comparison.proofs.OrderMeaning.{null_order}
use Rattle.rooms.specs.Memory.{rooms_seen}
use Rattle.rooms_comparison.proofs.ordering.compare.Goals as goal

pub returns-in-Null : goal.returns-in-Null
returns-in-Null c = simp (← c.plain_of-left.ensures, ← c.plain_of-right.ensures, c.in-Null.is) (null_order (seen_of c.args.view.now.literal.now c.args.view.now.binding_text.now c.args.view.now.text.now c.plain_of-right.result))

pub returns-in-Bool : goal.returns-in-Bool
returns-in-Bool c = simp (← c.plain_of-left.ensures, ← c.plain_of-right.ensures, c.in-Bool.is) (c.compare_bool.ensures (rooms_seen c.args.view.now))

pub returns-in-Number : goal.returns-in-Number
returns-in-Number c = simp (← c.plain_of-left.ensures, ← c.plain_of-right.ensures, c.in-Number.is) (c.compare_number.ensures (rooms_seen c.args.view.now))

pub returns-in-String : goal.returns-in-String
returns-in-String c = simp (← c.plain_of-left.ensures, ← c.plain_of-right.ensures, c.in-String.is) c.compare_string.ensures

pub returns-in-Bytes : goal.returns-in-Bytes
returns-in-Bytes c = simp (← c.plain_of-left.ensures, ← c.plain_of-right.ensures, c.in-Bytes.is) c.compare_bytes.ensures

pub returns-in-OptionalNone : goal.returns-in-OptionalNone
returns-in-OptionalNone c = simp (← c.plain_of-left.ensures, ← c.plain_of-right.ensures, c.in-OptionalNone.is)

pub returns-in-Other : goal.returns-in-Other
returns-in-Other c = simp (← c.plain_of-left.ensures, ← c.plain_of-right.ensures, c.in-Other.is)
