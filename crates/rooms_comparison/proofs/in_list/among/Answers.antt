-- `in_list::among` meets its contract. Assumes nothing.
use Rattle.rooms_comparison.proofs.in_list.among.Goals as goal

pub among_plain-requires : goal.among_plain-requires
among_plain-requires c = c.has_no_parts.ensures c.if-has_no_parts.true
