-- `shortening::put_cut` meets its contract. Assumes nothing.
use borrow.Author.Rules.{rules}
use Rattle.line_answers.proofs.Cut.{cut_longer, cut_whole}
use Rattle.line_answers.proofs.shortening.put_cut.Goals as goal

pub returns-then-next-most : goal.returns-then-next-most
returns-then-next-most c = search (rules, cut_whole)

pub returns : goal.returns
returns c = search (rules, cut_longer _ _ _ _ _ c.if-out-most.false c.put_start-next.ensures c.if-next-most.false)
