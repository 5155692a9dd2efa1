-- `hexadecimal::put_pieces` meets its contract: what is left of the word is still to be put. Assumes nothing.
use Rattle.std.proofs.Common.{◌∙◌, eqb, rules}
use Rattle.std.proofs.lemmas.List.Sorted.{answers_always}
use Rattle.program_words.proofs.Pairs.{counted}
use Rattle.program_words.proofs.Pieces.{pieces_on, pieces_end}
use Rattle.program_words.proofs.hexadecimal.put_pieces.Goals as goal

pub loop-part-preserved : goal.loop-part-preserved
loop-part-preserved c =
    let step = c.in-Some.ensures.steps in
    let found = step.2 (λ y. eqb y 43) (answers_always _ _ _ (λ f a r g h. search rules)) in (
      c.put_piece.ensures.same_memory ∙ c.loop-part.invariant.0,
      pieces_on _ _ _ found.1 _ _ step.0 step.1 c.put_piece.ensures.page c.loop-part.invariant.1,
    )

pub returns-clause-fact : goal.returns-clause-fact
returns-clause-fact c = let all = pieces_end _ _ c.in-None.ensures.steps.0 c.loop-part.invariant.1 in search rules

pub returns-clause-prefix_len : goal.returns-clause-prefix_len
returns-clause-prefix_len c = counted _ _ (pieces_end _ _ c.in-None.ensures.steps.0 c.loop-part.invariant.1) _ (search rules)
