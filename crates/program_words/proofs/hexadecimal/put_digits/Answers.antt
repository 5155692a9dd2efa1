-- `hexadecimal::put_digits` meets its contract: what is left of the word is still to be put. Assumes nothing.
use Rattle.std.proofs.Common.{◌∙◌, arith}
use Rattle.program_words.proofs.Pairs.{pairs_over, no_pair, pair_put}
use Rattle.program_words.proofs.hexadecimal.put_digits.Goals as goal

pub returns-in_default : goal.returns-in_default
returns-in_default c =
    let step = c.in-Some.ensures.steps.1 in
    record {
      same_memory = c.loop-pair.invariant.1;
      page = no_pair _ _ _ step.0 (step.1 ∙ c.loop-pair.invariant.0) c.byte_of.ensures c.in_default.is c.loop-pair.invariant.2;
    }

pub loop-pair-preserved : goal.loop-pair-preserved
loop-pair-preserved c =
    let step = c.in-Some.ensures.steps.1 in (
      c.next.ensures.steps.0 ∙ c.loop-pair.invariant.0,
      c.put.ensures.same_memory ∙ c.loop-pair.invariant.1,
      pair_put _ _ _ step.0 (step.1 ∙ c.loop-pair.invariant.0) c.byte_of.ensures _ c.in-Some-byte_of.is c.put.ensures.page c.loop-pair.invariant.2,
    )

pub returns : goal.returns
returns c = record {
  same_memory = c.loop-pair.invariant.1;
  page = pairs_over _ (omega (arith, c.in-None.ensures.steps.1.0, c.loop-pair.invariant.0)) c.loop-pair.invariant.2;
}
