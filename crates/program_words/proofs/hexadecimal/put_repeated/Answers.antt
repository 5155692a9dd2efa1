-- `hexadecimal::put_repeated` meets its contract: what is left of the times is still to be put. Assumes nothing.
use Rattle.std.proofs.Common.{◌∙◌}
use Rattle.program_words.proofs.Parts.{repeat_on, repeat_full, repeat_end}
use Rattle.program_words.proofs.hexadecimal.put_repeated.Goals as goal

pub returns-then-page-before : goal.returns-then-page-before
returns-then-page-before c = record {
  same_memory = c.put_digits.ensures.same_memory ∙ c.loop.invariant.0;
  page = repeat_full _ _ _ _ c.loop-test.true c.put_digits.ensures.page c.if-page-before.true c.loop.invariant.1;
}

pub loop-preserved : goal.loop-preserved
loop-preserved c = (c.put_digits.ensures.same_memory ∙ c.loop.invariant.0, repeat_on _ _ _ _ c.loop-test.true c.put_digits.ensures.page c.loop.invariant.1)

pub returns : goal.returns
returns c = record { same_memory = c.loop.invariant.0; page = repeat_end _ _ _ _ c.loop-test.false c.loop.invariant.1 }
