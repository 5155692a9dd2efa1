-- `text_sum::join_texts` meets its contract: the room has both texts. Assumes nothing.
use mathlib.Core.Path.{sym, ◌∙◌}
use native.Mathlib.Omega.{arith}
use Rattle.eval_outcomes.proofs.Taking.{text-within}
use Rattle.eval_arithmetic.proofs.text_sum.join_texts.Goals as goal

pub overflow_cast-to : goal.overflow_cast-to
overflow_cast-to c = record { fits = omega (arith, text-within _ c.args.used.bytes _ _ (sym c.in_ok-after.was ∙ c.take_text.ensures)) }

pub overflow_add-to : goal.overflow_add-to
overflow_add-to c = record { fits = omega (arith, text-within _ c.args.used.bytes _ _ (sym c.in_ok-after.was ∙ c.take_text.ensures)) }

pub overflow_cast-joined : goal.overflow_cast-joined
overflow_cast-joined c = record { fits = omega (arith, text-within _ c.args.used.bytes _ _ (sym c.in_ok-after.was ∙ c.take_text.ensures)) }
