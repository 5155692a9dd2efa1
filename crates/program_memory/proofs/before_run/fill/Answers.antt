-- `before_run::fill` meets its contract. Assumes nothing.
use Rattle.std.proofs.Common.{rules}
use Rattle.program_memory.proofs.Testing.{filled}
use Rattle.program_memory.proofs.before_run.fill.Goals as goal

pub returns : goal.returns
returns c = (filled _ _ (c.fill.ensures.after (λ y e. search rules)), filled _ _ (c.fill-2.ensures.after (λ y e. search rules)))
