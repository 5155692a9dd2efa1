-- `hexadecimal::put_bytes` meets its contract: no more bytes than the memory has. Assumes nothing.
use Rattle.std.proofs.Common.{rules}
use Rattle.program_words.proofs.Pairs.{counted}
use Rattle.program_words.proofs.hexadecimal.put_bytes.Goals as goal

pub returns-clause-prefix_len : goal.returns-clause-prefix_len
returns-clause-prefix_len c = counted _ _ c.put_digits.ensures.page _ (search rules)
