-- `utf8::ascii`: the bytes joined are below 0x80 exactly if each is.
use Rattle.std.proofs.Common.{◌≡◌, rules, fold}
use Rattle.std.specs.Int.Bits.{bit_or}
use Rattle.text.proofs.Utf8Steps.{joined-ascii}
use Rattle.text.proofs.utf8.ascii.Goals as goal

pub returns : goal.returns
returns c = let e : c.fold.result ≡ fold bit_or 0 c.args.block.now = search rules in rw e (joined-ascii 0 c.args.block.now)
