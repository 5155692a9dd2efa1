-- `packing::signed_of` meets its contract. Assumes nothing.
use mathlib.Core.Path.{◌∙◌}
use mir.Syntax.{w64}
use mir.ValLaws.{to_z-of_z}
use borrow.Author.Rules.{sfits_of}
use Rattle.rooms_cells.proofs.CastLaws.{signed_cast}
use Rattle.rooms_cells.proofs.packing.signed_of.Goals as goal

pub returns : goal.returns
returns c = to_z-of_z w64 c.cast_signed.result (sfits_of c.cast_signed.type_inv) ∙ c.cast_signed.ensures ∙ signed_cast c.args.word
