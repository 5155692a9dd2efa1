-- `sizes::size_in` meets its contract. Assumes nothing.
use native.Mathlib.Omega.{arith}
use Rattle.rooms.specs.Rooms.{text_of}
use Rattle.rooms_text.proofs.CodePointLaws.{points-small}
use Rattle.rooms_text.proofs.sizes.size_in.Goals as goal

pub overflow_cast-result : goal.overflow_cast-result
overflow_cast-result c =
    record {
      fits = omega (arith, points-small (text_of c.args.view.now.literal.now c.args.view.now.binding_text.now c.args.view.now.text.now c.in-String.span.space) c.in-String.span.first c.in-String.span.length, c.part_points.ensures);
    }
