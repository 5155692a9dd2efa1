-- `hexadecimal::put_pieces` meets its contract: what is left of the word is still to be put. Assumes nothing.
use Rattle.std.proofs.Common.{◌≡◌}
use Rattle.std.specs.Slice.Iter.{split_rest, split_done}
use Rattle.line_pieces.specs.Page.{puts}
use Rattle.line_pieces.specs.Writes.{page_of}
use Rattle.program_words.specs.Hexadecimal.{spelled_by}
use Rattle.program_words.proofs.Pieces.{left_of}
use Rattle.program_words.proofs.hexadecimal.put_pieces.Given as goal

abbrev pub invariant-loop-part : goal.invariant-loop-part
invariant-loop-part l =
    (l.page.out.ghost_name ≡ l.initial.page.out.ghost_name)
    × (puts (left_of (split_done l.part-iterator) (split_rest l.part-iterator)) (page_of l.page) ≡ puts (spelled_by l.word) (page_of l.initial.page))
