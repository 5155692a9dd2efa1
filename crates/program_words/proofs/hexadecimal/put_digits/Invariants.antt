-- `hexadecimal::put_digits` meets its contract: what is left of the word is still to be put. Assumes nothing.
use Rattle.std.proofs.Common.{◌≡◌}
use Rattle.std.specs.Slice.Iter.{chunks_exact_rest, chunks_exact_size}
use Rattle.line_pieces.specs.Page.{puts}
use Rattle.line_pieces.specs.Writes.{page_of}
use Rattle.program_words.specs.Hexadecimal.{bytes_of}
use Rattle.program_words.proofs.hexadecimal.put_digits.Given as goal

abbrev pub invariant-loop-pair : goal.invariant-loop-pair
invariant-loop-pair l =
    (chunks_exact_size l.pair-iterator ≡ 2)
    × (l.page.out.ghost_name ≡ l.initial.page.out.ghost_name)
    × (puts (bytes_of (chunks_exact_rest l.pair-iterator)) (page_of l.page) ≡ puts (bytes_of l.word) (page_of l.initial.page))
