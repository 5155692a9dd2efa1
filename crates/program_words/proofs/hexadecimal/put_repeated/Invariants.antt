-- `hexadecimal::put_repeated` meets its contract: what is left of the times is still to be put. Assumes nothing.
use Rattle.std.proofs.Common.{◌≡◌, ◌-◌}
use Rattle.line_pieces.specs.Page.{puts}
use Rattle.line_pieces.specs.Writes.{page_of}
use Rattle.program_words.specs.Hexadecimal.{bytes_of, repeated}
use Rattle.program_words.proofs.hexadecimal.put_repeated.Given as goal

abbrev pub invariant-loop : goal.invariant-loop
invariant-loop l =
    (l.page.out.ghost_name ≡ l.initial.page.out.ghost_name)
    × (puts (repeated (l.count - l.counter) (bytes_of l.word)) (page_of l.page) ≡ puts (repeated l.count (bytes_of l.word)) (page_of l.initial.page))
