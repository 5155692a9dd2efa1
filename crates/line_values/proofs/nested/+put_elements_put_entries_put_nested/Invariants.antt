-- `nested::put_elements`, `put_entries` and `put_nested`, which call one another, meet their contracts: the levels fall, and a loop leaves to be
-- put what stands from its place on. Assumes nothing.
use Prim.Native.Nat.{◌+◌, ◌-◌, ◌*◌}
use mathlib.Core.Path.{◌≡◌}
use Rattle.rooms.specs.Memory.{rooms_seen}
use Rattle.line_pieces.specs.Page.{puts}
use Rattle.line_pieces.specs.Writes.{page_of}
use Rattle.line_values.specs.Shown.{elements_shown, entries_shown, shown_to}
use Rattle.line_values.proofs.nested.+put_elements_put_entries_put_nested.Given as goal

abbrev pub decreases-put_elements : goal.decreases-put_elements
decreases-put_elements l = 2 * l.levels + 1

abbrev pub decreases-put_entries : goal.decreases-put_entries
decreases-put_entries l = 2 * l.levels + 1

abbrev pub decreases-put_nested : goal.decreases-put_nested
decreases-put_nested l = 2 * l.levels

abbrev pub invariant-put_elements-loop-index : goal.invariant-put_elements-loop-index
invariant-put_elements-loop-index l = record {
  same_memory : l.page.out.ghost_name ≡ l.fn.page.out.ghost_name;
  rest : puts (elements_shown (λ v. shown_to l.levels (rooms_seen l.view) v) (rooms_seen l.view) l.row.space (l.first + l.index) (l.length - l.index)) (page_of l.page) ≡ puts (elements_shown (λ v. shown_to l.levels (rooms_seen l.view) v) (rooms_seen l.view) l.row.space l.row.first l.row.length) (page_of l.fn.page);
}

abbrev pub invariant-put_entries-loop-index : goal.invariant-put_entries-loop-index
invariant-put_entries-loop-index l = record {
  same_memory : l.page.out.ghost_name ≡ l.fn.page.out.ghost_name;
  rest : puts (entries_shown (λ v. shown_to l.levels (rooms_seen l.view) v) (rooms_seen l.view) l.row.space (l.first + 2 * l.index) (l.length - l.index)) (page_of l.page) ≡ puts (entries_shown (λ v. shown_to l.levels (rooms_seen l.view) v) (rooms_seen l.view) l.row.space l.row.first l.row.length) (page_of l.fn.page);
}
