-- `nested::put_nested` meets its contract where there is one part. Assumes nothing.
use Prim.Native.Nat.{◌-◌}
use borrow.Author.Rules.{rules}
use mathlib.Core.Path.{sym, ◌∙◌}
use Rattle.rooms.specs.Memory.{rooms_seen}
use Rattle.line_pieces.specs.Page.{puts}
use Rattle.line_pieces.specs.Writes.{page_of}
use Rattle.line_values.specs.Shown.{shown_to}
use Rattle.line_values.proofs.Steps.{nested_present}
use Rattle.line_values.proofs.nested.+put_elements_put_entries_put_nested.Goals as goal

pub put_nested-returns-in-Present : goal.put_nested-returns-in-Present
put_nested-returns-in-Present t c =
    let r = rooms_seen c.args.view.now in
    record {
      same_memory = search rules;
      page =
          c.put_nested.ensures.page
          ∙ (λ i. puts (shown_to (c.args.levels - 1) r (c.cell_at-inner.ensures i)) (c.put_word-in-Present.ensures.page i))
          ∙ sym (nested_present c.args.levels r c.args.value (page_of c.args.page.now) c.if-levels-eq0.false c.in-Present.space c.in-Present.cell (sym c.parts_of.ensures ∙ c.in-Present.is));
    }
