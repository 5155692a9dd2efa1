-- What a function does to the text in the memory that its writer was lent.
use Rattle.std.specs.Prelude.{◌≡◌}
use Rattle.line_pieces.specs.declared.Writer.{Writer}
use Rattle.line_pieces.specs.Page.{Page}

abbrev pub page_of : Writer → Page
page_of w = (w.at, w.out.now)

-- the memory stays the same, and its page becomes what f makes of it
pub record Writes (old new : Writer) (f : Page → Page) : Type 0 where
  pub same_memory : new.out.ghost_name ≡ old.out.ghost_name
  pub page : page_of new ≡ f (page_of old)
