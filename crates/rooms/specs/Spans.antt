-- A span and a row, made of their parts.
use Rattle.std.specs.Prelude.{ℕ}
use Rattle.rooms.specs.declared.value.TextSpace.{TextSpace}
use Rattle.rooms.specs.declared.value.CellSpace.{CellSpace}
use Rattle.rooms.specs.declared.value.Span.{Span}
use Rattle.rooms.specs.declared.value.Row.{Row}

abbrev pub span : TextSpace → (first length : ℕ) → Span
span s a n = record { space = s; first = a; length = n }

abbrev pub row : CellSpace → (first length : ℕ) → Row
row s a n = record { space = s; first = a; length = n }
