-- The size of a point of the number line.
use Rattle.std.specs.Prelude.{ℕ}
use Rattle.numbers.specs.Double.{Point, nan, infinite, finite}

-- of a finite one; both zeros have the size 0
abbrev pub size : Point → ℕ
size nan = 0
size (infinite s) = 0
size (finite s a) = a
