-- What it means that places rise.
use Rattle.std.specs.Prelude.{ℕ, suc, ◌≤◌, ◌<◌, List, [], ◌∷◌}

-- from `low` on, each above the one before, and all below `high`
abbrev pub Rising : ℕ → ℕ → List ℕ → Type 0
Rising low high [] = Unit {0}
Rising low high (n ∷ ns) = (low ≤ n) × (n < high) × Rising (suc n) high ns
