-- What the plain checks promise of numbers.
use Rattle.std.specs.Prelude.{ℕ, ◌≤◌}

abbrev pub IsWithin : ℕ → ℕ → ℕ → Type 0
IsWithin low high n = (low ≤ n) × (n ≤ high)
