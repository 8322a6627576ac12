-- Which of two loads comes first in an order.
use Rattle.std.specs.Prelude.{ℕ, Bool, if◌then◌else◌, Some, None, Option}

-- y, unless an x comes before it
abbrev pub earlier : (ℕ → ℕ → Bool) → Option ℕ → ℕ → ℕ
earlier before None y = y
earlier before (Some x) y = if before x y then x else y
