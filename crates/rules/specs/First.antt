-- The first number in an order among those that pass a test.
use Rattle.std.specs.Prelude.{ℕ, zero, suc, Bool, Some, None, Option, if◌then◌else◌}
use Rattle.ranking.specs.First.{earlier}

-- the first of the numbers below n that pass the test
abbrev pub first : (ℕ → ℕ → Bool) → ℕ → (ℕ → Bool) → Option ℕ
first before zero test = None
first before (suc n) test =
    if test n then Some (earlier before (first before n test) n) else first before n test
