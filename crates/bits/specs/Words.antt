-- A list of words as a set of numbers.
use Rattle.std.specs.Prelude.{ℕ, ◌/◌, ◌%◌, Bool, List, slice_index}
use Rattle.bits.specs.Bit.{bit}

-- b is in the set where bit b mod 64 of word b / 64 is 1
abbrev pub member : List ℕ → ℕ → Bool
member words b = bit (slice_index words (b / 64)) (b % 64)
