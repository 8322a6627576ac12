-- What a making leaves in the memory that it is lent.
use Rattle.std.specs.Prelude.{◌≡◌, ℕ, ◌<◌, ◌≤◌, List, length, slice_index}

-- the first numbers of the memory are 0, and the others as they were
pub record Cleared (need : ℕ) (before after : List ℕ) : Type 0 where
  pub same_length : length after ≡ length before
  pub zeros : (k : ℕ) → k < need → slice_index after k ≡ 0
  pub beyond : (k : ℕ) → need ≤ k → slice_index after k ≡ slice_index before k
