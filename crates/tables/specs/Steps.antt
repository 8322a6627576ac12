-- The small steps by which the tables are changed.
use Rattle.std.specs.Prelude.{◌≡◌, ℕ, ◌+◌, ◌-◌, min, Bool, true, false, ◌&&◌, ◌==◌}
use Rattle.std.specs.Prelude.{Option, if◌then◌else◌}
use Rattle.graph.specs.Matching.{Partners}
use Rattle.tables.specs.declared.Tables.{Tables}
use Rattle.tables.specs.Views.{partners_of, degree_of, free_degree_of, free_linked}

-- a number of 16 bits, one up or down where it can
abbrev pub stepped : Bool → ℕ → ℕ
stepped true n = min (n + 1) 65535
stepped false n = n - 1

-- the links of the loads that pass `linked` go one up or down, and b is put into the sets of those
-- that pass `told`, or taken out of them
pub record Stepped (on : Bool) (linked told : ℕ → Bool) (b : ℕ) (s t : Tables) : Type 0 where
  pub partners : (y : ℕ) → partners_of t y ≡ partners_of s y
  pub degrees : (y : ℕ) → degree_of t y
      ≡ (if linked y then stepped on (degree_of s y) else degree_of s y)
  pub counts : (y : ℕ) → free_degree_of t y
      ≡ (if told y then stepped on (free_degree_of s y) else free_degree_of s y)
  pub sets : (y z : ℕ) → free_linked t y z
      ≡ (if told y && b == z then on else free_linked s y z)

-- a has the partner o, or none
abbrev pub with_partner : ℕ → Option ℕ → Partners → Partners
with_partner a o p x = if x == a then o else p x

-- the partners p are written, and nothing else
pub record Written (p : Partners) (s t : Tables) : Type 0 where
  pub partners : (y : ℕ) → partners_of t y ≡ p y
  pub degrees : (y : ℕ) → degree_of t y ≡ degree_of s y
  pub counts : (y : ℕ) → free_degree_of t y ≡ free_degree_of s y
  pub sets : (y z : ℕ) → free_linked t y z ≡ free_linked s y z
