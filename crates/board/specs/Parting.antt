-- Partners parted in the tables.
use Rattle.std.specs.Prelude.{◌≡◌, ℕ, ◌<◌, Some, ◌≢◌}
use Rattle.graph.specs.Graph.{Graph}
use Rattle.graph.specs.declared.TheConstants.{MOST_LOADS}
use Rattle.rules.specs.Calls.{parted}
use Rattle.tables.specs.declared.Tables.{Tables}
use Rattle.tables.specs.Views.{partners_of, Agrees}

-- the tables t are those in which a and b are parted, if they were partners in s
pub record PartnersParted (g : Graph) (a b : ℕ) (s t : Tables) : Type 0 where
  pub partners : partners_of t ≡ parted a b (partners_of s) (partners_of s a)
  pub agrees : Agrees g t

-- for two loads, where the tables agree with g and a partner of a has a as its own
abbrev pub PartsPartners : Graph → ℕ → ℕ → Tables → Tables → Type 0
PartsPartners g a b s t =
    a < MOST_LOADS → b < MOST_LOADS → (a ≢ b) →
    (partners_of s a ≡ Some b → partners_of s b ≡ Some a) →
    Agrees g s → PartnersParted g a b s t
