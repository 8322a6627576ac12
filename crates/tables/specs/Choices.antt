-- How a free load finds a partner by the tables.
use Rattle.std.specs.Prelude.{◌≡◌, ℕ, ◌≤◌, false, Option}
use Rattle.graph.specs.Graph.{Graph}
use Rattle.graph.specs.declared.TheConstants.{MOST_LOADS}
use Rattle.rules.specs.First.{first}
use Rattle.rules.specs.Repair.{Ranking, match_free}
use Rattle.tables.specs.declared.Tables.{Tables}
use Rattle.tables.specs.Views.{partners_of, free_linked, Agrees}

-- on any tables, r is the first of the free loads that a is linked to, which all stand below n
abbrev pub FirstFree : Ranking → ℕ → Tables → Option ℕ → Type 0
FirstFree before a t r =
    (n : ℕ) → n ≤ MOST_LOADS → ((y : ℕ) → n ≤ y → free_linked t a y ≡ false)
    → r ≡ first (before a) n (free_linked t a)

-- a, if it is free, was matched with the first free load that it is linked to
pub record Matched (before : Ranking) (g : Graph) (a : ℕ) (s t : Tables) : Type 0 where
  pub partners : partners_of t ≡ match_free before g a (partners_of s)
  pub agrees : Agrees g t
