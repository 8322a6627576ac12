-- What linking, unlinking, pairing and parting two loads does to the tables, and what taking a path
-- and replacing a partner does.
use Rattle.std.specs.Prelude.{◌≡◌, ℕ, ◌<◌, Bool, true, false, not, ◌&&◌, Some}
use Rattle.std.specs.Prelude.{◌==◌, ◌≢◌, if◌then◌else◌}
use Rattle.graph.specs.Graph.{Graph, Simple, is_pair, added, removed}
use Rattle.graph.specs.Matching.{Free}
use Rattle.graph.specs.Pairs.{is_free}
use Rattle.graph.specs.declared.TheConstants.{MOST_LOADS}
use Rattle.rules.specs.Repair.{paired, freed}
use Rattle.tables.specs.declared.Tables.{Tables}
use Rattle.tables.specs.Views.{partners_of, degree_of, free_degree_of, free_linked, Agrees}
use Rattle.tables.specs.Steps.{stepped}

-- what holds for the graph of links that came from their making
abbrev pub OfLinks : Type 0 → Graph → (Graph → Type 0) → Type 0
OfLinks made g Holds = made → Simple g → Holds g

-- with the link of a and b, or without it
abbrev pub relinked : Bool → Graph → ℕ → ℕ → Graph
relinked true g a b = added g a b
relinked false g a b = removed g a b

-- one up or down where c says so
abbrev pub step_if : Bool → Bool → ℕ → ℕ
step_if c up n = if c then stepped up n else n

-- on any tables: a and b have one link more or fewer, and each has the other in its set, or no
-- longer, if the other is free
pub record Relinked (on : Bool) (a b : ℕ) (s t : Tables) : Type 0 where
  pub degrees : (y : ℕ) → degree_of t y ≡ step_if (b == y) on (step_if (a == y) on (degree_of s y))
  pub counts : (y : ℕ) → free_degree_of t y
      ≡ step_if (b == y && is_free (partners_of s) a) on
      (step_if (a == y && is_free (partners_of s) b) on (free_degree_of s y))
  pub sets : (y z : ℕ) → free_linked t y z
      ≡ (if is_pair a b y z && is_free (partners_of s) z then on else free_linked s y z)

-- the link of a and b is recorded, or no longer: tables that agreed with a graph do with the graph
-- that has gained the link, or has lost it
pub record Relinking (on : Bool) (a b : ℕ) (s t : Tables) : Type 0 where
  pub partners : partners_of t ≡ partners_of s
  pub relinks : a < MOST_LOADS → b < MOST_LOADS → Relinked on a b s t
  pub agrees : (g : Graph) → Simple g → a < g.size → b < g.size → (a ≢ b)
      → g.linked a b ≡ not on → Agrees g s → Agrees (relinked on g a b) t

-- on any tables: each load linked to a learned that a is free or no longer, and then each that is
-- linked to b that b is
pub record Told (g : Graph) (a : ℕ) (free-a : Bool) (b : ℕ) (free-b : Bool)
    (s t : Tables) : Type 0 where
  pub degrees : (y : ℕ) → degree_of t y ≡ degree_of s y
  pub counts : (y : ℕ) → free_degree_of t y
      ≡ step_if (g.linked b y) free-b (step_if (g.linked a y) free-a (free_degree_of s y))
  pub sets : (y z : ℕ) → free_linked t y z
      ≡ (if g.linked b y && b == z then free-b
      else (if g.linked a y && a == z then free-a else free_linked s y z))

-- a and b, free before, become partners
pub record Pairing (g : Graph) (a b : ℕ) (s t : Tables) : Type 0 where
  pub partners : a < MOST_LOADS → b < MOST_LOADS → partners_of t ≡ paired a b (partners_of s)
  pub told : a < MOST_LOADS → b < MOST_LOADS → Told g a false b false s t
  pub agrees : a < g.size → b < g.size → (a ≢ b) → Free (partners_of s) a → Free (partners_of s) b
      → Agrees g s → Agrees g t

-- a and b, partners before, become free
pub record Parting (g : Graph) (a b : ℕ) (s t : Tables) : Type 0 where
  pub partners : a < MOST_LOADS → b < MOST_LOADS → partners_of t ≡ freed a (freed b (partners_of s))
  pub told : a < MOST_LOADS → b < MOST_LOADS → Told g a true b true s t
  pub agrees : (a ≢ b) → partners_of s a ≡ Some b → partners_of s b ≡ Some a
      → Agrees g s → Agrees g t

-- x and y, partners before, become those of a and z, free before
pub record Exchanging (g : Graph) (a x y z : ℕ) (s t : Tables) : Type 0 where
  pub partners : a < MOST_LOADS → x < MOST_LOADS → y < MOST_LOADS → z < MOST_LOADS
      → partners_of t ≡ paired y z (paired a x (partners_of s))
  pub told : a < MOST_LOADS → x < MOST_LOADS → y < MOST_LOADS → z < MOST_LOADS
      → Told g a false z false s t
  pub agrees : a < g.size → z < g.size → (a ≢ z) → Free (partners_of s) a → Free (partners_of s) z
      → partners_of s x ≡ Some y → partners_of s y ≡ Some x → Agrees g s → Agrees g t

-- a, free before, becomes the partner of x in place of y, which becomes free
pub record Replacing (g : Graph) (a x y : ℕ) (s t : Tables) : Type 0 where
  pub partners : a < MOST_LOADS → x < MOST_LOADS → y < MOST_LOADS
      → partners_of t ≡ freed y (paired a x (partners_of s))
  pub told : a < MOST_LOADS → x < MOST_LOADS → y < MOST_LOADS → Told g a false y true s t
  pub agrees : a < g.size → Free (partners_of s) a → partners_of s x ≡ Some y
      → partners_of s y ≡ Some x → Agrees g s → Agrees g t
