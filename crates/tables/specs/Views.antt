-- What the tables say of each load, and when they agree with a graph.
use Rattle.std.specs.Prelude.{◌≡◌, ℕ, ◌≤◌, Bool, ◌&&◌, [], None, slice_index_or}
use Rattle.graph.specs.Graph.{Graph, count, degree, no_links}
use Rattle.graph.specs.Matching.{Partners}
use Rattle.graph.specs.Pairs.{has_partner, is_free}
use Rattle.graph.specs.declared.TheConstants.{MOST_LOADS}
use Rattle.bits.specs.Words.{member}
use Rattle.tables.specs.declared.Record.{Record}
use Rattle.tables.specs.declared.LoadSet.{LoadSet}
use Rattle.tables.specs.declared.Tables.{Tables}

-- the set has the load b
abbrev pub has : LoadSet → ℕ → Bool
has s b = member s.words b

-- what is kept of a load that is free and has no links, as of a number past the tables
abbrev pub blank : Record
blank = record { partner = None; degree = 0; free_degree = 0 }

abbrev pub empty : LoadSet
empty = record { words = [] }

abbrev pub record_of : Tables → ℕ → Record
record_of t a = slice_index_or t.records a blank

-- the partner of each load
abbrev pub partners_of : Tables → Partners
partners_of t a = (record_of t a).partner

-- how many links are recorded of a load, and how many to free loads
abbrev pub degree_of : Tables → ℕ → ℕ
degree_of t a = (record_of t a).degree

abbrev pub free_degree_of : Tables → ℕ → ℕ
free_degree_of t a = (record_of t a).free_degree

-- b is recorded as a free load that a is linked to
abbrev pub free_linked : Tables → ℕ → ℕ → Bool
free_linked t a b = has (slice_index_or t.free a empty) b

-- how many loads are recorded as having a partner
unfoldable pub matched_of : Tables → ℕ
matched_of t = count MOST_LOADS (has_partner (partners_of t))

-- links and free links are those of the graph g, where `free` says which loads are free
pub record Tracks (g : Graph) (free : ℕ → Bool) (t : Tables) : Type 0 where
  pub degrees : (a : ℕ) → degree_of t a ≡ degree g a
  pub sets : (a b : ℕ) → free_linked t a b ≡ (g.linked a b && free b)
  pub counts : (a : ℕ) → free_degree_of t a ≡ count g.size (λ b. g.linked a b && free b)

-- the tables agree with the graph g: a load is free if they record no partner of it, and past the
-- size none has one
pub record Agrees (g : Graph) (t : Tables) : Type 0 where
  pub tracks : Tracks g (is_free (partners_of t)) t
  pub beyond : (a : ℕ) → g.size ≤ a → partners_of t a ≡ None

-- tables of loads that are free and have no links, however many there are
pub record New (t : Tables) : Type 0 where
  pub partners : partners_of t ≡ (λ _. None)
  pub agrees : (n : ℕ) → Agrees (no_links n) t
