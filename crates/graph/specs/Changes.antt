-- What one link more or fewer, and the loss of a load's links, do to the number of links.
use Rattle.std.specs.Prelude.{◌≡◌, ℕ, ◌+◌, ◌<◌, true, false, ◌≢◌}
use Rattle.graph.specs.Graph.{Graph, Simple, degree, link_count, added, removed}
use Rattle.graph.specs.Isolated.{isolated}

pub record Counted (g : Graph) : Type 0 where
  pub adding : (a b : ℕ) → (a ≢ b) → a < g.size → b < g.size → g.linked a b ≡ false
      → link_count (added g a b) ≡ link_count g + 1
  pub removing : (a b : ℕ) → (a ≢ b) → a < g.size → b < g.size → g.linked a b ≡ true
      → link_count (removed g a b) + 1 ≡ link_count g
  pub isolating : (a : ℕ) → a < g.size → link_count (isolated g a) + degree g a ≡ link_count g

abbrev pub LinksCounted : Type 0
LinksCounted = (g : Graph) → Simple g → Counted g
