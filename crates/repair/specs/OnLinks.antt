-- What holds of a repair, by the links that it goes by.
use Rattle.std.specs.Prelude.{ℕ}
use Rattle.graph.specs.Graph.{Graph}
use Rattle.rules.specs.Repair.{Ranking}
use Rattle.rules.specs.Threshold.{threshold}
use Rattle.tables.specs.Changes.{OfLinks}
use Rattle.repair.specs.declared.Repair.{Repair}

-- what holds by a repair's ranking and the threshold of its limit for the graph of its links, where
-- these came from their making
abbrev pub OnLinks : {L R : Type 0} → (L → Type 0) → (L → Graph) → (R → Ranking) → Repair L R
    → (Ranking → ℕ → Graph → Type 0) → Type 0
OnLinks made graph before r Holds =
    OfLinks (made r.links.now) (graph r.links.now)
    (Holds (before r.ranking.now) (threshold r.limit))
