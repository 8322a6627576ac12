-- A graph without the links of one load.
use Rattle.std.specs.Prelude.{ℕ, not, ◌&&◌, ◌||◌, ◌==◌}
use Rattle.graph.specs.Graph.{Graph}

abbrev pub isolated : Graph → ℕ → Graph
isolated g a = record { size = g.size; linked = λ x y. g.linked x y && not (a == x || a == y) }
