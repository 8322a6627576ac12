use Rattle.std.proofs.Common.{◌≡◌}
use Rattle.rules.specs.First.{first}
use Rattle.tables.specs.Views.{free_linked}
use Rattle.tables.specs.FreeLoads.{OverFree}
use Rattle.tables.proofs.Tables.first_free.Given as goal

abbrev pub invariant-loop-x : goal.invariant-loop-x
invariant-loop-x g l =
    (goal.iterator-loop-x g).can_next l.x-iterator ×
    (goal.iterator-loop-x g).is_finite l.x-iterator ×
    OverFree l.self l.a l.x-iterator ×
    (l.best ≡ first (g.R.Ranking.before l.ranking l.a) l.x-iterator.from (free_linked l.self l.a))
