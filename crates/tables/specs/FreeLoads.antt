-- The free loads that a load is linked to, in rising order.
use Rattle.std.specs.Prelude.{◌≡◌, ℕ}
use Rattle.graph.specs.declared.TheConstants.{MOST_LOADS}
use Rattle.links.specs.declared.members.MembersInOrder.{MembersInOrder}
use Rattle.tables.specs.declared.Tables.{Tables}
use Rattle.tables.specs.declared.free_loads.FreeLinked.{FreeLinked}

-- the iterator w gives the free loads that a is linked to
pub record OverFree (t : Tables) (a : ℕ) (w : MembersInOrder FreeLinked) : Type 0 where
  pub tables_are : w.set.tables.now ≡ t
  pub load_is : w.set.load ≡ a
  pub end_is : w.end ≡ MOST_LOADS
