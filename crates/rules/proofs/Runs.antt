-- The law of runs.
use Rattle.std.proofs.Common.{◌+◌, ◌≤◌, arith}
use Rattle.graph.specs.Graph.{Graph, link_count}
use Rattle.graph.proofs.TwoThirds.{two_thirds}
use Rattle.links.specs.Books.{Ledger}
use Rattle.rules.specs.Calls.{Position, Call, after, opened}
use Rattle.rules.specs.Health.{Sound, TwoThirds, Follows}
use Rattle.rules.specs.Laws.{Within, Proper, Run, none, more, Moment}
use Rattle.rules.specs.Repair.{Ranking}
use Rattle.rules.proofs.Calls.{opening_sound, call_follows, call_kept}
use Rattle.rules.proofs.Ledgers.{follows_self, follows_on}

pub sound_two_thirds : (x : Position) → Sound x → TwoThirds x
sound_two_thirds x k q m =
    two_thirds x.graph k.simple x.partners q k.healthy.matching k.healthy.no_path_of_one k.healthy.no_path_of_three m

-- sound, with room within the limit, and following the start
record Reached (start x : Position) : Type 0 where
  sound : Sound x
  room_within : x.ledger.room + link_count x.graph ≤ x.ledger.limit
  follows : Follows start x

call_within : (before : Ranking) (start x : Position) → Reached start x → (c : Call) → Within before x c
call_within before start x r c = let sum = (call_follows before x r.sound c).room in omega (arith, r.room_within)

reached : (before : Ranking) (g : Graph) (l : Ledger) → Proper g l → (x : Position) → Run before (opened before g l) x → Reached (opened before g l) x
reached before g l k x none = record {
  sound = opening_sound before g l k.simple k.bounded;
  room_within = k.room_within;
  follows = follows_self (opened before g l);
}
reached before g l k y (more x c run) =
    let start = opened before g l in
    let r = reached before g l k x run in
    let follows = call_follows before x r.sound c in
    record {
      sound = (call_kept before x r.sound c (call_within before start x r c)).sound;
      room_within = omega (arith, follows.room, follows.limit, r.room_within);
      follows = follows_on start x (after before x c) r.follows follows;
    }

pub law_of_runs : (before : Ranking) (g : Graph) (l : Ledger) → Proper g l → (x : Position) → Run before (opened before g l) x → Moment before (opened before g l) x
law_of_runs before g l k x run =
    let r = reached before g l k x run in
    record {
      sound = r.sound;
      two_thirds = sound_two_thirds x r.sound;
      follows = r.follows;
      few = λ c. (call_kept before x r.sound c (call_within before (opened before g l) x r c)).few;
    }
