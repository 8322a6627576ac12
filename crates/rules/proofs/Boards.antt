-- The boards are computed, and the law of runs holds of them.
use Rattle.std.proofs.Common.{◌≡◌, ℕ, ◌-◌, ◌≤◌, false, List, [], ◌∷◌, Some, None, refl, arith}
use Rattle.std.proofs.lemmas.Bool.{le-ltb, both_ways}
use Rattle.graph.specs.Graph.{Graph, Simple, no_links}
use Rattle.graph.specs.Matching.{Partners, Matching, FreeWalk}
use Rattle.graph.proofs.Changes.{added_simple, removed_simple}
use Rattle.graph.proofs.Counts.{link_count_none}
use Rattle.graph.proofs.Paths.{free_taken, of_three}
use Rattle.links.specs.Books.{fresh_ledger}
use Rattle.rules.specs.Boards.{Row, Six, Star, Ranked, Refusals, by_number, fresh, played, row, row_calls, six, six_calls, RowAugmenting}
use Rattle.rules.specs.Calls.{Position, Call, after}
use Rattle.rules.specs.Laws.{Proper, Run, none, more}
use Rattle.rules.specs.FailingRepairs.{InTurn, Closed, OnlyDisplaced, Unhealthy, six_graph, six_in_turn, triangle_closed, tail, tail_calls, tail_graph, tail_displaced}
use Rattle.rules.specs.Repair.{paired}
use Rattle.rules.proofs.Runs.{law_of_runs}
use Rattle.rules.proofs.Updates.{paired_matching}

pub row_played : Row
row_played = record {
  granted = refl;
  pairs = refl;
  counted = refl;
  departs = refl;
  links_left = refl;
  pairs_left = refl;
  spares_left = refl;
  room_left = refl;
  departs_no_more = refl;
}

pub six_played : Six
six_played = record { granted = refl; pairs = refl; parts = refl; pairs_then = refl }

pub star_played : Star
star_played = record { granted = refl; free = refl; links = refl; links_once_more = refl; pairs = refl }

pub ranked_played : Ranked
ranked_played = refl

pub refusals_told : Refusals
refusals_told = record {
  not_a_load = refl;
  same_load = refl;
  linked_already = refl;
  not_linked = refl;
  no_spare = refl;
  no_room = refl;
  partner_of_none = refl;
  withdraws_free = refl;
}

pub fresh_proper : (n limit : ℕ) → n ≤ 256 → limit ≤ 32640 → Proper (no_links n) (fresh_ledger n (n - 1) limit)
fresh_proper n limit small bound =
    let no_links = link_count_none (no_links n) (λ _ _. refl) in
    record {
      simple = record { small = small; loopless = λ _. refl; symmetric = λ _ _. refl; below = λ a b e. absurd (both_ways false refl e) };
      bounded = record {
        limit_bound = bound;
        within = omega arith;
        barred_symmetric = λ _ _. refl;
        barred_below = λ a b e. absurd (both_ways false refl e);
        spare_below = λ a past. rw (le-ltb a n past) refl;
      };
      room_within = omega arith;
    }

played_run : (start : Position) (calls : List Call) (x : Position) → Run by_number start x → Run by_number start (played calls x)
played_run start [] x run = run
played_run start (c ∷ rest) x run = played_run start rest (after by_number x c) (more x c run)

played_simple : (n limit : ℕ) → n ≤ 256 → limit ≤ 32640 → (calls : List Call) → Simple (played calls (fresh n limit)).graph
played_simple n limit small bound calls =
    (law_of_runs by_number (no_links n) (fresh_ledger n (n - 1) limit) (fresh_proper n limit small bound) (played calls (fresh n limit))
    (played_run (fresh n limit) calls (fresh n limit) none)).sound.simple

pub row_augmenting : RowAugmenting
row_augmenting =
    let s = played_simple 4 8 (omega arith) (omega arith) row_calls in
    let nothing : Matching row.graph (λ _. None) = record { returned = λ u v e. absurd (free_taken None v refl e); linked = λ u v e. absurd (free_taken None v refl e) } in
    (of_three row.graph s (paired 1 2 (λ _. None)) (paired_matching row.graph s (λ _. None) nothing 1 2 refl refl refl)).path 0 1 2 3
    (record { begins = refl; first = refl; pair = refl; last = refl; ends = refl; apart = λ e. omega arith })

-- a walk over a pair to another free load is a path of three links
walk_unhealthy : (g : Graph) (limit : ℕ) (p : Partners) → Simple g → (a x y z : ℕ) → FreeWalk g p a x y z → Unhealthy g limit p
walk_unhealthy g limit p s a x y z walk h = h.no_path_of_three (a ∷ x ∷ y ∷ z ∷ []) ((of_three g s p h.matching).path a x y z walk)

pub in_turn : InTurn
in_turn =
    let walk : FreeWalk six_graph six_in_turn 4 3 1 5 = record { begins = refl; first = refl; pair = refl; last = refl; ends = refl; apart = λ e. omega arith } in
    record {
      left_over = walk;
      unhealthy = walk_unhealthy six_graph 8 six_in_turn (removed_simple six.graph 0 1 (played_simple 6 8 (omega arith) (omega arith) six_calls)) 4 3 1 5 walk;
    }

pub closed : Closed
closed = record {
  of_one = refl;
  of_zero = refl;
  unhealthy = λ h. let back : triangle_closed 0 ≡ Some 1 = h.matching.returned 1 0 refl in let z : ◌≡◌ {A = ℕ} 1 2 = cc (back) in omega arith;
}

pub only_displaced_left : OnlyDisplaced
only_displaced_left =
    let walk : FreeWalk tail_graph tail_displaced 2 7 8 9 = record { begins = refl; first = refl; pair = refl; last = refl; ends = refl; apart = λ e. omega arith } in
    record {
      left_over = walk;
      unhealthy = walk_unhealthy tail_graph 12 tail_displaced
          (added_simple tail.graph 0 6 (played_simple 10 12 (omega arith) (omega arith) tail_calls) (λ e. omega arith) (omega arith) (omega arith)) 2 7 8 9 walk;
    }
