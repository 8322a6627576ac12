-- Repairs that look right and are not: each is the repair with one change, on a board that it
-- leaves unhealthy.
use Rattle.std.specs.Prelude.{◌≡◌, ℕ, Bool, false, ◌&&◌, List, [], ◌∷◌, Some, None, Option}
use Rattle.std.specs.Prelude.{nat_lt, if◌then◌else◌}
use Rattle.graph.specs.Graph.{Graph, degree, added, removed}
use Rattle.graph.specs.Matching.{Partners, FreeWalk}
use Rattle.graph.specs.Pairs.{is_free}
use Rattle.rules.specs.Boards.{by_number, fresh, played, six}
use Rattle.rules.specs.Calls.{Position, Call, link, in_order, parted}
use Rattle.rules.specs.First.{first}
use Rattle.rules.specs.Health.{Healthy}
use Rattle.rules.specs.Repair.{paired, freed, paired_found, any_below, each, free_link, match_free}
use Rattle.rules.specs.Repair.{path_start_of, exchanged, light_start_of, displace, improve}
use Rattle.rules.specs.Threshold.{threshold}

abbrev pub Unhealthy : Graph → ℕ → Partners → Type 0
Unhealthy g limit p = Healthy g (threshold limit) p → ⊥

-- ---- both phases at one end of a parted pair, and then at the other

abbrev pub repaired_in_turn : ℕ → Graph → List ℕ → Partners → Partners
repaired_in_turn t g = each (λ a p. improve by_number t g a (match_free by_number g a p))

abbrev pub six_graph : Graph
six_graph = removed six.graph 0 1

abbrev pub six_in_turn : Partners
six_in_turn =
    repaired_in_turn (threshold 8) six_graph (in_order 0 1)
    (parted 0 1 six.partners (six.partners 0))

-- the path 0, 2, 3, 1 is taken before 1 is matched, and the path 4, 3, 1, 5 is left
pub record InTurn : Type 0 where
  pub left_over : FreeWalk six_graph six_in_turn 4 3 1 5
  pub unhealthy : Unhealthy six_graph 8 six_in_turn

-- ---- a path that ends where it began

abbrev pub ends_anywhere : Graph → Partners → Option ℕ → ℕ → Bool
ends_anywhere g p None z = false
ends_anywhere g p (Some y) z = free_link g p y z

abbrev pub closed_exchanged : Graph → Partners → ℕ → ℕ → Option ℕ → Partners
closed_exchanged g p a x None = p
closed_exchanged g p a x (Some y) =
    paired_found y (first (by_number y) g.size (ends_anywhere g p (Some y))) (paired a x p)

abbrev pub closed_improved : ℕ → Graph → Partners → ℕ → Option ℕ → Partners
closed_improved t g p a None = displace by_number t g a p
closed_improved t g p a (Some x) = closed_exchanged g p a x (p x)

abbrev pub closed_improve : ℕ → Graph → ℕ → Partners → Partners
closed_improve t g a p =
    if is_free p a then closed_improved t g p a
    (first (by_number a) g.size
    (λ x. g.linked a x && any_below g.size (ends_anywhere g p (p x)))) else p

abbrev pub wedge : Position
wedge = played (link 1 2 ∷ link 0 1 ∷ []) (fresh 3 3)

abbrev pub triangle : Graph
triangle = added wedge.graph 0 2

abbrev pub triangle_closed : Partners
triangle_closed =
    each (closed_improve (threshold 3) triangle) (0 ∷ 2 ∷ [])
    (each (match_free by_number triangle) (0 ∷ 2 ∷ []) wedge.partners)

-- load 0 takes 1 from 2, and then 2 takes 0: the partner of 1 is not its own
pub record Closed : Type 0 where
  pub of_one : triangle_closed 1 ≡ Some 0
  pub of_zero : triangle_closed 0 ≡ Some 2
  pub unhealthy : Unhealthy triangle 3 triangle_closed

-- ---- the displaced load left as it is

abbrev pub only_displaced : Partners → ℕ → ℕ → Option ℕ → Partners
only_displaced p a x None = p
only_displaced p a x (Some y) = freed y (paired a x p)

abbrev pub only_displaced_from : Partners → ℕ → Option ℕ → Partners
only_displaced_from p a None = p
only_displaced_from p a (Some x) = only_displaced p a x (p x)

abbrev pub only_improved : ℕ → Graph → Partners → ℕ → Option ℕ → Partners
only_improved t g p a None =
    if nat_lt t (degree g a) then only_displaced_from p a (light_start_of by_number t g p a) else p
only_improved t g p a (Some x) = exchanged by_number g p a x (p x)

abbrev pub only_improve : ℕ → Graph → ℕ → Partners → Partners
only_improve t g a p =
    if is_free p a then only_improved t g p a (path_start_of by_number g p a) else p

-- load 0 with five links, and a path from the partner of its first neighbour on: 2, 7, 8, 9
abbrev pub tail_calls : List Call
tail_calls =
    link 1 2 ∷ link 3 4 ∷ link 5 6 ∷ link 7 8 ∷ link 2 7 ∷ link 8 9 ∷ link 0 1 ∷ link 0 2
    ∷ link 0 3 ∷ link 0 4 ∷ link 0 5 ∷ []

abbrev pub tail : Position
tail = played tail_calls (fresh 10 12)

abbrev pub tail_graph : Graph
tail_graph = added tail.graph 0 6

abbrev pub tail_displaced : Partners
tail_displaced =
    each (only_improve (threshold 12) tail_graph) (0 ∷ 6 ∷ [])
    (each (match_free by_number tail_graph) (0 ∷ 6 ∷ []) tail.partners)

pub record OnlyDisplaced : Type 0 where
  pub left_over : FreeWalk tail_graph tail_displaced 2 7 8 9
  pub unhealthy : Unhealthy tail_graph 12 tail_displaced
