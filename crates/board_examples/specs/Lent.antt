-- A board of six loads played out on a book in lent memory.
use Rattle.std.specs.Prelude.{◌≡◌, ℕ, ◌<◌, ◌≤◌, List, length, Ok, Err, Result, slice_index}
use Rattle.graph.specs.Graph.{Graph, no_links, added, removed}
use Rattle.graph.specs.Isolated.{isolated}
use Rattle.bits.specs.Bit.{bit}
use Rattle.links.specs.Books.{Ledger}
use Rattle.links.specs.declared.refusal.Layer.TheVariants.{Board as ByBoard}
use Rattle.links.specs.declared.refusal.Refusal.TheVariants.{NoSuchLoad}
use Rattle.links.specs.declared.refusal.Refused.{Refused}
use Rattle.rules.specs.Boards.{fresh}
use Rattle.rules.specs.Repair.{Ranking}
use Rattle.board.specs.declared.Board.{Board}
use Rattle.board.specs.Boards.{position, Stands}
use Rattle.board.specs.Runs.{CarriesRuns}

-- six links after 0 and 1 were unlinked
abbrev pub five_links : Graph
five_links =
    removed (added (added (added (added (added (added (no_links 6) 0 1) 2 3) 0 2) 1 3) 1 5) 3 4) 0 1

-- and after 4 and 3 have departed
abbrev pub links_left : Graph
links_left = isolated (isolated five_links 4) 3

-- calls led from a board s to t. On a fresh board all is granted but the linking of 0 and 6, and
-- its links are those that are left
pub record PlaysOut
    {B R F : Type 0} (graph : B → Graph) (made : B → Type 0) (ledger : B → Ledger) (fixed : B → F)
    (before : R → Ranking) (s : Board B R) (r : Result (Result Unit Refused) Refused)
    (t : Board B R) : Type 0 where
  pub run : CarriesRuns graph made ledger fixed before s t
  pub answers : Stands graph made ledger s → position graph ledger s ≡ fresh 6 8 →
      r ≡ Ok (Err (record { refusal = NoSuchLoad; layer = ByBoard }))
  pub graph_is : Stands graph made ledger s → position graph ledger s ≡ fresh 6 8 →
      graph t.book ≡ links_left

-- memory of as many words as before: first these values, bit by bit, and then what was there before
pub record WordsAre (values before after : List ℕ) : Type 0 where
  pub same_length : length after ≡ length before
  pub bits : (k j : ℕ) → k < length values → j < 64 →
      bit (slice_index after k) j ≡ bit (slice_index values k) j
  pub beyond : (k : ℕ) → length values ≤ k → slice_index after k ≡ slice_index before k
