-- A book of links in rows of d + 1 numbers, one row for each load.
use Rattle.std.specs.Prelude.{◌≡◌, ℕ, ◌-◌, ◌<◌, ◌≤◌, true, false, ◌&&◌, List}
use Rattle.std.specs.Prelude.{if◌then◌else◌, length, drop, is_ok, Some, None, Option, Result, nat_lt, slice_index}
use Rattle.std.specs.Borrow.{GName}
use Rattle.graph.specs.Graph.{Graph, link_count, no_links}
use Rattle.links.specs.Books.{Ledger, fresh_ledger, by_book, unless_within, unless_size}
use Rattle.links.specs.Books.{unless_limit}
use Rattle.links.specs.Memory.{Cleared}
use Rattle.links.specs.Refusals.{Reason}
use Rattle.graph.specs.declared.TheConstants.{MOST_LOADS}
use Rattle.links.specs.declared.TheConstants.{MOST_LINKS}
use Rattle.links.specs.declared.refusal.Refused.{Refused}
use Rattle.sorted_rows.specs.Row.{has, RowMade}
use Rattle.sorted_rows.specs.RowMemory.{all_numbers, row_of, loads_of_row, both_changed}
use Rattle.sorted_rows.specs.declared.SortedRows.{SortedRows}

abbrev pub graph_of : ℕ → ℕ → List ℕ → Graph
graph_of n d memory =
    record { size = n; linked = λ a b. nat_lt b n && has (loads_of_row n d memory a) b }

abbrev pub ledger_of : ℕ → ℕ → ℕ → ℕ → List ℕ → Ledger
ledger_of n d limit count memory =
    record {
      limit = limit;
      barred = λ _ _. false;
      spare = λ a. if nat_lt a n then d - slice_index (row_of d memory a) 0 else 0;
      room = limit - count;
    }

-- what holds of every book that came from its making
pub record Made (n d limit count : ℕ) (memory : List ℕ) : Type 0 where
  pub small : n ≤ MOST_LOADS
  pub limit_bound : limit ≤ MOST_LINKS
  pub long : all_numbers n d ≤ length memory
  pub rows : (a : ℕ) → a < n → RowMade n d a (row_of d memory a)
  pub symmetric : (a b : ℕ) → (graph_of n d memory).linked a b ≡ (graph_of n d memory).linked b a
  pub counted : count ≡ link_count (graph_of n d memory)
  pub within : count ≤ limit

abbrev pub loads_in_row : SortedRows → ℕ → List ℕ
loads_in_row s a = loads_of_row s.size s.row_limit s.rows.now a

abbrev pub rows_graph : SortedRows → Graph
rows_graph s = graph_of s.size s.row_limit s.rows.now

abbrev pub rows_ledger : SortedRows → Ledger
rows_ledger s = ledger_of s.size s.row_limit s.tally.limit s.tally.count s.rows.now

abbrev pub RowsMade : SortedRows → Type 0
RowsMade s = Made s.size s.row_limit s.tally.limit s.tally.count s.rows.now

-- what no call changes: whose the numbers are, how many, and those past the rows; size, row limit
-- and limit
pub record RowsFixed : Type 0 where
  pub lender : GName
  pub length : ℕ
  pub beyond : List ℕ
  pub size : ℕ
  pub row_limit : ℕ
  pub limit : ℕ

abbrev pub rows_fixed : SortedRows → RowsFixed
rows_fixed s =
    record {
      lender = s.rows.ghost_name;
      length = length s.rows.now;
      beyond = drop (all_numbers s.size s.row_limit) s.rows.now;
      size = s.size;
      row_limit = s.row_limit;
      limit = s.tally.limit;
    }

-- the first reason not to make a book of n loads with row limit d and this link limit in so much
-- memory
abbrev pub checking : ℕ → ℕ → ℕ → ℕ → Option Reason
checking n d limit memory =
    unless_size n
    (unless_limit limit
    (unless_within 255 (by_book 2) d
    (if nat_lt memory (all_numbers n d) then by_book 3 else None)))

-- a book without links
pub record Fresh (n d limit : ℕ) (s : SortedRows) : Type 0 where
  pub row_limit : s.row_limit ≡ d
  pub graph : rows_graph s ≡ no_links n
  pub ledger : rows_ledger s ≡ fresh_ledger n d limit

-- what is made in memory that held `before`: the book asked for, or, where there is a reason not to
-- make it, one of no loads
abbrev pub Making : Option Reason → ℕ → ℕ → ℕ → List ℕ → SortedRows → Type 0
Making None n d limit before s = Fresh n d limit s × Cleared (all_numbers n d) before s.rows.now
Making (Some reason) n d limit before s = Fresh 0 0 0 s × (s.rows.now ≡ before)

-- what the memory of a book that was s holds after it answered r to a call that adds or removes the
-- link of a and b
abbrev pub Written : (List ℕ → ℕ → List ℕ) → SortedRows → ℕ → ℕ → Result Unit Refused → SortedRows →
    Type 0
Written change s a b r t =
    RowsMade s → is_ok r ≡ true → t.rows.now ≡ both_changed change s.row_limit s.rows.now a b
