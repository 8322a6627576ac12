-- What holds of every book in rows that came from its making.
use Rattle.std.specs.Prelude.{◌≡◌, ℕ, ◌-◌, ◌<◌, ◌≤◌, List, ◌∷◌, ◌++◌, length, None}
use Rattle.std.specs.Prelude.{nat_lt, replicate, slice_index}
use Rattle.std.specs.List.{filter, range_with_len}
use Rattle.graph.specs.Graph.{Graph, degree}
use Rattle.strict_order.specs.StrictOrder.{StrictTotal}
use Rattle.sorted_rows.specs.RowMemory.{all_numbers, row_of}
use Rattle.sorted_rows.specs.declared.SortedRows.{SortedRows}
use Rattle.sorted_rows.specs.Rows.{rows_graph, rows_ledger, RowsMade, rows_fixed, Making}

-- the loads that are linked to a, in rising order
abbrev pub linked_loads : Graph → ℕ → List ℕ
linked_loads g a = filter (g.linked a) (range_with_len 0 g.size)

-- row a: how many loads are linked to a, these loads in rising order, then zeros
abbrev pub RowsHold : ℕ → Graph → List ℕ → Type 0
RowsHold d g memory =
    (a : ℕ) → a < g.size →
    row_of d memory a ≡ degree g a ∷ (linked_loads g a ++ replicate (d - degree g a) 0)

abbrev pub RowsOfGraph : Type 0
RowsOfGraph = (s : SortedRows) → RowsMade s → RowsHold s.row_limit (rows_graph s) s.rows.now

-- memory that held `before`, and in which a book of n loads with row limit d was made that has the
-- links of g now: all its numbers
pub record MemoryHolds (n d : ℕ) (g : Graph) (before after : List ℕ) : Type 0 where
  pub same_size : g.size ≡ n
  pub same_length : length after ≡ length before
  pub rows : RowsHold d g after
  pub beyond : (k : ℕ) → all_numbers n d ≤ k → slice_index after k ≡ slice_index before k

-- from the making of s on, through all calls, up to t
abbrev pub MemoryFollows : Type 0
MemoryFollows =
    (n d limit : ℕ) (before : List ℕ) (s t : SortedRows) → Making None n d limit before s →
    rows_fixed t ≡ rows_fixed s → RowsMade t → MemoryHolds n d (rows_graph t) before t.rows.now

-- the spare of a load is what its degree leaves of the row limit
pub record Spared (s : SortedRows) (a : ℕ) : Type 0 where
  pub within : degree (rows_graph s) a ≤ s.row_limit
  pub left : (rows_ledger s).spare a ≡ s.row_limit - degree (rows_graph s) a

abbrev pub SparesLeft : Type 0
SparesLeft = (s : SortedRows) → RowsMade s → (a : ℕ) → a < s.size → Spared s a

-- the order in which a row has its loads: of two numbers that are not equal, exactly one is lower
abbrev pub NumbersOrdered : Type 0
NumbersOrdered = StrictTotal ◌≡◌ nat_lt
