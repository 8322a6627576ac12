-- What the memory of a book in rows holds, and what is left to its loads.
use Rattle.std.proofs.Common.{◌≡◌, ℕ, ◌+◌, ◌-◌, ◌*◌, ◌<◌, List, ◌∷◌, ◌++◌, get_or, drop, replicate, None, sym, ap, ◌∙◌, subst, ap₂, arith}
use Rattle.std.proofs.lemmas.Bool.{lt-ltb, cond-true}
use Rattle.links.proofs.Memory.{same_past}
use Rattle.graph.specs.Graph.{Graph, degree}
use Rattle.sorted_rows.specs.Row.{entries}
use Rattle.sorted_rows.specs.RowMemory.{loads_of_row, row_of}
use Rattle.sorted_rows.proofs.Rising.{rising_filtered}
use Rattle.sorted_rows.proofs.RowLaws.{row_parts}
use Rattle.sorted_rows.specs.declared.SortedRows.{SortedRows}
use Rattle.sorted_rows.specs.Rows.{rows_graph, RowsMade, RowsFixed, rows_fixed, Making}
use Rattle.sorted_rows.specs.Theorems.{linked_loads, RowsHold, MemoryHolds, Spared}
use Rattle.sorted_rows.proofs.MadeRows.{loads_in, long_row, rising, below, linked_is, length_loads, degree_is, spare_is, degree_within}

pub rows_hold : (s : SortedRows) → RowsMade s → RowsHold s.row_limit (rows_graph s) s.rows.now
rows_hold s made a l =
    row_parts s.size s.row_limit a (row_of s.row_limit s.rows.now a) (made.rows a l) (long_row _ _ _ _ _ made a l)
    ∙ ap₂ (λ (k : ℕ) (xs : List ℕ). k ∷ (xs ++ replicate (s.row_limit - k) 0)) count loads
  where
    count : get_or (row_of s.row_limit s.rows.now a) 0 0 ≡ degree (rows_graph s) a
    count = sym (degree_is _ _ _ _ _ made a ∙ length_loads _ _ _ _ _ made a l)

    loads : entries (row_of s.row_limit s.rows.now a) ≡ linked_loads (rows_graph s) a
    loads =
        sym (loads_in s.size s.row_limit s.rows.now a l)
        ∙ rising_filtered ((rows_graph s).linked a) 0 s.size (loads_of_row s.size s.row_limit s.rows.now a)
        (rising _ _ _ _ _ made a) (λ b _. sym (linked_is _ _ _ _ _ made a b)) (λ b on. omega (arith, below _ _ _ _ _ made a b on))

pub memory_holds : (n d limit : ℕ) (before : List ℕ) (s t : SortedRows) → Making None n d limit before s → rows_fixed t ≡ rows_fixed s → RowsMade t → MemoryHolds n d (rows_graph t) before t.rows.now
memory_holds n d limit before s t (fresh, cleared) stays made =
    record {
      same_size = size-t ∙ size-s;
      same_length = ap (λ (f : RowsFixed). f.length) stays ∙ cleared.same_length;
      rows = subst (λ (k : ℕ). RowsHold k (rows_graph t) t.rows.now) (limit-t ∙ fresh.row_limit) (rows_hold t made);
      beyond = λ k l. same_past (n * (d + 1)) k t.rows.now s.rows.now past l ∙ cleared.beyond k l;
    }
  where
    size-t : t.size ≡ s.size
    size-t = ap (λ (f : RowsFixed). f.size) stays

    size-s : s.size ≡ n
    size-s = ap (λ (g : Graph). g.size) fresh.graph

    limit-t : t.row_limit ≡ s.row_limit
    limit-t = ap (λ (f : RowsFixed). f.row_limit) stays

    past : drop (n * (d + 1)) t.rows.now ≡ drop (n * (d + 1)) s.rows.now
    past =
        ap₂ (λ (x y : ℕ). drop (x * (y + 1)) t.rows.now) (sym (size-t ∙ size-s)) (sym (limit-t ∙ fresh.row_limit))
        ∙ ap (λ (f : RowsFixed). f.beyond) stays
        ∙ ap₂ (λ (x y : ℕ). drop (x * (y + 1)) s.rows.now) size-s fresh.row_limit

pub spared : (s : SortedRows) → RowsMade s → (a : ℕ) → a < s.size → Spared s a
spared s made a l =
    record {
      within = degree_within _ _ _ _ _ made a l;
      left = spare_is _ _ _ _ _ made a ∙ cond-true _ _ _ (lt-ltb a s.size l);
    }
