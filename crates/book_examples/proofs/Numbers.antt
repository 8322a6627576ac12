-- The numbers of rows of three loads with row limit 2, in which only loads 0 and 1 are linked.
use Rattle.std.proofs.Common.{◌≡◌, ℕ, zero, suc, ◌+◌, ◌*◌, ◌<◌, ◌≤◌, List, [], ◌∷◌, ◌++◌, length, get_or, drop, None, Option, sym, ap, ◌∙◌, subst, arith}
use Rattle.std.proofs.lemmas.Bool.Decides.{nat_tests}
use Rattle.std.proofs.lemmas.Grind.{same_number_lists}
use Rattle.std.proofs.lemmas.List.{length-drop, get_or-drop}
use Rattle.graph.specs.Graph.{Graph, no_links}
use Rattle.links.specs.Books.{Stands, fresh_ledger}
use Rattle.links.specs.Refusals.{Reason}
use Rattle.sorted_rows.specs.RowMemory.{row_of}
use Rattle.sorted_rows.proofs.RowMemory.{get_row_of}
use Rattle.sorted_rows.specs.declared.SortedRows.{SortedRows}
use Rattle.sorted_rows.specs.Rows.{rows_graph, RowsMade, rows_ledger, rows_fixed, checking, Making}
use Rattle.sorted_rows.specs.Theorems.{MemoryHolds, MemoryFollows}
use Rattle.book_examples.proofs.Three.{one_link}

pub stands_fresh : (reason : Option Reason) (before : List ℕ) (s : SortedRows) → reason ≡ None → Making reason 3 2 3 before s → RowsMade s → Stands rows_graph RowsMade rows_ledger s (no_links 3) (fresh_ledger 3 2 3)
stands_fresh reason before s none making made =
    let new = (subst (λ (o : Option Reason). Making o 3 2 3 before s) none making).0 in
    record { graph_is = new.graph; ledger_is = new.ledger; still_made = made }

pub long_enough : (memory : ℕ) → checking 3 2 3 memory ≡ None → 9 ≤ memory
long_enough memory none = grind (arith, nat_tests)

abbrev pub three_rows : List ℕ → List ℕ
three_rows rest = (1 ∷ 1 ∷ 0 ∷ []) ++ (1 ∷ 0 ∷ 0 ∷ []) ++ (0 ∷ 0 ∷ 0 ∷ []) ++ rest

pub numbers_then : (reason : Option Reason) (before after : List ℕ) (s u : SortedRows) → reason ≡ None → Making reason 3 2 3 before s → rows_fixed u ≡ rows_fixed s → rows_graph u ≡ one_link → RowsMade u → MemoryFollows → after ≡ u.rows.now
    → 9 ≤ length before → after ≡ three_rows (drop 9 before)
numbers_then reason before after s u none making stays graph-u made-u follows same long =
    same_number_lists after (three_rows (drop 9 before)) (omega (arith, ap length same, holds.same_length, length-drop 9 before)) at
  where
    holds : MemoryHolds 3 2 one_link before u.rows.now
    holds =
        subst (λ (g : Graph). MemoryHolds 3 2 g before u.rows.now) graph-u
        (follows 3 2 3 before s u (subst (λ (o : Option Reason). Making o 3 2 3 before s) none making) stays made-u)

    number : (a j : ℕ) → j < 3 → (row : List ℕ) → row_of 2 u.rows.now a ≡ row → get_or after (a * 3 + j) 0 ≡ get_or row j 0
    number a j l row is =
        ap (λ (xs : List ℕ). get_or xs (a * 3 + j) 0) same
        ∙ sym (get_row_of 2 u.rows.now a j 0 l)
        ∙ ap (λ (xs : List ℕ). get_or xs j 0) is

    row_0 : row_of 2 u.rows.now 0 ≡ 1 ∷ 1 ∷ 0 ∷ []
    row_0 = holds.rows 0 (omega arith)

    row_1 : row_of 2 u.rows.now 1 ≡ 1 ∷ 0 ∷ 0 ∷ []
    row_1 = holds.rows 1 (omega arith)

    row_2 : row_of 2 u.rows.now 2 ≡ 0 ∷ 0 ∷ 0 ∷ []
    row_2 = holds.rows 2 (omega arith)

    at : (k : ℕ) → k < length after → get_or after k 0 ≡ get_or (three_rows (drop 9 before)) k 0
    at zero l = number 0 0 (omega arith) _ row_0
    at (suc zero) l = number 0 1 (omega arith) _ row_0
    at (suc (suc zero)) l = number 0 2 (omega arith) _ row_0
    at (suc (suc (suc zero))) l = number 1 0 (omega arith) _ row_1
    at (suc (suc (suc (suc zero)))) l = number 1 1 (omega arith) _ row_1
    at (suc (suc (suc (suc (suc zero))))) l = number 1 2 (omega arith) _ row_1
    at (suc (suc (suc (suc (suc (suc zero)))))) l = number 2 0 (omega arith) _ row_2
    at (suc (suc (suc (suc (suc (suc (suc zero))))))) l = number 2 1 (omega arith) _ row_2
    at (suc (suc (suc (suc (suc (suc (suc (suc zero)))))))) l = number 2 2 (omega arith) _ row_2
    at (suc (suc (suc (suc (suc (suc (suc (suc (suc k))))))))) l =
        let k' : ℕ = suc (suc (suc (suc (suc (suc (suc (suc (suc k)))))))) in
        let past : k' ≡ 9 + k = omega arith in
        ap (λ (xs : List ℕ). get_or xs k' 0) same
        ∙ holds.beyond k' (omega arith)
        ∙ ap (λ (i : ℕ). get_or before i 0) past ∙ sym (get_or-drop 9 before k 0)
