-- The words of a bit matrix of three loads, in which only loads 0 and 1 are linked.
use Rattle.std.proofs.Common.{◌≡◌, ℕ, zero, suc, ◌+◌, ◌*◌, ◌^◌, ◌<◌, ◌≤◌, Bool, false, ◌||◌, eqb, List, ◌∷◌, length, get_or, drop, None, Option, sym, ap, ◌∙◌, subst, arith}
use Rattle.std.proofs.lemmas.Bool.Decides.{nat_tests}
use Rattle.std.proofs.lemmas.Grind.{same_number_lists}
use Rattle.std.proofs.lemmas.List.{length-drop, get_or-drop}
use Rattle.graph.specs.Graph.{Graph, no_links}
use Rattle.links.specs.Books.{Stands, fresh_ledger}
use Rattle.links.specs.Refusals.{Reason}
use Rattle.bits.specs.Bit.{bit}
use Rattle.bits.proofs.Bitwise.{bit_zero, bit_set, same_word}
use Rattle.bit_matrix.specs.declared.BitMatrix.{BitMatrix}
use Rattle.bit_matrix.specs.Matrix.{matrix_graph, MatrixMade, matrix_ledger, matrix_fixed, checking, Making}
use Rattle.bit_matrix.specs.Theorems.{MemoryHolds, MemoryFollows}
use Rattle.book_examples.proofs.Three.{one_link}

-- a matrix that is made in enough words has no links and all spares
pub stands_fresh : (reason : Option Reason) (before : List ℕ) (m : BitMatrix) → reason ≡ None → Making reason 3 3 before m → Stands matrix_graph MatrixMade matrix_ledger m (no_links 3) (fresh_ledger 3 2 3)
stands_fresh reason before m none making = (subst (λ (o : Option Reason). Making o 3 3 before m) none making).0

pub long_enough : (memory : ℕ) → checking 3 3 memory ≡ None → 3 ≤ memory
long_enough memory none = grind (arith, nat_tests)

row_0 : (j : ℕ) → one_link.linked 0 j ≡ eqb 1 j
row_0 j = grind (arith, nat_tests)

row_1 : (j : ℕ) → one_link.linked 1 j ≡ eqb 0 j
row_1 j = grind (arith, nat_tests)

row_2 : (j : ℕ) → one_link.linked 2 j ≡ false
row_2 j = grind (arith, nat_tests)

bit_of_two : (j : ℕ) → bit 2 j ≡ eqb 1 j
bit_of_two j =
    let set : bit 2 j ≡ (bit 0 j || eqb 1 j) = bit_set 0 1 j (omega arith) in
    set ∙ ap (λ (t : Bool). t || eqb 1 j) (bit_zero j)

bit_of_one : (j : ℕ) → bit 1 j ≡ eqb 0 j
bit_of_one j =
    let set : bit 1 j ≡ (bit 0 j || eqb 0 j) = bit_set 0 0 j (omega arith) in
    set ∙ ap (λ (t : Bool). t || eqb 0 j) (bit_zero j)

pub words_then : (reason : Option Reason) (before after : List ℕ) (m u : BitMatrix) → reason ≡ None → Making reason 3 3 before m → matrix_fixed u ≡ matrix_fixed m → matrix_graph u ≡ one_link → MatrixMade u → MemoryFollows → after ≡ u.words.now
    → ((i : ℕ) → get_or after i 0 < 2 ^ 64) → 3 ≤ length before → after ≡ 2 ∷ 1 ∷ 0 ∷ drop 3 before
words_then reason before after m u none making stays graph-u made-u follows same fits long =
    same_number_lists after (2 ∷ 1 ∷ 0 ∷ drop 3 before) (omega (arith, ap length same, holds.same_length, length-drop 3 before)) at
  where
    holds : MemoryHolds 3 one_link before u.words.now
    holds =
        subst (λ (g : Graph). MemoryHolds 3 g before u.words.now) graph-u
        (follows 3 3 before m u (subst (λ (o : Option Reason). Making o 3 3 before m) none making) stays made-u)

    word : (a v : ℕ) → a < 3 → v < 2 ^ 64 → ((j : ℕ) → bit v j ≡ one_link.linked a j) → get_or after a 0 ≡ v
    word a v l fits-v is =
        same_word (get_or after a 0) v (fits a) fits-v
        (λ j h.
        let first : a * 1 + 0 ≡ a = omega arith in
        let place : 64 * 0 + j ≡ j = omega arith in
        ap (λ (xs : List ℕ). bit (get_or xs a 0) j) same
        ∙ ap (λ (k : ℕ). bit (get_or u.words.now k 0) j) (sym first)
        ∙ holds.matrix.links a 0 j l (omega arith) h
        ∙ ap (one_link.linked a) place
        ∙ sym (is j))

    at : (k : ℕ) → k < length after → get_or after k 0 ≡ get_or (2 ∷ 1 ∷ 0 ∷ drop 3 before) k 0
    at zero l = word 0 2 (omega arith) (omega arith) (λ j. bit_of_two j ∙ sym (row_0 j))
    at (suc zero) l = word 1 1 (omega arith) (omega arith) (λ j. bit_of_one j ∙ sym (row_1 j))
    at (suc (suc zero)) l = word 2 0 (omega arith) (omega arith) (λ j. bit_zero j ∙ sym (row_2 j))
    at (suc (suc (suc k))) l =
        let past : suc (suc (suc k)) ≡ 3 + k = omega arith in
        ap (λ (xs : List ℕ). get_or xs (suc (suc (suc k))) 0) same
        ∙ holds.beyond (suc (suc (suc k))) (omega arith)
        ∙ ap (λ (i : ℕ). get_or before i 0) past ∙ sym (get_or-drop 3 before k 0)
