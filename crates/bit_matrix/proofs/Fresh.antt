-- A bit matrix whose words are 0.
use Rattle.std.proofs.Common.{◌≡◌, ℕ, ◌-◌, ◌*◌, ◌%◌, ◌<◌, ◌≤◌, false, cond, ltb, List, length, get_or, None, sym, ap, ◌∙◌, ⊎_elim, arith}
use Rattle.std.proofs.lemmas.Bool.{cases_lt}
use Rattle.std.proofs.lemmas.Bool.Decides.{nat_tests}
use Rattle.graph.specs.Graph.{degree}
use Rattle.graph.proofs.Counts.{count_none, link_count_none}
use Rattle.bits.specs.Bit.{bit}
use Rattle.bits.proofs.Bitwise.{bit_zero}
use Rattle.links.specs.declared.tally.Tally.{Tally}
use Rattle.bit_matrix.specs.declared.BitMatrix.{BitMatrix}
use Rattle.bit_matrix.specs.Matrix.{row_words, all_words, word_at, cell, matrix, matrix_graph, checking, Fresh}
use Rattle.bit_matrix.proofs.Cells.{linked_in, linked_past, linked_past_row, word_in}

pub checked_bounds : (n limit memory : ℕ) → checking n limit memory ≡ None → (n ≤ 256) × (limit ≤ 32640) × (all_words n ≤ memory)
checked_bounds n limit memory e = grind (arith, nat_tests)

abbrev Zeros : ℕ → List ℕ → Type 0
Zeros used words = (k : ℕ) → k < used → get_or words k 0 ≡ 0

cell_zero : (n : ℕ) (words : List ℕ) → Zeros (all_words n) words → (a b : ℕ) → a < n → b < 64 * row_words n → cell n words a b ≡ false
unfolding cell
cell_zero n words zeros a b l m = ap (λ (x : ℕ). bit x (b % 64)) (zeros (word_at n a b) (word_in n a b l m)) ∙ bit_zero (b % 64)

linked_zero : (n : ℕ) (words : List ℕ) → Zeros (all_words n) words → (a b : ℕ) → (matrix n words).linked a b ≡ false
linked_zero n words zeros a b =
    ⊎_elim
    (λ l. ⊎_elim (λ m. linked_in n words a b l m ∙ cell_zero n words zeros a b l (omega arith)) (λ m. linked_past n words a b m) (cases_lt b n))
    (λ l. linked_past_row n words a b l)
    (cases_lt a n)

pub fresh_from_zeros : (m : BitMatrix) (limit : ℕ) → m.size ≤ 256 → limit ≤ 32640 → m.tally ≡ record { limit = limit; count = 0 } → all_words m.size ≤ length m.words.now → Zeros (all_words m.size) m.words.now → Fresh m.size limit m
fresh_from_zeros m limit small bound new enough zeros =
    record {
      graph_is = λ i. record { size = m.size; linked = λ a b. off a b i };
      ledger_is = λ i. record {
        limit = (new i).limit;
        barred = λ _ _. false;
        spare = λ a. cond (ltb a m.size) (all_spare a i) 0;
        room = all_room i;
      };
      still_made = record {
        small = small;
        limit_bound = omega (arith, limit_is);
        enough = enough;
        loopless = λ a l. zero a a l (omega arith);
        symmetric = λ a b l k. zero a b l (omega arith) ∙ sym (zero b a k (omega arith));
        padded = λ a b l _ k. zero a b l k;
        counted = none ∙ sym (link_count_none (matrix_graph m) off);
        within = omega (arith, none);
      };
    }
  where
    limit_is : m.tally.limit ≡ limit
    limit_is = ap (λ (t : Tally). t.limit) new

    none : m.tally.count ≡ 0
    none = ap (λ (t : Tally). t.count) new

    zero : (a b : ℕ) → a < m.size → b < 64 * row_words m.size → cell m.size m.words.now a b ≡ false
    zero = cell_zero m.size m.words.now zeros

    off : (a b : ℕ) → (matrix_graph m).linked a b ≡ false
    off = linked_zero m.size m.words.now zeros

    all_spare : (a : ℕ) → m.size - 1 - degree (matrix_graph m) a ≡ m.size - 1
    all_spare a = omega (arith, count_none m.size ((matrix_graph m).linked a) (λ b _. off a b))

    all_room : m.tally.limit - m.tally.count ≡ limit
    all_room = omega (arith, none, limit_is)
