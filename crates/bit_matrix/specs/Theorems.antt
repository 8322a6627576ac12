-- What holds of every bit matrix that came from its making.
use Rattle.std.specs.Prelude.{◌≡◌, ℕ, ◌+◌, ◌*◌, ◌<◌, ◌≤◌, false, List, length, None, ◌≢◌}
use Rattle.std.specs.Prelude.{slice_index}
use Rattle.graph.specs.Graph.{Graph}
use Rattle.links.specs.Books.{adding, by_book}
use Rattle.bits.specs.Bit.{bit}
use Rattle.bit_matrix.specs.declared.BitMatrix.{BitMatrix}
use Rattle.bit_matrix.specs.Matrix.{row_words, all_words, matrix_graph, matrix_ledger, MatrixMade}
use Rattle.bit_matrix.specs.Matrix.{matrix_fixed, Making}

-- with w words to a row, bit j of word a × w + i is the link of a and 64 × i + j, and 0 where that
-- is no load
pub record WordsHold (g : Graph) (words : List ℕ) : Type 0 where
  pub links : (a i j : ℕ) → a < g.size → i < row_words g.size → j < 64 →
      bit (slice_index words (a * row_words g.size + i)) j ≡ g.linked a (64 * i + j)
  pub padding : (a i j : ℕ) → a < g.size → i < row_words g.size → j < 64 → g.size ≤ 64 * i + j →
      bit (slice_index words (a * row_words g.size + i)) j ≡ false

abbrev pub WordsOfGraph : Type 0
WordsOfGraph = (m : BitMatrix) → MatrixMade m → WordsHold (matrix_graph m) m.words.now

-- memory that held `before`, and in which a matrix of n loads was made that has the links of g now:
-- all its words
pub record MemoryHolds (n : ℕ) (g : Graph) (before after : List ℕ) : Type 0 where
  pub same_size : g.size ≡ n
  pub same_length : length after ≡ length before
  pub matrix : WordsHold g after
  pub beyond : (k : ℕ) → all_words n ≤ k → slice_index after k ≡ slice_index before k

-- from the making of m on, through all calls, up to t
abbrev pub MemoryFollows : Type 0
MemoryFollows =
    (n limit : ℕ) (before : List ℕ) (m t : BitMatrix) → Making None n limit before m →
    matrix_fixed t ≡ matrix_fixed m → MatrixMade t →
    MemoryHolds n (matrix_graph t) before t.words.now

-- a load without a spare is linked to every other, so that 6 comes before 9
abbrev pub NeverFull : Type 0
NeverFull =
    (m : BitMatrix) → MatrixMade m → (a b : ℕ) →
    adding (matrix_graph m) (matrix_ledger m) a b ≢ by_book 9
