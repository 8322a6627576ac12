-- What the memory of a matrix holds, from its making on.
use Rattle.std.proofs.Common.{◌≡◌, ℕ, List, drop, None, sym, ap, ◌∙◌}
use Rattle.links.proofs.Memory.{same_past}
use Rattle.graph.specs.Graph.{Graph}
use Rattle.bit_matrix.specs.declared.BitMatrix.{BitMatrix}
use Rattle.bit_matrix.specs.Matrix.{all_words, matrix_graph, MatrixMade, MatrixFixed, matrix_fixed, Making}
use Rattle.bit_matrix.specs.Theorems.{MemoryHolds}
use Rattle.bit_matrix.proofs.Cells.{words_hold}

pub memory_holds : (n limit : ℕ) (before : List ℕ) (m t : BitMatrix) → Making None n limit before m → matrix_fixed t ≡ matrix_fixed m → MatrixMade t → MemoryHolds n (matrix_graph t) before t.words.now
memory_holds n limit before m t (fresh, cleared) stays made =
    record {
      same_size = size-t ∙ size-m;
      same_length = ap (λ (f : MatrixFixed). f.length) stays ∙ cleared.same_length;
      matrix = words_hold t made;
      beyond = λ k l. same_past (all_words n) k t.words.now m.words.now past l ∙ cleared.beyond k l;
    }
  where
    size-t : t.size ≡ m.size
    size-t = ap (λ (f : MatrixFixed). f.size) stays

    size-m : m.size ≡ n
    size-m = ap (λ (g : Graph). g.size) fresh.graph_is

    past : drop (all_words n) t.words.now ≡ drop (all_words n) m.words.now
    past =
        ap (λ (k : ℕ). drop (all_words k) t.words.now) (sym (size-t ∙ size-m))
        ∙ ap (λ (f : MatrixFixed). f.beyond) stays
        ∙ ap (λ (k : ℕ). drop (all_words k) m.words.now) size-m
