-- A graph in a bit matrix.
use Rattle.std.specs.Prelude.{◌≡◌, ℕ, ◌+◌, ◌-◌, ◌*◌, ◌/◌, ◌%◌, ◌<◌, ◌≤◌, Bool, false, ◌&&◌, ◌||◌}
use Rattle.std.specs.Prelude.{if◌then◌else◌, List, [], length, take, drop, Some, None, Option, ◌==◌}
use Rattle.std.specs.Prelude.{nat_lt, slice_index}
use Rattle.std.specs.Borrow.{GName}
use Rattle.graph.specs.Graph.{Graph, degree, link_count, no_links}
use Rattle.links.specs.Books.{Ledger, Stands, fresh_ledger, by_book, unless_size, unless_limit}
use Rattle.links.specs.Memory.{Cleared}
use Rattle.links.specs.Refusals.{Reason}
use Rattle.graph.specs.declared.TheConstants.{MOST_LOADS}
use Rattle.links.specs.declared.TheConstants.{MOST_LINKS}
use Rattle.links.specs.declared.tally.Tally.{Tally}
use Rattle.bits.specs.Bit.{bit}
use Rattle.bit_matrix.specs.declared.BitMatrix.{BitMatrix}

-- ---- the layout

-- how many words a row has
abbrev pub row_words : ℕ → ℕ
row_words n = (n + 63) / 64

-- how many words the matrix has
abbrev pub all_words : ℕ → ℕ
all_words n = n * row_words n

-- the word that has load b of row a, in its bit b mod 64
abbrev pub word_at : ℕ → ℕ → ℕ → ℕ
word_at n a b = a * row_words n + b / 64

-- the words of row a, as far as there are words; none from n on
abbrev pub matrix_row : ℕ → List ℕ → ℕ → List ℕ
matrix_row n words a =
    if nat_lt a n then take (row_words n) (drop (a * row_words n) words) else []

-- row a has load b
unfoldable pub cell : ℕ → List ℕ → ℕ → ℕ → Bool
cell n words a b = bit (slice_index words (word_at n a b)) (b % 64)

-- bit j of word k is that of load b in row a
abbrev pub is_place : ℕ → ℕ → ℕ → ℕ → ℕ → Bool
is_place n a b k j = word_at n a b == k && b % 64 == j

-- bit j of word k is one of the two bits of the link of a and b
abbrev pub is_link_place : ℕ → ℕ → ℕ → ℕ → ℕ → Bool
is_link_place n a b k j = is_place n a b k j || is_place n b a k j

-- ---- the meaning

abbrev pub matrix : ℕ → List ℕ → Graph
matrix n words = record { size = n; linked = λ a b. nat_lt a n && (nat_lt b n && cell n words a b) }

abbrev pub matrix_graph : BitMatrix → Graph
matrix_graph m = matrix m.size m.words.now

-- a load may be linked to every other, and nothing is barred
abbrev pub ledger : ℕ → ℕ → ℕ → List ℕ → Ledger
ledger n limit count words =
    record {
      limit = limit;
      barred = λ _ _. false;
      spare = λ a. if nat_lt a n then n - 1 - degree (matrix n words) a else 0;
      room = limit - count;
    }

abbrev pub matrix_ledger : BitMatrix → Ledger
matrix_ledger m = ledger m.size m.tally.limit m.tally.count m.words.now

-- what holds of every matrix that came from its making, by its numbers and its words
pub record Made (n limit count : ℕ) (words : List ℕ) : Type 0 where
  pub small : n ≤ MOST_LOADS
  pub limit_bound : limit ≤ MOST_LINKS
  pub enough : all_words n ≤ length words
  pub loopless : (a : ℕ) → a < n → cell n words a a ≡ false
  pub symmetric : (a b : ℕ) → a < n → b < n → cell n words a b ≡ cell n words b a
  pub padded : (a b : ℕ) → a < n → n ≤ b → b < 64 * row_words n → cell n words a b ≡ false
  pub counted : count ≡ link_count (matrix n words)
  pub within : count ≤ limit

-- the book came from its making
abbrev pub MatrixMade : BitMatrix → Type 0
MatrixMade m = Made m.size m.tally.limit m.tally.count m.words.now

-- what no call changes: whose the words are, how many, and those past the matrix; size and limit
pub record MatrixFixed : Type 0 where
  pub lender : GName
  pub length : ℕ
  pub beyond : List ℕ
  pub size : ℕ
  pub limit : ℕ

abbrev pub matrix_fixed : BitMatrix → MatrixFixed
matrix_fixed m =
    record {
      lender = m.words.ghost_name;
      length = length m.words.now;
      beyond = drop (all_words m.size) m.words.now;
      size = m.size;
      limit = m.tally.limit;
    }

-- ---- the making

-- the first reason to refuse a matrix of n loads in so many words
abbrev pub checking : ℕ → ℕ → ℕ → Option Reason
checking n limit memory =
    unless_size n
    (unless_limit limit (if nat_lt memory (all_words n) then by_book 3 else None))

-- the matrix has no links and every spare
abbrev pub Fresh : ℕ → ℕ → BitMatrix → Type 0
Fresh n limit m =
    Stands matrix_graph MatrixMade matrix_ledger m (no_links n) (fresh_ledger n (n - 1) limit)

-- what is made in memory that held `before`: a matrix, or, where there is a reason to refuse it, a
-- book of no loads
abbrev pub Making : Option Reason → ℕ → ℕ → List ℕ → BitMatrix → Type 0
Making None n limit before m = Fresh n limit m × Cleared (all_words n) before m.words.now
Making (Some reason) n limit before m = Fresh 0 0 m × (m.words.now ≡ before)

-- ---- one link written

-- the book with this tally and these words
abbrev pub rewritten : BitMatrix → Tally → List ℕ → BitMatrix
rewritten m tally words =
    record {
      size = m.size;
      tally = tally;
      words = record { ref_ptr = m.words.ref_ptr; ghost_name = m.words.ghost_name; now = words };
    }

-- every bit of the memory: those that pass the test are `on`, and the others as they were
pub record Written (on : Bool) (test : ℕ → ℕ → Bool) (before after : List ℕ) : Type 0 where
  pub same_length : length after ≡ length before
  pub bits : (k j : ℕ) →
      bit (slice_index after k) j ≡ (if test k j then on else bit (slice_index before k) j)

-- a and b are two loads, and word k is there
abbrev pub held : BitMatrix → ℕ → ℕ → ℕ → Bool
held m a b k = nat_lt a m.size && (nat_lt b m.size && nat_lt k (length m.words.now))
