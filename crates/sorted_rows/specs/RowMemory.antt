-- Memory in rows of d + 1 numbers, one row for each load.
use Rattle.std.specs.Prelude.{◌≡◌, ℕ, ◌+◌, ◌*◌, ◌<◌, ◌≤◌, List, [], ◌++◌, length, take, drop}
use Rattle.std.specs.Prelude.{if◌then◌else◌, nat_lt}
use Rattle.sorted_rows.specs.Row.{entries, Able, changed}
use Rattle.sorted_rows.specs.declared.row.Change.{Change}

-- how many numbers n rows have
abbrev pub all_numbers : ℕ → ℕ → ℕ
all_numbers n d = n * (d + 1)

-- row a
unfoldable pub row_of : ℕ → List ℕ → ℕ → List ℕ
row_of d memory a = take (d + 1) (drop (a * (d + 1)) memory)

-- the loads in row a; none from n on
abbrev pub loads_of_row : ℕ → ℕ → List ℕ → ℕ → List ℕ
loads_of_row n d memory a = if nat_lt a n then entries (row_of d memory a) else []

-- the memory with another row a
unfoldable pub with_row : ℕ → List ℕ → ℕ → List ℕ → List ℕ
with_row d memory a row = take (a * (d + 1)) memory ++ (row ++ drop (a * (d + 1) + (d + 1)) memory)

-- row a after b was put in, or the first load not below b taken out, where there is such a row in
-- which that could be done; else the memory is as it was; its length and what lies beyond the row
-- always are
pub record RowChanged
    (Able : List ℕ → ℕ → Type 0) (change : List ℕ → ℕ → List ℕ)
    (d a b : ℕ) (before after : List ℕ) : Type 0 where
  pub row : a * (d + 1) + (d + 1) ≤ length before → Able (row_of d before a) b →
      after ≡ with_row d before a (change (row_of d before a) b)
  pub kept : (a * (d + 1) + (d + 1) ≤ length before → Able (row_of d before a) b → ⊥) →
      after ≡ before
  pub same_length : length after ≡ length before
  pub beyond : drop (a * (d + 1) + (d + 1)) after ≡ drop (a * (d + 1) + (d + 1)) before

-- the memory after b was put into row a, or taken out of it, and a into or out of row b
abbrev pub both_changed : (List ℕ → ℕ → List ℕ) → ℕ → List ℕ → ℕ → ℕ → List ℕ
both_changed change d memory a b =
    with_row d (with_row d memory a (change (row_of d memory a) b)) b (change (row_of d memory b) a)

-- each of two different loads of n can be put into the row of the other, or taken out
pub record BothAble (change : Change) (n d a b : ℕ) (memory : List ℕ) : Type 0 where
  pub long : all_numbers n d ≤ length memory
  pub a_below : a < n
  pub b_below : b < n
  pub apart : a ≡ b → ⊥
  pub able_a : Able change (row_of d memory a) b
  pub able_b : Able change (row_of d memory b) a

-- both rows after the change, if it could be made; the length of the memory and what lies beyond n
-- rows are as they were
pub record BothChanged (change : Change) (n d a b : ℕ) (before after : List ℕ) : Type 0 where
  pub rows : BothAble change n d a b before → after ≡ both_changed (changed change) d before a b
  pub same_length : length after ≡ length before
  pub beyond : drop (all_numbers n d) after ≡ drop (all_numbers n d) before
