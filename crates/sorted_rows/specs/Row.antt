-- One row: its count, then that many loads in rising order, then zeros.
use Rattle.std.specs.Prelude.{◌≡◌, ℕ, suc, ◌+◌, ◌-◌, ◌<◌, ◌≤◌, Bool, true, false, ◌||◌, ltb}
use Rattle.std.specs.Prelude.{if◌then◌else◌, List, [], ◌∷◌, ◌++◌, length, take, drop, ◌==◌, nat_lt, slice_index}
use Rattle.std.specs.Prelude.{slice_index_or}
use Rattle.std.specs.List.{insert, remove}
use Rattle.strict_order.specs.StrictOrder.{Rises}
use Rattle.sorted_rows.specs.declared.row.Change.{Change}
use Rattle.sorted_rows.specs.declared.row.Change.TheVariants.{Insert, Remove}

-- the loads of a row
abbrev pub entries : List ℕ → List ℕ
entries row = take (slice_index row 0) (drop 1 row)

-- whether b stands in a list
abbrev pub has : List ℕ → ℕ → Bool
has [] b = false
has (x ∷ xs) b = x == b || has xs b

-- the index of the first number that is not below b
abbrev pub place : List ℕ → ℕ → ℕ
place [] b = 0
place (x ∷ xs) b = if nat_lt x b then suc (place xs b) else 0

-- a load can be put in, with what the row is then
abbrev pub Insertable : List ℕ → ℕ → Type 0
Insertable row b = slice_index row 0 + 1 < length row

abbrev pub row_with : List ℕ → ℕ → List ℕ
row_with row b =
    (slice_index row 0 + 1)
    ∷ (insert (entries row) (place (entries row) b) b ++ drop (slice_index row 0 + 2) row)

-- there is a load not below b that can be taken out, with what the row is then
abbrev pub Removable : List ℕ → ℕ → Type 0
Removable row b = (slice_index row 0 < length row) × (place (entries row) b < slice_index row 0)

abbrev pub row_without : List ℕ → ℕ → List ℕ
row_without row b =
    (slice_index row 0 - 1)
    ∷ (remove (entries row) (place (entries row) b) ++ 0 ∷ drop (slice_index row 0 + 1) row)

-- what a change asks of a row, and what it makes of it
abbrev pub Able : Change → List ℕ → ℕ → Type 0
Able Insert row b = Insertable row b
Able Remove row b = Removable row b

abbrev pub changed : Change → List ℕ → ℕ → List ℕ
changed Insert row b = row_with row b
changed Remove row b = row_without row b

-- row a of a book of n loads with row limit d: loads below n other than a, in rising order, then
-- zeros
pub record RowMade (n d a : ℕ) (row : List ℕ) : Type 0 where
  pub within : slice_index_or row 0 0 ≤ d
  pub rising : Rises ltb (entries row)
  pub below : (b : ℕ) → has (entries row) b ≡ true → b < n
  pub loopless : has (entries row) a ≡ false
  pub zeros : (k : ℕ) → slice_index row 0 < k → k ≤ d → slice_index row k ≡ 0
