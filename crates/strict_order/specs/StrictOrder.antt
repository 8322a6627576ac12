-- Lists that rise strictly in an order.
use Rattle.std.specs.Prelude.{◌≡◌, ℕ, ◌-◌, ◌<◌, ◌≤◌, Bool, true, false, not, List, length, drop}
use Rattle.std.specs.Prelude.{position, Option, slice_index_or}
use Rattle.std.specs.List.{zip}
use Rattle.std.specs.declared.cmp.Ordering.{Ordering}
use Rattle.std.specs.declared.cmp.Ordering.TheVariants.{Equal}
use Rattle.std.specs.Ordering.{is_lt}

-- x comes before y
abbrev pub comes_before : {X : Type 0} → (X → X → Ordering) → X → X → Bool
comes_before cmp x y = is_lt (cmp x y)

-- the order does not tell x and y apart
abbrev pub Tied : {X : Type 0} → (X → X → Ordering) → X → X → Type 0
Tied cmp x y = cmp x y ≡ Equal

-- a strict total order: of two that are not the same, exactly one comes before the other
pub record StrictTotal {X : Type 0} (Same : X → X → Type 0) (before : X → X → Bool) : Type 0 where
  pub irreflexive : (x : X) → before x x ≡ false
  pub transitive : (x y z : X) → before x y ≡ true → before y z ≡ true → before x z ≡ true
  pub total : (x y : X) → before x y ≡ false → before y x ≡ false → Same x y

-- each of the first n records but the first comes after the one before it
abbrev pub InOrder : {X : Type 0} → (X → X → Bool) → List X → ℕ → Type 0
InOrder {X} before xs n =
    (k : ℕ) (d : X) → 1 ≤ k → k < n
    → before (slice_index_or xs (k - 1) d) (slice_index_or xs k d) ≡ true

-- each record comes before the next, and so before every later one
pub record Rises {X : Type 0} (before : X → X → Bool) (xs : List X) : Type 0 where
  pub next : InOrder before xs (length xs)
  pub later : (i j : ℕ) (d : X) → i < j → j < length xs
      → before (slice_index_or xs i d) (slice_index_or xs j d) ≡ true

-- record i is the first that breaks the order: the record in front of it does not come before it
pub record FirstUnordered {X : Type 0} (before : X → X → Bool) (xs : List X) (i : ℕ) : Type 0 where
  pub past : 1 ≤ i
  pub within : i < length xs
  pub fails : (d : X) → before (slice_index_or xs (i - 1) d) (slice_index_or xs i d) ≡ false
  pub earlier : InOrder before xs i

-- the first index whose record does not come before the next
abbrev pub first_break : {X : Type 0} → (X → X → Bool) → List X → Option ℕ
first_break before xs = position (λ p. not (before p.0 p.1)) (zip xs (drop 1 xs))
