-- Strict total orders of the loads.
use Rattle.std.specs.Prelude.{◌≡◌, ℕ, Bool, ◌&&◌, ◌||◌, ◌==◌, nat_lt}
use Rattle.strict_order.specs.StrictOrder.{StrictTotal}

-- of two different numbers, exactly one comes before the other, and the order is transitive
abbrev pub StrictOrder : (ℕ → ℕ → Bool) → Type 0
StrictOrder before = StrictTotal ◌≡◌ before

-- the lower number comes first
abbrev pub lower : ℕ → ℕ → Bool
lower x y = nat_lt x y

-- the number with the smaller key comes first, then the lower number
abbrev pub by_key : (ℕ → ℕ) → ℕ → ℕ → Bool
by_key key x y = nat_lt (key x) (key y) || (key x == key y && lower x y)
