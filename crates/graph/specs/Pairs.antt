-- The pairs of a matching.
use Rattle.std.specs.Prelude.{ℕ, ◌/◌, Bool, false, not, is_some, Option, nat_lt}
use Rattle.std.specs.Option.{option_map_or}
use Rattle.graph.specs.Graph.{count}
use Rattle.graph.specs.Matching.{Partners}

abbrev pub has_partner : Partners → ℕ → Bool
has_partner p a = is_some (p a)

abbrev pub is_free : Partners → ℕ → Bool
is_free p a = not (has_partner p a)

-- how many pairs there are among the loads below n: half the loads that have a partner
abbrev pub pairs : ℕ → Partners → ℕ
pairs n p = count n (has_partner p) / 2

-- there is a partner, with a higher number than a
abbrev pub below_partner : ℕ → Option ℕ → Bool
below_partner a partner = option_map_or (nat_lt a) partner false

-- a is the lower load of a pair
abbrev pub is_lower : Partners → ℕ → Bool
is_lower p a = below_partner a (p a)
