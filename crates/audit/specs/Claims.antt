-- The partners that a table of claims gives the loads.
use Rattle.std.specs.Prelude.{ℕ, Bool, true, false, List, length, Some, None, Option, ◌==◌}
use Rattle.std.specs.Prelude.{nat_lt, slice_index, if◌then◌else◌}
use Rattle.std.specs.Option.{option_map_or}
use Rattle.audit.specs.declared.TheConstants.{NO_PARTNER}
use Rattle.graph.specs.Matching.{Partners}

-- the claim NO_PARTNER is for none
abbrev pub partner_in : ℕ → Option ℕ
partner_in claim = if claim == NO_PARTNER then None else Some claim

-- the partner that each load claims; a number without a claim has none
abbrev pub claimed : List ℕ → Partners
claimed claims a =
    if nat_lt a (length claims) then partner_in (slice_index claims a) else None

-- the partner, if there is one, passes the test
abbrev pub passes : Option ℕ → (ℕ → Bool) → Bool
passes o test = option_map_or test o true

-- there is a partner, and it is a
abbrev pub is : Option ℕ → ℕ → Bool
is o a = option_map_or (λ b. b == a) o false

-- the partner of a claims it back; what is not a load claims nothing
abbrev pub returned : Partners → ℕ → Bool
returned p a = passes (p a) (λ b. is (p b) a)
