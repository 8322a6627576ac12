-- The members of a set of loads.
use Rattle.std.proofs.Common.{◌≡◌, ℕ, ◌%◌, ◌≤◌, false, length, ap, ◌∙◌}
use Rattle.std.proofs.lemmas.List.{get_or_past}
use Rattle.bits.proofs.Bitwise.{bit_zero}
use Rattle.tables.specs.declared.LoadSet.{LoadSet}
use Rattle.tables.specs.declared.Tables.{Tables}
use Rattle.tables.specs.Views.{has, empty, free_linked}

-- a load past the tables has no members
pub no_set : (t : Tables) (a b : ℕ) → length t.free ≤ a → free_linked t a b ≡ false
no_set t a b h = ap (λ (s : LoadSet). has s b) (get_or_past t.free a empty h) ∙ bit_zero (b % 64)
