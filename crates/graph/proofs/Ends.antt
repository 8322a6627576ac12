-- The two loads of a link, among all pairs of numbers.
use Rattle.std.proofs.Common.{◌≡◌, ℕ, ◌<◌, ◌≤◌, false, ◌&&◌, eqb, arith}
use mathlib.Core.Bool.{or_comm}
use Rattle.graph.specs.Graph.{is_pair}
use Rattle.graph.proofs.Counts.{not_pair}

pub pair_swap : (a b x y : ℕ) → is_pair a b x y ≡ is_pair a b y x
pair_swap a b x y = or_comm (eqb a x && eqb b y) (eqb a y && eqb b x)

-- no pair of loads below n has a number past n
pub pair_past : (n a b x y : ℕ) → a < n → b < n → n ≤ y → is_pair a b x y ≡ false
pair_past n a b x y l m past = not_pair a b x y (λ _ e. omega arith) (λ e _. omega arith)
