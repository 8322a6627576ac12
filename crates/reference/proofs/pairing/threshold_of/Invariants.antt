use Rattle.std.proofs.Common.{◌-◌, ℕ, ◌*◌, ◌<◌, ◌≤◌}
use Rattle.reference.proofs.pairing.threshold_of.Given as goal

abbrev pub invariant-loop-t : goal.invariant-loop-t
invariant-loop-t l = record { within : l.t ≤ 256; least : (t : ℕ) → t < l.t → t * t < 2 * l.limit }

abbrev pub decreases-loop-t : goal.decreases-loop-t
decreases-loop-t l = 256 - l.t
