use Rattle.std.proofs.Common.{◌≡◌}
use Rattle.reference.proofs.pairing.Pairing.repair.Given as goal

abbrev pub invariant-loop-a : goal.invariant-loop-a
invariant-loop-a l = l.self.book ≡ l.fn.self.book

abbrev pub invariant-loop-a-2 : goal.invariant-loop-a-2
invariant-loop-a-2 l = l.self.book ≡ l.fn.self.book
