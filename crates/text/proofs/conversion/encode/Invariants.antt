use Rattle.std.proofs.Common.{length, vec_items}
use Rattle.text.proofs.Texts.{Sofar}
use Rattle.text.proofs.conversion.encode.Given as goal

abbrev pub invariant-loop-i : goal.invariant-loop-i
invariant-loop-i l = Sofar l.text (length l.yielded) (vec_items l.stream)
