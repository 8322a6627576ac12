use Rattle.std.proofs.Common.{◌-◌, length, string_bytes}
use Rattle.text.proofs.Texts.{Reached}
use Rattle.text.proofs.conversion.decode.Given as goal

abbrev pub invariant-loop-text : goal.invariant-loop-text
invariant-loop-text l = Reached l.stream l.place (string_bytes l.text)

abbrev pub decreases-loop-text : goal.decreases-loop-text
decreases-loop-text l = length l.stream - l.place
