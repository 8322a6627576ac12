use Rattle.text.proofs.Numbers.{Numbered}
use Rattle.text.proofs.words.number.Given as goal

abbrev pub invariant-loop-byte : goal.invariant-loop-byte
invariant-loop-byte l = Numbered l.word l.byte-index l.n
