use Rattle.std.proofs.Common.{rules, codes, refl, arith}
use Rattle.std.proofs.lemmas.Slice.Eq.{text_from_reads}
use Rattle.text.proofs.two_loads.Goals as goal

pub returns-in-unlink : goal.returns-in-unlink
returns-in-unlink c = rw (text_from_reads c.args.kind.now (codes "unlink") (omega arith) (search rules)) refl
