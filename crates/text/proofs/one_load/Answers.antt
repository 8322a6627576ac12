use Rattle.std.proofs.Common.{rules, codes, refl, arith}
use Rattle.std.proofs.lemmas.Slice.Eq.{text_from_reads}
use Rattle.text.proofs.one_load.Goals as goal

pub returns-in-withdraw : goal.returns-in-withdraw
returns-in-withdraw c = rw (text_from_reads c.args.kind.now (codes "withdraw") (omega arith) (search rules)) refl

pub returns-in-depart : goal.returns-in-depart
returns-in-depart c = rw (text_from_reads c.args.kind.now (codes "depart") (omega arith) (search rules)) refl

pub returns-in-partner : goal.returns-in-partner
returns-in-partner c = rw (text_from_reads c.args.kind.now (codes "partner") (omega arith) (search rules)) refl
