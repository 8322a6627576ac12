use Rattle.std.proofs.Common.{ℕ, List, append_assoc, subst, sym, ap, ◌∙◌}
use Rattle.std.specs.Fmt.{HasWritten}
use Rattle.audit.specs.Words.{verdict_text}
use Rattle.audit.proofs.VerdictDisplay.fmt.Goals as goal

pub returns-in-PathOfThree-clause-writes : goal.returns-in-PathOfThree-clause-writes
returns-in-PathOfThree-clause-writes g c = λ plain ok.
    let told = ap verdict_text (sym c.in-PathOfThree.is) in
    subst (λ (bs : List ℕ). HasWritten g.W.Write.write_str_gives c.args.f.now bs c.write-in-PathOfThree.new.self) ((simp append_assoc) ∙ told) (c.write-in-PathOfThree.ensures.writes plain ok)
