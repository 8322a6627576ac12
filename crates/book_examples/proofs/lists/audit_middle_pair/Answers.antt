use Rattle.std.proofs.Common.{[], ◌∷◌, subst}
use Rattle.graph.specs.Graph.{Graph}
use Rattle.audit.specs.declared.Verdict.TheVariants.{PathOfThree}
use Rattle.audit.specs.Verdicts.{Audits}
use Rattle.book_examples.proofs.LinkLists.{found}
use Rattle.book_examples.proofs.lists.audit_middle_pair.Goals as goal

pub returns : goal.returns
returns c =
    let audits = c.audit.ensures.value c.new-list.ensures.made in
    found c.audit.result (PathOfThree (0, 1, 2, 3))
    (subst (λ (g : Graph). Audits g (65535 ∷ 2 ∷ 1 ∷ 65535 ∷ []) c.audit.result) c.new-list.ensures.listing audits)
