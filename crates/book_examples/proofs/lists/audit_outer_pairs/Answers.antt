use Rattle.std.proofs.Common.{[], ◌∷◌, subst}
use Rattle.graph.specs.Graph.{Graph}
use Rattle.audit.specs.declared.Verdict.TheVariants.{Sound}
use Rattle.audit.specs.Verdicts.{Audits}
use Rattle.book_examples.proofs.LinkLists.{found}
use Rattle.book_examples.proofs.lists.audit_outer_pairs.Goals as goal

pub returns : goal.returns
returns c =
    let audits = c.audit.ensures.value c.new-list.ensures.made in
    found c.audit.result Sound
    (subst (λ (g : Graph). Audits g (1 ∷ 0 ∷ 3 ∷ 2 ∷ []) c.audit.result) c.new-list.ensures.listing audits)
