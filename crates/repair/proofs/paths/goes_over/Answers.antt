use Rattle.std.proofs.Common.{Option, ℕ, ap, ◌∙◌, rules}
use Rattle.rules.specs.Repair.{any_below, ends_path}
use Rattle.tables.specs.Views.{partners_of}
use Rattle.repair.proofs.Others.{asked, any_nothing}
use Rattle.repair.proofs.paths.goes_over.Goals as goal

pub returns : goal.returns
returns c = λ graph simple agrees.
    let over = λ (o : Option ℕ). any_below graph.size (ends_path graph (partners_of c.args.tables.now) c.args.a o) in
    asked over c.partner.result c.is_some_and.result _ c.is_some_and.ensures (any_nothing graph.size) (λ y answer. search (rules, simple, agrees)) ∙ ap over c.partner.ensures.value
