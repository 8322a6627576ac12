use Rattle.std.proofs.Common.{sym, ◌∙◌}
use Rattle.tables.specs.Views.{partners_of}
use Rattle.repair.proofs.Starts.{start_paired, start_ends}
use Rattle.repair.proofs.Repair.find_path.Goals as goal

pub returns-in_err-y : goal.returns-in_err-y
returns-in_err-y g c = λ made simple agrees.
    let graph = g.L.Links.graph c.args.self.now.links.now in
    absurd (start_paired (g.R.Ranking.before c.args.self.now.ranking.now) graph simple (partners_of c.args.tables.now) c.args.a c.in_ok-x.x
    (sym (c.path_start.ensures made simple agrees) ∙ c.in_ok-x.was) (sym c.partner.ensures.value ∙ c.in_err-y.was))

pub returns-in_err-z : goal.returns-in_err-z
returns-in_err-z g c = λ made simple agrees.
    let graph = g.L.Links.graph c.args.self.now.links.now in
    absurd (start_ends (g.R.Ranking.before c.args.self.now.ranking.now) graph simple (partners_of c.args.tables.now) c.args.a c.in_ok-x.x
    (sym (c.path_start.ensures made simple agrees) ∙ c.in_ok-x.was) c.in_ok-y.y (sym c.partner.ensures.value ∙ c.in_ok-y.was)
    (sym (c.first_other_free.ensures graph simple agrees) ∙ c.in_err-z.was))
