use Rattle.std.proofs.Common.{sym, ◌∙◌, arith}
use Rattle.std.proofs.lemmas.Bool.{cond-false}
use Rattle.graph.specs.Pairs.{is_free}
use Rattle.tables.specs.Views.{partners_of}
use Rattle.tables.proofs.Firsts.{matched_some, matched_none, count_none_matched}
use Rattle.tables.proofs.Tables.match_free.Goals as goal
use Rattle.tables.proofs.Tables.match_free.Goals.{else-is_free-via-else-is_free, else-is_free-via-then-is_free+else-free_degree-gt0, else-is_free-via-then-is_free+then-free_degree-gt0+in-None-1}

pub returns-in-Some-clause-matched : goal.returns-in-Some-clause-matched
returns-in-Some-clause-matched g c = λ made simple agrees.
    matched_some (g.R.Ranking.before c.args.ranking.now) (g.L.Links.graph c.args.links.now) simple c.args.a c.args.self.now agrees (sym c.is_free.ensures ∙ c.if-is_free.true) c.in-Some.b c.in-Some.ensures (c.pair.ensures.changed made simple)

pub returns-else-is_free-clause-matched : goal.returns-else-is_free-clause-matched
returns-else-is_free-clause-matched g c = λ made simple agrees.
    let before = g.R.Ranking.before c.args.ranking.now in
    let graph = g.L.Links.graph c.args.links.now in
    let t = c.args.self.now in
    elim c.else-is_free.branch [
      | else-is_free-via-else-is_free w ↦ record {
        partners = sym (cond-false (is_free (partners_of t) c.args.a) _ _ (sym c.is_free.ensures ∙ w.if-is_free.false));
        agrees = agrees;
      }
      | else-is_free-via-then-is_free+else-free_degree-gt0 w ↦
          count_none_matched before graph simple c.args.a t agrees (sym c.is_free.ensures ∙ w.if-is_free.true) (omega (arith, w.free_degree.ensures, w.if-free_degree-gt0))
      | else-is_free-via-then-is_free+then-free_degree-gt0+in-None-1 w ↦
          matched_none before graph simple c.args.a t agrees (sym c.is_free.ensures ∙ w.if-is_free.true) w.first_free.result (cc) w.first_free.ensures
    ]
