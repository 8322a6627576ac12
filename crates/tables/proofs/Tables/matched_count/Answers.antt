use Rattle.std.proofs.Common.{◌≡◌, length, is_some, sym, ◌∙◌, arith, rules, tests}
use Rattle.std.proofs.lemmas.Iterator.{YieldsList-from_slice}
use Rattle.std.proofs.lemmas.Iterator.Consumers.{YieldsList-at, YieldsList-from_filter, count_from_yields_List}
use Rattle.std.proofs.lemmas.List.Sums.{length-filter}
use Rattle.tables.specs.declared.Record.{Record}
use Rattle.tables.proofs.Matched.{matched_listed}
use Rattle.tables.proofs.Tables.matched_count.Goals as goal

pub returns : goal.returns
returns c =
    let t = c.args.self.now in
    let whole : length t.records ≡ 256 = omega arith in
    let partnered = λ (r : Record). is_some r.partner in
    let left = YieldsList-at c.filter.ensures.source (YieldsList-from_slice t.records cc) in
    count_from_yields_List c.filter.result _ c.count.ensures.ran
    (YieldsList-from_filter _ partnered left c.filter.ensures.closure (λ x b q k. search (rules, tests)))
    ∙ length-filter partnered t.records ∙ sym (matched_listed t whole)
