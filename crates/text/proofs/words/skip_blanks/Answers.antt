use Rattle.std.proofs.Common.{not, drop, ap, ◌∙◌, rules, tests}
use Rattle.std.proofs.lemmas.List.{take_rest}
use Rattle.std.proofs.lemmas.Iterator.{YieldsList-from_slice}
use Rattle.std.proofs.lemmas.Iterator.Search.{position_from_yields_List}
use Rattle.text.specs.Words.{blank}
use Rattle.text.proofs.Splitting.{place_is, past_is, unspaced_is}
use Rattle.text.proofs.words.skip_blanks.Goals as goal

pub returns : goal.returns
returns c =
    let text = c.args.text.now in
    let found = position_from_yields_List (λ b. not (blank b)) _ _ c.position.result c.position.ensures.ran (YieldsList-from_slice text cc) (λ x b q k. search (rules, tests)) in
    let start = c.unwrap_or-start.ensures ∙ place_is (λ b. not (blank b)) text c.position.result found in
    take_rest text c.unwrap_or-start.result
    ∙ (ap (λ n. drop n text) start ∙ (past_is (λ b. not (blank b)) text ∙ unspaced_is text))
