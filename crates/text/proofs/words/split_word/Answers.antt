use Rattle.std.proofs.Common.{take, drop, ap, ◌∙◌, rules, tests}
use Rattle.std.proofs.lemmas.Iterator.{YieldsList-from_slice}
use Rattle.std.proofs.lemmas.Iterator.Search.{position_from_yields_List}
use Rattle.text.specs.Words.{blank, front, past}
use Rattle.text.proofs.Splitting.{place_is, front_is, past_is}
use Rattle.text.proofs.words.split_word.Goals as goal

pub returns : goal.returns
returns c =
    let text = c.skip_blanks-text.result.now in
    let found = position_from_yields_List blank _ _ c.position.result c.position.ensures.ran (YieldsList-from_slice text cc) (λ x b q k. search (rules, tests)) in
    let end = c.unwrap_or-end.ensures ∙ place_is blank text c.position.result found in
    record {
      word = c.split_at.ensures.front ∙ (ap (λ n. take n text) end ∙ (front_is blank text ∙ ap (front blank) c.skip_blanks-text.ensures));
      rest = c.split_at.ensures.back ∙ (ap (λ n. drop n text) end ∙ (past_is blank text ∙ ap (past blank) c.skip_blanks-text.ensures));
    }
