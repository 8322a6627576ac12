use Rattle.std.proofs.Common.{Some, sym, ap, ◌∙◌}
use Rattle.links.specs.declared.refusal.Refused.{Refused}
use Rattle.links.specs.Refusals.{told}
use Rattle.link_list.specs.Lists.{bad_entry}
use Rattle.link_list.proofs.Checks.{rise_found, checking_is, sound_is}
use Rattle.link_list.proofs.LinkList.check.Goals as goal

pub returns-in-Some : goal.returns-in-Some
returns-in-Some c =
    checking_is c.args.size c.args.entries.now _ _ (rise_found _ _ c.first_unordered.ensures.first) c.first_out_of_bounds.ensures
    c.in_ok-check_size.ensures.answers.0
    ∙ ap bad_entry (sym c.in-Some.ensures)
    ∙ ap (λ (r : Refused). Some (told r)) (sym c.by.ensures)

pub returns-in-None : goal.returns-in-None
returns-in-None c = (
  checking_is c.args.size c.args.entries.now _ _ (rise_found _ _ c.first_unordered.ensures.first) c.first_out_of_bounds.ensures
      c.in_ok-check_size.ensures.answers.0
      ∙ ap bad_entry (sym c.in-None.ensures),
  sound_is c.args.size c.args.entries.now _ _ (rise_found _ _ c.first_unordered.ensures.first) c.first_out_of_bounds.ensures
      c.in_ok-check_size.ensures.answers.0 (sym c.in-None.ensures),
)
