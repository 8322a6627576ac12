use Rattle.std.proofs.Common.{◌≡◌, true, false, not, rules, tests}
use Rattle.std.proofs.lemmas.Iterator.{YieldsList-from_slice, IsFirst-from_position}
use Rattle.link_list.specs.Entries.{in_bounds}
use Rattle.link_list.proofs.Firsts.{first_position}
use Rattle.link_list.proofs.first_out_of_bounds.Goals as goal

pub returns : goal.returns
returns c =
    first_position (record { a = 0; b = 0 }) (λ e. not (in_bounds c.args.size e)) c.args.entries.now c.position.result
    (IsFirst-from_position _ _ _ (λ e. not (in_bounds c.args.size e) ≡ true) (λ e. not (in_bounds c.args.size e) ≡ false) c.position.ensures.ran (YieldsList-from_slice c.args.entries.now cc)
    (λ x q k. search (rules, tests)) (λ x q k. search (rules, tests)))
