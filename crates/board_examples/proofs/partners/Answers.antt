use Rattle.std.proofs.Common.{◌≡◌, ℕ, ◌<◌, ◌≤◌, length, None, Ok, sym, refl, ap, ◌∙◌, arith, length-set}
use lib.ListN.{length-replicate}
use Rattle.std.proofs.lemmas.List.{take_all}
use Rattle.rules.specs.Boards.{listed}
use Rattle.board.proofs.Told.{told_partner}
use Rattle.tables.specs.Views.{partners_of}
use Rattle.board_examples.proofs.Played.{read_more}
use Rattle.board_examples.proofs.Refusals.{err_granted}
use Rattle.board_examples.proofs.partners.Goals as goal

pub returns-in_err-partner : goal.returns-in_err-partner
returns-in_err-partner g c = λ stands inside.
    let n = (g.B.Links.graph c.args.board.now.book).size in
    let within : c.loop-a.a < n = omega arith in
    absurd (err_granted c.in_err-partner.field-0.0 _ (told_partner c.args.board.now c.args.board.now stands c.loop-a.a within _ c.in_err-partner.ensures.answers))

pub loop-a-init : goal.loop-a-init
loop-a-init g c = (length-replicate g.row.N None, λ _. refl)

pub loop-a-preserved : goal.loop-a-preserved
loop-a-preserved g c =
    let a = c.loop-a.a in
    let long = c.loop-a.invariant.0 in
    let room : a < length c.loop-a.partner-items = omega arith in (
      length-set c.loop-a.partner-items a _ ∙ long,
      λ stands. read_more (partners_of c.args.board.now.tables) c.loop-a.partner-items a _ room (c.loop-a.invariant.1 stands) (c.in_ok-partner.ensures.answers.partners stands).value,
    )

pub returns : goal.returns
returns g c = λ stands inside.
    let long = c.loop-a.invariant.0 in
    let done : c.loop-a.a ≡ g.row.N = omega arith in
    let past : length c.loop-a.partner-items ≤ c.loop-a.a = omega arith in
    ap Ok (sym (take_all c.loop-a.a c.loop-a.partner-items past) ∙ c.loop-a.invariant.1 stands ∙ ap (λ (n : ℕ). listed (partners_of c.args.board.now.tables) 0 n) done)
