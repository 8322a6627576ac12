use Rattle.std.proofs.Common.{ℕ, List, [], ◌∷◌, Ok, Err, refl, ◌∙◌, arith}
use Rattle.graph.specs.Graph.{no_links}
use Rattle.links.specs.Books.{fresh_ledger}
use Rattle.rules.specs.Boards.{fresh, star, star_heavy}
use Rattle.rules.specs.Calls.{link}
use Rattle.rules.proofs.Boards.{star_played}
use Rattle.board_examples.proofs.Positions.{at_opening, links_refused, at_links, call_answers, at_call, read_at}
use Rattle.board_examples.proofs.Refusals.{not_refused, err_granted, granted_same}
use Rattle.board_examples.proofs.heavy_load_on_bit_matrix.Goals as goal

abbrev pairs : List (ℕ × ℕ)
pairs = (1, 2) ∷ (3, 4) ∷ (5, 6) ∷ (0, 1) ∷ (0, 2) ∷ (0, 3) ∷ (0, 4) ∷ []

pub returns-in_err-link_all : goal.returns-in_err-link_all
returns-in_err-link_all c =
    let e = c.in_err-link_all.field-0.0 in
    let first = c.open-board.result in
    let opened = at_opening c.new.result _ first (no_links 7) (fresh_ledger 7 6 8) c.new.ensures.making.0 c.open-board.ensures.opens in
    absurd (not_refused e refl (links_refused first c.link_all.new.board (fresh 7 8) opened pairs e c.in_err-link_all.ensures))

pub returns-in_err-before : goal.returns-in_err-before
returns-in_err-before c =
    let e = c.in_err-before.field-0.0 in
    let first = c.open-board.result in
    let opened = at_opening c.new.result _ first (no_links 7) (fresh_ledger 7 6 8) c.new.ensures.making.0 c.open-board.ensures.opens in
    let second = c.link_all.new.board in
    let linked = at_links first second (fresh 7 8) opened pairs c.in_ok-link_all.ensures in
    absurd (err_granted e _ (read_at second star linked 7 (Err e) (omega arith) c.in_err-before.ensures))

pub returns-in_err-link : goal.returns-in_err-link
returns-in_err-link c =
    let e = c.in_err-link.field-0.0 in
    let first = c.open-board.result in
    let opened = at_opening c.new.result _ first (no_links 7) (fresh_ledger 7 6 8) c.new.ensures.making.0 c.open-board.ensures.opens in
    let second = c.link_all.new.board in
    let linked = at_links first second (fresh 7 8) opened pairs c.in_ok-link_all.ensures in
    absurd (not_refused e star_played.links_once_more (call_answers second c.link.new.self star linked (link 0 5) (Err e) c.in_err-link.ensures))

pub returns-in_err-after : goal.returns-in_err-after
returns-in_err-after c =
    let e = c.in_err-after.field-0.0 in
    let first = c.open-board.result in
    let opened = at_opening c.new.result _ first (no_links 7) (fresh_ledger 7 6 8) c.new.ensures.making.0 c.open-board.ensures.opens in
    let second = c.link_all.new.board in
    let linked = at_links first second (fresh 7 8) opened pairs c.in_ok-link_all.ensures in
    let third = c.link.new.self in
    let heavy = at_call second third star linked (link 0 5) (Ok tt) c.in_ok-link.ensures in
    absurd (err_granted e _ (read_at third star_heavy heavy 7 (Err e) (omega arith) c.in_err-after.ensures))

pub returns : goal.returns
returns c =
    let first = c.open-board.result in
    let opened = at_opening c.new.result _ first (no_links 7) (fresh_ledger 7 6 8) c.new.ensures.making.0 c.open-board.ensures.opens in
    let second = c.link_all.new.board in
    let linked = at_links first second (fresh 7 8) opened pairs c.in_ok-link_all.ensures in
    let third = c.link.new.self in
    let heavy = at_call second third star linked (link 0 5) (Ok tt) c.in_ok-link.ensures in
    let was = granted_same _ _ (read_at second star linked 7 (Ok c.in_ok-before.before) (omega arith) c.in_ok-before.ensures) in
    let is = granted_same _ _ (read_at third star_heavy heavy 7 (Ok c.in_ok-after.after) (omega arith) c.in_ok-after.ensures) ∙ star_played.pairs in
    λ i. Ok (record { before = was i; after = is i })
