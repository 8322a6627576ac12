use Rattle.std.proofs.Common.{ℕ, ◌/◌, Ok, refl, ap, ◌∙◌}
use Rattle.rules.specs.Calls.{ask_pairs}
use Rattle.tables.proofs.Matched.{matched_below}
use Rattle.board.proofs.Steps.{question_steps}
use Rattle.board.proofs.Board.pair_count.Goals as goal

pub returns : goal.returns
returns g c =
    let s = c.args.self.now in
    question_steps g.B.Links.graph g.B.Links.made g.B.Book.ledger g.R.Ranking.before s ask_pairs g.B.Book.fixed refl (Ok _) (λ _. (refl, tt)) (λ stands.
    ap (λ (n : ℕ). n / 2) (c.matched_count.ensures ∙ matched_below (g.B.Links.graph s.book) s.tables stands.sound.simple.small stands.agrees))
