use Rattle.std.proofs.Common.{◌≡◌, ℕ, Bool, Ok, subst, refl, ◌∙◌, rules}
use Rattle.std.proofs.lemmas.Bool.{and_parts}
use Rattle.graph.specs.Graph.{Next}
use Rattle.graph.specs.Pairs.{is_free}
use Rattle.rules.specs.Calls.{ask_next_free}
use Rattle.rules.specs.Repair.{free_link}
use Rattle.rules.proofs.Questions.{next_is}
use Rattle.tables.specs.Views.{partners_of, free_linked}
use Rattle.board.proofs.Steps.{question_steps}
use Rattle.board.proofs.Board.next_free_link.Goals as goal

pub returns : goal.returns
returns g c =
    let s = c.args.self.now in
    let graph = g.B.Links.graph s.book in
    let free = is_free (partners_of s.tables) in
    question_steps g.B.Links.graph g.B.Links.made g.B.Book.ledger g.R.Ranking.before s (ask_next_free c.args.a c.args.from) g.B.Book.fixed refl (Ok c.next_free_linked.result)
    (λ made. (search rules)) (λ stands.
    let simple = stands.sound.simple in
    let same : free_linked s.tables c.args.a ≡ free_link graph (partners_of s.tables) c.args.a = λ i z. stands.agrees.tracks.sets c.args.a z i in
    next_is (free_link graph (partners_of s.tables) c.args.a) graph.size c.args.from
    (λ z on. simple.below z c.args.a (simple.symmetric z c.args.a ∙ (and_parts (graph.linked c.args.a z) (free z) on).0))
    c.next_free_linked.result (subst (λ (test : ℕ → Bool). Next test c.args.from c.next_free_linked.result) same c.next_free_linked.ensures.value))
