use Rattle.std.proofs.Common.{◌≡◌, ◌<◌, length, None, vec_items}
use Rattle.board.specs.Boards.{Stands}
use Rattle.transcript.specs.Transcript.{transcribing}
use Rattle.transcript.proofs.Playing.{Left}
use Rattle.transcript.proofs.play_all.Given as goal

abbrev pub invariant-loop : goal.invariant-loop
invariant-loop g l = (0 < l.counter → transcribing l.stream ≡ None)
    × (Stands g.B.Links.graph g.B.Links.made g.B.Book.ledger l.initial.board →
    Left g.B.Links.graph g.B.Links.made g.B.Book.ledger g.R.Ranking.before (length l.stream) l.counter l.initial.board l.stream (vec_items l.initial.text) l.place l.board (vec_items l.text))
