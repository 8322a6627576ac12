use Rattle.std.proofs.Common.{◌≡◌, Some, Ok, rules}
use Rattle.commands.specs.Commands.{Reads, Spans}
use Rattle.stream.proofs.Stepping.{replied_at, stepping_none, Turns, turns_command, turns_refused, steps_written}
use Rattle.stream.proofs.step.Goals as goal
use Rattle.stream.proofs.step.Goals.{in-Ok-Some, in-Err}

pub returns : goal.returns
returns g c =
    let none = c.in_ok-check_step.ensures.0 in
    let short = (stepping_none c.args.stream.now c.args.out.now none).0 in
    let written = c.in_ok-written.ensures in
    let turns : Turns g.B.Links.graph g.B.Links.made g.B.Book.ledger g.B.Book.fixed g.R.Ranking.before c.args.board.now c.args.stream.now c.args.place (replied_at c.args.place c.match-read.next.1) c.match-read.next.0 c.match-read.board =
    elim c.match-read.branch [
      | in-Ok-Some w ↦
          let d = w.in-Ok-Some.decoded in
          let reads : Reads c.args.stream.now c.args.place (Ok (Some d)) = search rules in
          let spans : Spans c.args.stream.now c.args.place d = search rules in
          rw (w.board-is, w.next-is) (turns_command d w.play.result short reads spans w.play.ensures)
      | in-Err w ↦ rw (w.board-is, w.next-is) (turns_refused w.in-Err.refused short w.in-Err.ensures.value)
    ] in
    let said : c.unwrap_or_else-reply.result ≡ replied_at c.args.place c.match-read.next.1 = search rules in
    steps_written c.match-read.next.0 c.unwrap_or_else-reply.result none (rw said turns) written.writes written.short
