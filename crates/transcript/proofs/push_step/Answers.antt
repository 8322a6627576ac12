use Rattle.std.proofs.Common.{ℕ, take, replicate, vec_items, refl}
use Rattle.std.proofs.lemmas.Slice.{pushed}
use Rattle.stream.proofs.Stepping.{ranking_kept}
use Rattle.transcript.proofs.Playing.{step_granted}
use Rattle.transcript.proofs.Writing.{line_first}
use Rattle.transcript.proofs.push_step.Goals as goal

pub returns : goal.returns
returns g c =
    let steps = c.in_ok-stepped.ensures in
    let text = vec_items c.args.text.now in
    let line = take c.in_ok-stepped.stepped.written c.step.new.out in
    record {
      ranking_is = ranking_kept g.B.Links.graph g.B.Links.made g.B.Book.ledger g.B.Book.fixed g.R.Ranking.before c.args.board.now c.step.new.board c.args.place _ _ c.in_ok-stepped.stepped c.args.stream.now steps;
      ends = (
        step_granted c.args.stream.now (replicate {A = ℕ} 19 0) steps.answers.0,
        λ stood.
            let makes = steps.by_rules stood in
            record {
              place_is = makes.writes.place_is;
              adds = record {
                position_is = makes.position_is;
                text_is = rw (line_first makes.writes) at (pushed {X = ℕ} {was = text} {xs = text} line refl c.in_ok-extend_from_slice.was c.extend_from_slice.ensures.items);
                stands = makes.stands;
              };
            },
      );
    }
