use Rattle.std.proofs.Common.{Ok, Err, ap}
use Rattle.rules.specs.Calls.{unlink, link, depart}
use Rattle.board.specs.Runs.{more}
use Rattle.board_examples.proofs.PlayedOut.{never_unlinked, told_no_load, never_departed, left}
use Rattle.board_examples.proofs.memory.play_out.Goals as goal

pub returns-in_err-unlink : goal.returns-in_err-unlink
returns-in_err-unlink g c =
    let s = c.args.board.now in
    let u = c.link_all.new.board in
    let v = c.unlink.new.self in
    let e = c.in_err-unlink.field-0.0 in
    record {
      run = λ first run. more u (c.link_all.ensures.run first run) (unlink 0 1) (Err e) v c.in_err-unlink.ensures;
      answers = λ stands fresh_is. absurd (never_unlinked s u v v v (record { stands = stands; position_is = fresh_is }) c.in_ok-link_all.ensures e c.in_err-unlink.ensures);
      graph_is = λ stands fresh_is. absurd (never_unlinked s u v v v (record { stands = stands; position_is = fresh_is }) c.in_ok-link_all.ensures e c.in_err-unlink.ensures);
    }

pub returns-in_err-depart : goal.returns-in_err-depart
returns-in_err-depart g c =
    let s = c.args.board.now in
    let u = c.link_all.new.board in
    let v = c.unlink.new.self in
    let w = c.link-refused.new.self in
    let t = c.depart.new.self in
    let r = c.link-refused.result in
    let e = c.in_err-depart.field-0.0 in
    record {
      run = λ first run.
          let run₁ = more u (c.link_all.ensures.run first run) (unlink 0 1) (Ok tt) v c.in_ok-unlink.ensures in
          more w (more v run₁ (link 0 6) r w c.link-refused.ensures) (depart 4) (Err e) t c.in_err-depart.ensures;
      answers = λ stands fresh_is. absurd (never_departed s u v w t (record { stands = stands; position_is = fresh_is }) c.in_ok-link_all.ensures c.in_ok-unlink.ensures r c.link-refused.ensures e c.in_err-depart.ensures);
      graph_is = λ stands fresh_is. absurd (never_departed s u v w t (record { stands = stands; position_is = fresh_is }) c.in_ok-link_all.ensures c.in_ok-unlink.ensures r c.link-refused.ensures e c.in_err-depart.ensures);
    }

pub returns : goal.returns
returns g c =
    let s = c.args.board.now in
    let u = c.link_all.new.board in
    let v = c.unlink.new.self in
    let w = c.link-refused.new.self in
    let t = c.depart.new.self in
    let r = c.link-refused.result in
    record {
      run = λ first run.
          let run₁ = more u (c.link_all.ensures.run first run) (unlink 0 1) (Ok tt) v c.in_ok-unlink.ensures in
          more w (more v run₁ (link 0 6) r w c.link-refused.ensures) (depart 4) (Ok tt) t c.in_ok-depart.ensures;
      answers = λ stands fresh_is. ap Ok (told_no_load s u v w t (record { stands = stands; position_is = fresh_is }) c.in_ok-link_all.ensures c.in_ok-unlink.ensures r c.link-refused.ensures);
      graph_is = λ stands fresh_is. left s u v w t (record { stands = stands; position_is = fresh_is }) c.in_ok-link_all.ensures c.in_ok-unlink.ensures r c.link-refused.ensures c.in_ok-depart.ensures;
    }
