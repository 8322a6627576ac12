use Rattle.std.proofs.Common.{refl, inl, inr, ⊎_elim, ◌∙◌, arith}
use Rattle.tables.proofs.Steps.{in_range}
use Rattle.board.proofs.Leaving.{now_simple, never_refused, remove_more, remove_all}
use Rattle.board.proofs.changes.remove_links.Goals as goal

pub returns-then-b-from : goal.returns-then-b-from
returns-then-b-from g c = record {
  removes = λ made simple.
      let so_far = c.loop-b.invariant.removed made simple in
      let now = now_simple g.B.Links.graph g.B.Links.made g.B.Book.ledger c.args.a c.args.book.now c.args.tables.now simple c.loop-b.from c.loop-b.book c.loop-b.tables so_far in
      absurd (in_range (g.B.Links.graph c.loop-b.book) c.args.a c.loop-b.from c.in-Some.b now (c.in-Some.ensures so_far.book.still_made) (⊎_elim inl (λ p. inr p.1) c.then-b-from.either));
  stays = c.loop-b.invariant.stays;
}

pub returns-in_default-remove : goal.returns-in_default-remove
returns-in_default-remove g c = record {
  removes = λ made simple.
      let so_far = c.loop-b.invariant.removed made simple in
      let still = so_far.book.still_made in
      absurd (never_refused g.B.Links.graph g.B.Links.made g.B.Book.ledger c.args.a c.args.book.now c.args.tables.now simple c.loop-b.from c.loop-b.book c.loop-b.tables so_far
      c.in-Some.b (c.in-Some.ensures still) _ (c.in_default-remove.ensures.removes.answers still));
  stays = c.in_default-remove.ensures.stays ∙ c.loop-b.invariant.stays;
}

pub loop-b-init : goal.loop-b-init
loop-b-init g c = record {
  removed = λ made simple. record {
    within = omega arith;
    book = record { graph_is = refl; ledger_is = refl; still_made = made };
    agrees = λ agrees. agrees;
    partners = refl;
  };
  stays = refl;
}

pub loop-b-preserved : goal.loop-b-preserved
loop-b-preserved g c = record {
  removed = λ made simple.
      let so_far = c.loop-b.invariant.removed made simple in
      let still = so_far.book.still_made in
      remove_more g.B.Links.graph g.B.Links.made g.B.Book.ledger c.args.a c.args.book.now c.args.tables.now simple c.loop-b.from c.loop-b.book c.loop-b.tables so_far
      c.in-Some.b (c.in-Some.ensures still) c.remove.new.self c.unlink.new.self (c.in-Ok.ensures.removes.answers still).1 c.unlink.ensures.changed;
  stays = c.in-Ok.ensures.stays ∙ c.loop-b.invariant.stays;
}

pub returns : goal.returns
returns g c = record {
  removes = λ made simple.
      let so_far = c.loop-b.invariant.removed made simple in
      remove_all g.B.Links.graph g.B.Links.made g.B.Book.ledger c.args.a c.args.book.now c.args.tables.now simple c.loop-b.from c.loop-b.book c.loop-b.tables so_far
      (c.in_default.ensures so_far.book.still_made);
  stays = c.loop-b.invariant.stays;
}
