use Rattle.book_examples.proofs.Filtered.{unfiltered}
use Rattle.book_examples.proofs.add_and_ask_filtered.Goals as goal

pub returns : goal.returns
returns g c made =
    unfiltered g.B.Links.graph g.B.Links.made g.B.Book.ledger c.args.book c.new-filtered.result c.args.a c.args.b c.add_and_ask.result (c.new-filtered.ensures.stands made) c.add_and_ask.ensures.answer
