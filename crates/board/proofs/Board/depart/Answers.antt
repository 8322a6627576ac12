use Rattle.std.proofs.Common.{sym, refl, ◌∙◌}
use Rattle.board.proofs.Departed.{departed_book, departed_rules}
use Rattle.board.proofs.Board.depart.Goals as goal

pub returns : goal.returns
returns g c =
    let graph = g.B.Links.graph in
    let made = g.B.Links.made in
    let ledger = g.B.Book.ledger in
    let before = g.R.Ranking.before in
    let s = c.args.self.now in
    let load = c.in_ok-check_load.ensures in
    let k = c.remove_links.new.book in
    record {
      kept = tt;
      asked = λ asks. cc;
      ranking_is = refl;
      fixed_is = c.remove_links-2.ensures.stays ∙ c.remove_links.ensures.stays;
      links = λ made_is.
          departed_book graph made ledger before s c.args.a c.in-Some.b (load.load made_is).0 (sym c.in-Some.ensures.value)
          k c.remove_links.new.tables c.remove_links-2.new.tables (record { book = c.remove_links-2.new.book; ranking = s.ranking; tables = c.part.new.self })
          c.remove_links.ensures.removes c.remove_links-2.ensures.removes made_is (load.simple made_is);
      partners = λ stands.
          departed_rules graph made ledger before s c.args.a c.in-Some.b (load.load stands.book_made).0 (sym c.in-Some.ensures.value)
          k c.remove_links.new.tables c.remove_links-2.new.tables (record { book = c.remove_links-2.new.book; ranking = s.ranking; tables = c.part.new.self })
          c.remove_links.ensures.removes c.remove_links-2.ensures.removes stands c.part.ensures.changed;
    }
