use Rattle.std.proofs.Common.{[], ◌∷◌, sym, refl}
use Rattle.board.proofs.Repairing.{repaired_by_limit}
use Rattle.board.proofs.Withdrawn.{withdrawn_book, withdrawn_free, withdrawn_partner}
use Rattle.board.proofs.Board.withdraw.Goals as goal

pub returns-in-Some : goal.returns-in-Some
returns-in-Some g c =
    let graph = g.B.Links.graph in
    let made = g.B.Links.made in
    let ledger = g.B.Book.ledger in
    let before = g.R.Ranking.before in
    let s = c.args.self.now in
    let load = c.in_ok-check_load.ensures in
    record {
      kept = tt;
      asked = λ asks. cc;
      ranking_is = refl;
      fixed_is = c.remove_links.ensures.stays;
      links = λ made_is.
          withdrawn_book graph made ledger before s c.args.a (load.load made_is).0 (record { book = c.remove_links.new.book; ranking = s.ranking; tables = c.repair.new.tables })
          made_is (load.simple made_is) c.remove_links.new.tables c.remove_links.ensures.removes;
      partners = λ stands.
          let parts = c.repair_of.ensures in
          let change = repaired_by_limit graph made ledger before c.repair_of.result c.remove_links.new.book s.ranking (c.in-Some.b ∷ []) c.part.new.self c.repair.new.tables
          parts.links parts.ranking parts.limit c.repair.ensures in
          withdrawn_partner graph made ledger before s c.args.a (load.load stands.book_made).0 (record { book = c.remove_links.new.book; ranking = s.ranking; tables = c.repair.new.tables })
          stands c.in-Some.b (sym c.in-Some.ensures.value) c.remove_links.new.tables c.part.new.self c.remove_links.ensures.removes c.part.ensures.changed
          parts.bounded change;
    }

pub returns-in_default : goal.returns-in_default
returns-in_default g c =
    let graph = g.B.Links.graph in
    let made = g.B.Links.made in
    let ledger = g.B.Book.ledger in
    let before = g.R.Ranking.before in
    let s = c.args.self.now in
    let load = c.in_ok-check_load.ensures in
    record {
      kept = tt;
      asked = λ asks. cc;
      ranking_is = refl;
      fixed_is = c.remove_links.ensures.stays;
      links = λ made_is.
          withdrawn_book graph made ledger before s c.args.a (load.load made_is).0 (record { book = c.remove_links.new.book; ranking = s.ranking; tables = c.remove_links.new.tables })
          made_is (load.simple made_is) c.remove_links.new.tables c.remove_links.ensures.removes;
      partners = λ stands.
          withdrawn_free graph made ledger before s c.args.a (load.load stands.book_made).0 (record { book = c.remove_links.new.book; ranking = s.ranking; tables = c.remove_links.new.tables })
          stands (sym c.in_default.ensures.value) c.remove_links.ensures.removes;
    }
