use Rattle.std.proofs.Common.{refl}
use Rattle.rules.specs.Calls.{in_order}
use Rattle.board.proofs.Repairing.{repaired_by_limit}
use Rattle.board.proofs.Unlinked.{unlinked_book, unlinked_rules}
use Rattle.board.proofs.Board.unlink.Goals as goal

pub returns : goal.returns
returns g c =
    let graph = g.B.Links.graph in
    let made = g.B.Links.made in
    let ledger = g.B.Book.ledger in
    let before = g.R.Ranking.before in
    let s = c.args.self.now in
    record {
      kept = tt;
      asked = λ asks. cc;
      ranking_is = refl;
      fixed_is = c.in_ok-remove.ensures.stays;
      links = λ made_is.
          let granted = c.in_ok-remove.ensures.removes.answers made_is in
          unlinked_book graph made ledger before s c.args.a c.args.b granted.0 (record { book = c.remove.new.self; ranking = s.ranking; tables = c.repair_two.new.tables }) granted.1;
      partners = λ stands.
          let granted = c.in_ok-remove.ensures.removes.answers stands.book_made in
          let still = granted.1.still_made in
          let parts = c.repair_of.ensures in
          let change = repaired_by_limit graph made ledger before c.repair_of.result c.remove.new.self s.ranking (in_order c.args.a c.args.b) c.part_partners.new.tables c.repair_two.new.tables
          parts.links parts.ranking parts.limit c.repair_two.ensures in
          unlinked_rules graph made ledger before s c.args.a c.args.b granted.0 (record { book = c.remove.new.self; ranking = s.ranking; tables = c.repair_two.new.tables }) granted.1 stands
          (parts.bounded still)
          c.unlink.new.self c.part_partners.new.tables c.unlink.ensures.changed (c.part_partners.ensures still) (change still);
    }
