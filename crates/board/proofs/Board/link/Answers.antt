use Rattle.std.proofs.Common.{refl}
use Rattle.rules.specs.Calls.{in_order}
use Rattle.board.proofs.Repairing.{repaired_by_limit}
use Rattle.board.proofs.Linked.{linked_book, linked_rules}
use Rattle.board.proofs.Board.link.Goals as goal

pub returns : goal.returns
returns g c =
    let graph = g.B.Links.graph in
    let made = g.B.Links.made in
    let ledger = g.B.Book.ledger in
    let before = g.R.Ranking.before in
    let s = c.args.self.now in
    record {
      kept = tt;
      asked = λ asks. cc;
      ranking_is = refl;
      fixed_is = c.in_ok-add.ensures.stays;
      links = λ made_is.
          let granted = c.in_ok-add.ensures.adds.answers made_is in
          linked_book graph made ledger before s c.args.a c.args.b granted.0 (record { book = c.add.new.self; ranking = s.ranking; tables = c.repair_two.new.tables }) granted.1;
      partners = λ stands.
          let granted = c.in_ok-add.ensures.adds.answers stands.book_made in
          let still = granted.1.still_made in
          let parts = c.repair_of.ensures in
          let change = repaired_by_limit graph made ledger before c.repair_of.result c.add.new.self s.ranking (in_order c.args.a c.args.b) c.link.new.self c.repair_two.new.tables
          parts.links parts.ranking parts.limit c.repair_two.ensures in
          linked_rules graph made ledger before s c.args.a c.args.b granted.0 (record { book = c.add.new.self; ranking = s.ranking; tables = c.repair_two.new.tables }) granted.1 stands
          (parts.bounded still)
          c.link.new.self c.link.ensures.changed (change still);
    }
