use Rattle.std.proofs.Common.{◌≡◌, ◌-◌, false, ap, ◌∙◌, rules}
use Rattle.links.proofs.Reasons.{Removable, removing_none}
use Rattle.bit_matrix.specs.declared.BitMatrix.{BitMatrix}
use Rattle.bit_matrix.specs.Matrix.{matrix_graph, MatrixMade, rewritten, is_link_place, Written}
use Rattle.bit_matrix.proofs.Writes.{link_written, shrunk}
use Rattle.bit_matrix.proofs.BitMatrixBook.remove.Goals as goal

pub returns : goal.returns
returns c =
    record {
      book = record {
        kept = tt;
        answers = λ made. (
          (c.in_ok-check_remove.ensures made).0,
          shrunk c.args.self.now _ c.args.a c.args.b made (can made) after (written made),
        );
      };
      words = λ made _. written made;
      stays = search rules;
    }
  where
    can : MatrixMade c.args.self.now → Removable (matrix_graph c.args.self.now) c.args.a c.args.b
    can made = removing_none (matrix_graph c.args.self.now) c.args.a c.args.b (c.in_ok-check_remove.ensures made).0

    written : (made : MatrixMade c.args.self.now) → Written false (is_link_place c.args.self.now.size c.args.a c.args.b) c.args.self.now.words.now c.put_link.new.self.words.now
    written made = link_written false c.args.self.now _ c.args.a c.args.b made (can made).two c.put_link.ensures.written

    counted : c.remove_one.new.self ≡ record { limit = c.args.self.now.tally.limit; count = c.args.self.now.tally.count - 1 }
    counted = c.remove_one.ensures ∙ ap (λ (m : BitMatrix). record { limit = m.tally.limit; count = m.tally.count - 1 }) c.put_link.ensures.rest

    after : record { size = c.put_link.new.self.size; tally = c.remove_one.new.self; words = c.put_link.new.self.words } ≡ rewritten c.args.self.now (record { limit = c.args.self.now.tally.limit; count = c.args.self.now.tally.count - 1 }) c.put_link.new.self.words.now
    after = λ i. record { size = (c.put_link.ensures.rest i).size; tally = counted i; words = (c.put_link.ensures.rest i).words }
