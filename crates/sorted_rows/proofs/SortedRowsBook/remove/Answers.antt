use Rattle.std.proofs.Common.{rules}
use Rattle.links.proofs.Reasons.{removing_none}
use Rattle.sorted_rows.specs.declared.row.Change.TheVariants.{Remove}
use Rattle.sorted_rows.specs.Rows.{RowsMade}
use Rattle.sorted_rows.proofs.LinkChange.{after_removing, stands_after}
use Rattle.sorted_rows.proofs.SortedRowsBook.remove.Goals as goal

pub returns : goal.returns
returns c =
    let none = λ (made : RowsMade c.args.self.now). (c.in_ok-check_remove.ensures made).0 in
    let after = λ (made : RowsMade c.args.self.now). after_removing _ _ _ _ _ made _ _ (removing_none _ _ _ (none made)) in
    record {
      book = record {
        kept = tt;
        answers = λ made. (none made, stands_after Remove _ _ _ _ _ _ _ _ (after made) c.remove_one.ensures c.change_both.ensures);
      };
      written = λ made _. c.change_both.ensures.rows (after made).able;
      stays = search rules;
    }
