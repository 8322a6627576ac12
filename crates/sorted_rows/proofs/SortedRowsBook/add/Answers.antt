use Rattle.std.proofs.Common.{◌∙◌, arith, rules}
use Rattle.links.proofs.Reasons.{adding_none, adding_left, add_refused, add_not_open}
use Rattle.sorted_rows.specs.declared.row.Change.TheVariants.{Insert}
use Rattle.sorted_rows.specs.Rows.{rows_graph, rows_ledger, RowsMade}
use Rattle.sorted_rows.proofs.LinkChange.{after_adding, stands_after}
use Rattle.sorted_rows.proofs.SortedRowsBook.add.Goals as goal

pub returns-in_err-check_open-clause-book : goal.returns-in_err-check_open-clause-book
returns-in_err-check_open-clause-book c =
    add_not_open rows_graph RowsMade rows_ledger c.args.self.now c.args.a c.args.b
    c.in_err-check_open.field-0.0 c.from_residual.result c.from_residual.ensures.1 c.in_err-check_open.ensures

pub returns-in_err-check_left-clause-book : goal.returns-in_err-check_left-clause-book
returns-in_err-check_left-clause-book c =
    add_refused rows_graph RowsMade rows_ledger c.args.self.now c.args.a c.args.b
    c.in_err-check_left.field-0.0 c.from_residual-in_err-check_left.result c.from_residual-in_err-check_left.ensures.1
    (λ made. adding_left (rows_graph c.args.self.now) (rows_ledger c.args.self.now) c.args.a c.args.b _ _ _ (c.in_ok-check_open.ensures made).0 (c.spare.ensures made) (c.spare-2.ensures made) (c.room.ensures made)
    ∙ c.in_err-check_left.ensures)

pub returns : goal.returns
returns c =
    let none = λ (made : RowsMade c.args.self.now).
    adding_left (rows_graph c.args.self.now) (rows_ledger c.args.self.now) c.args.a c.args.b _ _ _ (c.in_ok-check_open.ensures made).0 (c.spare.ensures made) (c.spare-2.ensures made) (c.room.ensures made)
    ∙ c.in_ok-check_left.ensures.0 in
    let can = λ (made : RowsMade c.args.self.now). adding_none _ _ _ _ (none made) in
    let after = λ (made : RowsMade c.args.self.now). after_adding _ _ _ _ _ made _ _ (can made) in
    record {
      book = record {
        kept = tt;
        answers = λ made.
            (none made, stands_after Insert _ _ _ _ _ _ _ _ (after made) (c.add_one.ensures.counted (omega (arith, (can made).room))) c.change_both.ensures);
      };
      written = λ made _. c.change_both.ensures.rows (after made).able;
      stays = search rules;
    }
