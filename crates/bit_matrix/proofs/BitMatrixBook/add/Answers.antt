use Rattle.std.proofs.Common.{◌≡◌, ℕ, ◌+◌, ◌<◌, true, None, sym, ap, ◌∙◌, subst, arith, rules}
use Rattle.links.specs.Books.{adding, unless_room}
use Rattle.links.specs.declared.tally.Tally.{Tally}
use Rattle.links.proofs.Reasons.{Addable, adding_none, add_refused, add_not_open}
use Rattle.bit_matrix.specs.declared.BitMatrix.{BitMatrix}
use Rattle.bit_matrix.specs.Matrix.{matrix_graph, MatrixMade, matrix_ledger, rewritten, is_link_place, Written}
use Rattle.bit_matrix.proofs.Full.{adding_open}
use Rattle.bit_matrix.proofs.Writes.{link_written, grown}
use Rattle.bit_matrix.proofs.BitMatrixBook.add.Goals as goal

pub returns-in_err-check_open-clause-book : goal.returns-in_err-check_open-clause-book
returns-in_err-check_open-clause-book c =
    add_not_open matrix_graph MatrixMade matrix_ledger c.args.self.now c.args.a c.args.b
    c.in_err-check_open.field-0.0 c.from_residual.result c.from_residual.ensures.1 c.in_err-check_open.ensures

pub returns-in_err-check_room-clause-book : goal.returns-in_err-check_room-clause-book
returns-in_err-check_room-clause-book c =
    add_refused matrix_graph MatrixMade matrix_ledger c.args.self.now c.args.a c.args.b
    c.in_err-check_room.field-0.0 c.from_residual-in_err-check_room.result c.from_residual-in_err-check_room.ensures.1
    (λ made. adding_open c.args.self.now made c.args.a c.args.b (c.in_ok-check_open.ensures made).0
    ∙ ap (λ (room : ℕ). unless_room room None) (sym (c.room.ensures made)) ∙ c.in_err-check_room.ensures)

pub returns : goal.returns
returns c =
    record {
      book = record { kept = tt; answers = λ made. (none made, grown c.args.self.now _ c.args.a c.args.b made (can made) (after made) (written made)) };
      words = λ made _. written made;
      stays = search rules;
    }
  where
    none : MatrixMade c.args.self.now → adding (matrix_graph c.args.self.now) (matrix_ledger c.args.self.now) c.args.a c.args.b ≡ None
    none made =
        adding_open c.args.self.now made c.args.a c.args.b (c.in_ok-check_open.ensures made).0
        ∙ ap (λ (room : ℕ). unless_room room None) (sym (c.room.ensures made)) ∙ c.in_ok-check_room.ensures.0

    can : MatrixMade c.args.self.now → Addable (matrix_graph c.args.self.now) (matrix_ledger c.args.self.now) c.args.a c.args.b
    can made = adding_none (matrix_graph c.args.self.now) (matrix_ledger c.args.self.now) c.args.a c.args.b (none made)

    written : (made : MatrixMade c.args.self.now) → Written true (is_link_place c.args.self.now.size c.args.a c.args.b) c.args.self.now.words.now c.put_link.new.self.words.now
    written made = link_written true c.args.self.now _ c.args.a c.args.b made (can made).two c.put_link.ensures.written

    same : c.put_link.new.self.tally ≡ c.args.self.now.tally
    same = ap (λ (m : BitMatrix). m.tally) c.put_link.ensures.rest

    counted : MatrixMade c.args.self.now → c.add_one.new.self ≡ record { limit = c.args.self.now.tally.limit; count = c.args.self.now.tally.count + 1 }
    counted made =
        c.add_one.ensures.counted (subst (λ (t : Tally). t.count < t.limit) (sym same) (omega (arith, (can made).room)))
        ∙ ap (λ (t : Tally). record { limit = t.limit; count = t.count + 1 }) same

    after : MatrixMade c.args.self.now → record { size = c.put_link.new.self.size; tally = c.add_one.new.self; words = c.put_link.new.self.words } ≡ rewritten c.args.self.now (record { limit = c.args.self.now.tally.limit; count = c.args.self.now.tally.count + 1 }) c.put_link.new.self.words.now
    after made = λ i. record { size = (c.put_link.ensures.rest i).size; tally = counted made i; words = (c.put_link.ensures.rest i).words }
