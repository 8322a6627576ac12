use Rattle.std.proofs.Common.{◌≡◌, ℕ, ◌-◌, ◌*◌, ◌<◌, ◌≤◌, List, ◌++◌, length, get_or, Option, sym, refl, ap, subst, arith, rules}
use borrow.Rule.Slice.PartMut.{post_of}
use Rattle.std.proofs.lemmas.List.{places}
use Rattle.links.specs.Refusals.{Reason}
use Rattle.bit_matrix.specs.declared.BitMatrix.{BitMatrix}
use Rattle.bit_matrix.specs.Matrix.{all_words, Making}
use Rattle.bit_matrix.proofs.Fresh.{checked_bounds, fresh_from_zeros}
use Rattle.bit_matrix.proofs.BitMatrix.new.Goals as goal

pub returns-in-Ok : goal.returns-in-Ok
returns-in-Ok c =
    let bounds = checked_bounds c.args.size c.args.limit (length c.args.words.now) c.in-Ok.ensures.0 in
    let fresh = fresh_from_zeros book c.args.limit bounds.0 bounds.1 c.new.ensures (omega (arith, bounds.2, same_length)) (λ k h. zeros k (omega (arith, used))) in
    record {
      made = fresh.still_made;
      making = subst (λ (reason : Option Reason). Making reason c.args.size c.args.limit c.args.words.now book) (sym c.in-Ok.ensures.0)
          (fresh, record { same_length = same_length; zeros = λ k h. zeros k (omega (arith, used)); beyond = λ k h. beyond k (omega (arith, used)) });
      lender = refl;
    }
  where
    used : c.args.size * c.row_words.result ≡ all_words c.args.size
    used = ap (λ (w : ℕ). c.args.size * w) c.row_words.ensures

    after : List ℕ
    after = c.fill.new.self ++ post_of 0 (c.args.size * c.row_words.result - 0) c.args.words.now

    book : BitMatrix
    book = record { size = c.args.size; tally = c.new.result; words = record { ref_ptr = c.args.words.ref_ptr; ghost_name = c.args.words.ghost_name; now = after } }

    same_length : length (c.fill.new.self ++ post_of 0 (c.args.size * c.row_words.result - 0) c.args.words.now) ≡ length c.args.words.now
    same_length = search (rules, places)

    zeros : (k : ℕ) → k < c.args.size * c.row_words.result → get_or (c.fill.new.self ++ post_of 0 (c.args.size * c.row_words.result - 0) c.args.words.now) k 0 ≡ 0
    zeros k h = search (rules, places)

    beyond : (k : ℕ) → c.args.size * c.row_words.result ≤ k → get_or (c.fill.new.self ++ post_of 0 (c.args.size * c.row_words.result - 0) c.args.words.now) k 0 ≡ get_or c.args.words.now k 0
    beyond k h = search (rules, places)

pub returns-in-Err : goal.returns-in-Err
returns-in-Err c =
    let none = fresh_from_zeros book 0 (omega arith) (omega arith) c.new-in-Err.ensures (omega arith) (λ k h. absurd (omega arith)) in
    record {
      made = none.still_made;
      making = subst (λ (reason : Option Reason). Making reason c.args.size c.args.limit c.args.words.now book) (sym c.in-Err.ensures) (none, refl);
      lender = refl;
    }
  where
    book : BitMatrix
    book = record { size = 0; tally = c.new-in-Err.result; words = c.args.words }
