use Rattle.std.proofs.Common.{◌≡◌, vec_len}
use Rattle.reference.proofs.plain_book.PlainBook.bar_classes.Given as goal

abbrev pub invariant-loop-a : goal.invariant-loop-a
invariant-loop-a l = (vec_len l.self.spares ≡ vec_len l.fn.self.spares) × (l.self.limit ≡ l.fn.self.limit)

abbrev pub invariant-loop-b : goal.invariant-loop-b
invariant-loop-b l = (vec_len l.self.spares ≡ vec_len l.fn.self.spares) × (l.self.limit ≡ l.fn.self.limit)
