use Rattle.std.proofs.Common.{◌≡◌, vec_len}
use Rattle.reference.proofs.plain_book.PlainBook.take_out.Given as goal

abbrev pub invariant-loop-load : goal.invariant-loop-load
invariant-loop-load l = (vec_len l.self.spares ≡ vec_len l.fn.self.spares) × (l.self.limit ≡ l.fn.self.limit)
