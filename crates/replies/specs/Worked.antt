-- Lines written out.
use Rattle.std.specs.Prelude.{◌≡◌, length, codes}
use Rattle.links.specs.declared.refusal.Layer.TheVariants.{Stream, Board, Book}
use Rattle.links.specs.declared.refusal.Refusal.TheVariants.{SameLoad, LoadFull, UnknownCommand}
use Rattle.replies.specs.declared.TheConstants.{LONGEST_LINE, LONGEST_PAIR}
use Rattle.replies.specs.declared.Reply.TheVariants.{Done, Alone, With, No}
use Rattle.replies.specs.Lines.{line, pair_line}

pub record WorkedLines : Type 0 where
  pub done : line Done ≡ codes "ok\n"
  pub alone : line Alone ≡ codes "alone\n"
  pub with_zero : line (With 0) ≡ codes "with 0\n"
  pub with_last : line (With 255) ≡ codes "with 255\n"
  pub same_load : line (No (record { refusal = SameLoad; layer = Board }) 18)
      ≡ codes "no 05 board 18\n"
  pub load_full : line (No (record { refusal = LoadFull; layer = Book }) 100)
      ≡ codes "no 09 book 100\n"
  pub longest : line (No (record { refusal = UnknownCommand; layer = Stream }) 65535)
      ≡ codes "no 12 stream 65535\n"
  pub longest_has :
      length (line (No (record { refusal = UnknownCommand; layer = Stream }) 65535))
      ≡ LONGEST_LINE
  pub pair : pair_line 0 1 ≡ codes "0 1\n"
  pub longest_pair : length (pair_line 254 255) ≡ LONGEST_PAIR
