-- Lines written out, and what they mean.
use Rattle.std.specs.Prelude.{◌≡◌, Some, None, Ok, Err, codes}
use Rattle.commands.specs.declared.Command.TheVariants.{Link, Partner}
use Rattle.text.specs.Lines.{meaning}
use Rattle.text.specs.Shown.{quoted}

pub record WorkedLines : Type 0 where
  pub spaces : meaning (codes "  link 1   2 ") ≡ Ok (Some (Link 1 2))
  pub tabs : meaning (codes "\tlink\t1 \t 2\t") ≡ Ok (Some (Link 1 2))
  -- a comment may follow a command, at a word that begins with '#'
  pub comment : meaning (codes "partner 7 # morning, dock 3") ≡ Ok (Some (Partner 7))
  pub comment_after_tab : meaning (codes "link 1 2\t#morning") ≡ Ok (Some (Link 1 2))
  pub only_comment : meaning (codes "# link 1 2") ≡ Ok None
  -- '#' inside a word begins no comment, and what stands in a comment is no load
  pub mark_in_a_word : meaning (codes "link 1 2#x") ≡ Err (record {})
  pub load_in_a_comment : meaning (codes "link 1 # 2") ≡ Err (record {})
  -- a byte that does not print is escaped where the line is shown
  pub escaped : quoted (codes "lnk\t3") ≡ codes "\"lnk\\t3\""
