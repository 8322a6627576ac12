-- A board on a filter that hides the link of 0 and 1, over a book that has it and that of 1 and 2.
use Rattle.std.proofs.Common.{◌≡◌, ℕ, ◌≤◌, Bool, [], ◌∷◌, Some, None, refl, arith}
use Rattle.graph.specs.Graph.{Graph, no_links, added}
use Rattle.links.specs.Books.{Ledger, lowered, by_book}
use Rattle.bits.specs.Bit.{bit}
use Rattle.class_filter.specs.Classes.{bars_classes, hidden, filtered, filtered_ledger}
use Rattle.links.specs.Books.{fresh_ledger}
use Rattle.rules.specs.Boards.{by_number, listed}
use Rattle.rules.specs.Calls.{Position, link, unlink, ask_free_links, reason, after, opened, free_links_of}

abbrev pub hides : ℕ → ℕ → Bool
hides = hidden (1 ∷ 2 ∷ 0 ∷ []) (0 ∷ 4 ∷ 0 ∷ 0 ∷ 0 ∷ 0 ∷ 0 ∷ 0 ∷ [])

abbrev pub brought : Graph
brought = added (added (no_links 3) 0 1) 1 2

abbrev pub allowed : Ledger
allowed = lowered (lowered (fresh_ledger 3 2 3) 0 1) 1 2

abbrev pub start : Position
start = opened by_number (filtered hides brought) (filtered_ledger hides 3 allowed)

-- after 0 and 1 could not be linked, and then could not be unlinked
abbrev pub after_linking : Position
after_linking = after by_number start (link 0 1)

abbrev pub after_unlinking : Position
after_unlinking = after by_number after_linking (unlink 0 1)

pub record Played : Type 0 where
  pub barred : reason start (link 0 1) ≡ by_book 8
  pub not_linked : reason after_linking (unlink 0 1) ≡ by_book 7
  pub inside : 3 ≤ after_unlinking.graph.size
  pub asked : reason after_unlinking (ask_free_links 1) ≡ None
  pub partners : listed after_unlinking.partners 0 3 ≡ None ∷ Some 2 ∷ Some 1 ∷ []
  pub free_links : free_links_of after_unlinking 1 ≡ 0

pub played : Played
unfolding bars_classes bit
played = record { barred = refl; not_linked = refl; inside = omega arith; asked = refl; partners = refl; free_links = refl }
