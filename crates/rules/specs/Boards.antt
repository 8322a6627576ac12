-- Boards played through by the rules, on fresh books and with the lower number first.
use Rattle.std.specs.Prelude.{◌≡◌, ℕ, zero, suc, ◌+◌, ◌-◌, ◌%◌, ◌≤◌, Bool, false, List, []}
use Rattle.std.specs.Prelude.{◌∷◌, ◌++◌, Some, None, Option, ◌==◌, nat_lt, if◌then◌else◌}
use Rattle.graph.specs.Graph.{no_links, degree}
use Rattle.graph.specs.Matching.{Augmenting}
use Rattle.graph.specs.declared.TheConstants.{MOST_LOADS}
use Rattle.links.specs.declared.TheConstants.{MOST_LINKS}
use Rattle.links.specs.Books.{fresh_ledger, by_book}
use Rattle.links.specs.Refusals.{Reason}
use Rattle.ranking.specs.Order.{lower}
use Rattle.rules.specs.Calls.{Position, Call, link, unlink, withdraw, depart, ask_partner, reason}
use Rattle.rules.specs.Calls.{by_board, after, opened, pairs_of}
use Rattle.rules.specs.Laws.{Proper}
use Rattle.rules.specs.Repair.{Ranking, paired}
use Rattle.rules.specs.Threshold.{threshold}

abbrev pub Thresholds : Type 0
Thresholds =
    (threshold 1 ≡ 2) × (threshold 8 ≡ 4) × (threshold 2048 ≡ 64) × (threshold 32640 ≡ 256)

-- ---- how boards are played and read

abbrev pub by_number : Ranking
by_number a = lower

-- a board that is opened on a book without links, in which each load may be linked to every other
abbrev pub fresh : ℕ → ℕ → Position
fresh n limit = opened by_number (no_links n) (fresh_ledger n (n - 1) limit)

-- such a book is proper
abbrev pub FreshProper : Type 0
FreshProper =
    (n limit : ℕ) → n ≤ MOST_LOADS → limit ≤ MOST_LINKS →
    Proper (no_links n) (fresh_ledger n (n - 1) limit)

abbrev pub played_by : Ranking → List Call → Position → Position
played_by before [] x = x
played_by before (c ∷ rest) x = played_by before rest (after before x c)

abbrev pub played : List Call → Position → Position
played = played_by by_number

abbrev pub answers : List Call → Position → List (Option Reason)
answers [] x = []
answers (c ∷ rest) x = reason x c ∷ answers rest (after by_number x c)

-- the values of f from i on, n of them
abbrev pub listed : {A : Type 0} → (ℕ → A) → ℕ → ℕ → List A
listed f i zero = []
listed f i (suc n) = f i ∷ listed f (i + 1) n

abbrev pub partners_in : Position → List (Option ℕ)
partners_in x = listed x.partners 0 x.graph.size

-- the links of b with the loads below n, and the links of the loads below m with lower ones
abbrev pub links_with : (ℕ → ℕ → Bool) → ℕ → ℕ → List (ℕ × ℕ)
links_with linked b zero = []
links_with linked b (suc n) =
    links_with linked b n ++ (if linked n b then (n, b) ∷ [] else [])

abbrev pub links_below : (ℕ → ℕ → Bool) → ℕ → List (ℕ × ℕ)
links_below linked zero = []
links_below linked (suc m) = links_below linked m ++ links_with linked m m

abbrev pub links_in : Position → List (ℕ × ℕ)
links_in x = links_below x.graph.linked x.graph.size

abbrev pub spares_in : Position → List ℕ
spares_in x = listed x.ledger.spare 0 x.graph.size

-- ---- four loads in a row

abbrev pub row_calls : List Call
row_calls = link 1 2 ∷ link 0 1 ∷ link 2 3 ∷ []

abbrev pub row : Position
row = played row_calls (fresh 4 8)

abbrev pub row_departed : Position
row_departed = after by_number row (depart 1)

-- the second link leaves 0 free, the third makes a path of three links; after the departure one
-- link and its pair are left
pub record Row : Type 0 where
  pub granted : answers row_calls (fresh 4 8) ≡ None ∷ None ∷ None ∷ []
  pub pairs : partners_in row ≡ Some 1 ∷ Some 0 ∷ Some 3 ∷ Some 2 ∷ []
  pub counted : pairs_of row ≡ 2
  pub departs : reason row (depart 1) ≡ None
  pub links_left : links_in row_departed ≡ (2, 3) ∷ []
  pub pairs_left : partners_in row_departed ≡ None ∷ None ∷ Some 3 ∷ Some 2 ∷ []
  pub spares_left : spares_in row_departed ≡ 3 ∷ 3 ∷ 2 ∷ 2 ∷ []
  pub room_left : row_departed.ledger.room ≡ 7
  pub departs_no_more : reason row_departed (depart 1) ≡ by_board 11

-- with only 1 and 2 as partners the row is an augmenting path
abbrev pub RowAugmenting : Type 0
RowAugmenting = Augmenting row.graph (paired 1 2 (λ _. None)) 3 (0 ∷ 1 ∷ 2 ∷ 3 ∷ [])

-- ---- six loads

abbrev pub six_calls : List Call
six_calls = link 0 1 ∷ link 2 3 ∷ link 0 2 ∷ link 1 3 ∷ link 1 5 ∷ link 3 4 ∷ []

abbrev pub six : Position
six = played six_calls (fresh 6 8)

abbrev pub six_parted : Position
six_parted = after by_number six (unlink 0 1)

pub record Six : Type 0 where
  pub granted : answers six_calls (fresh 6 8) ≡ None ∷ None ∷ None ∷ None ∷ None ∷ None ∷ []
  pub pairs : partners_in six ≡ Some 1 ∷ Some 0 ∷ Some 3 ∷ Some 2 ∷ None ∷ None ∷ []
  pub parts : reason six (unlink 0 1) ≡ None
  pub pairs_then : partners_in six_parted ≡ Some 2 ∷ Some 5 ∷ Some 0 ∷ Some 4 ∷ Some 3 ∷ Some 1 ∷ []

-- ---- a heavy load

abbrev pub star_calls : List Call
star_calls = link 1 2 ∷ link 3 4 ∷ link 5 6 ∷ link 0 1 ∷ link 0 2 ∷ link 0 3 ∷ link 0 4 ∷ []

abbrev pub star : Position
star = played star_calls (fresh 7 8)

abbrev pub star_heavy : Position
star_heavy = after by_number star (link 0 5)

-- with four links load 0 is free, with the fifth it displaces load 2
pub record Star : Type 0 where
  pub granted : answers star_calls (fresh 7 8) ≡ None ∷ None ∷ None ∷ None ∷ None ∷ None ∷ None ∷ []
  pub free : star.partners 0 ≡ None
  pub links : degree star.graph 0 ≡ 4
  pub links_once_more : reason star (link 0 5) ≡ None
  pub pairs : partners_in star_heavy ≡ Some 1 ∷ Some 0 ∷ None ∷ Some 4 ∷ Some 3 ∷ Some 6 ∷ Some 5
      ∷ []

-- ---- rankings of their own

-- even loads would rather have the lower number, odd loads the higher
abbrev pub by_parity : Ranking
by_parity a x y = if a % 2 == 0 then nat_lt x y else nat_lt y x

-- the path from 0 goes over 2 and 3, and ends at the first of 4 and 5 for the load 3
abbrev pub ranked : Position
ranked = played_by by_parity (link 2 3 ∷ link 3 4 ∷ link 3 5 ∷ link 0 2 ∷ []) (fresh 6 8)

abbrev pub Ranked : Type 0
Ranked = partners_in ranked ≡ Some 2 ∷ None ∷ Some 0 ∷ Some 5 ∷ None ∷ Some 3 ∷ []

-- ---- refusals

-- each call that is refused, and by whom
pub record Refusals : Type 0 where
  pub not_a_load : reason row (link 0 4) ≡ by_board 4
  pub same_load : reason row (link 2 2) ≡ by_board 5
  pub linked_already : reason row (link 2 1) ≡ by_book 6
  pub not_linked : reason row (unlink 0 3) ≡ by_book 7
  pub no_spare :
      answers (link 0 1 ∷ link 0 2 ∷ []) (opened by_number (no_links 3)
      (record { limit = 3; barred = λ _ _. false; spare = λ _. 1; room = 3 }))
      ≡ None ∷ by_book 9 ∷ []
  pub no_room : answers (link 0 1 ∷ link 2 3 ∷ []) (fresh 4 1) ≡ None ∷ by_book 10 ∷ []
  pub partner_of_none : reason row (ask_partner 4) ≡ by_board 4
  pub withdraws_free : reason (fresh 4 8) (withdraw 0) ≡ None
