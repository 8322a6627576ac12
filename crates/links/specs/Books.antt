-- What a book allows besides its links, and how it answers a change.
use Rattle.std.specs.Prelude.{◌≡◌, ℕ, ◌+◌, ◌-◌, ◌<◌, ◌≤◌, Bool, true, false, ◌||◌, [], Some, None}
use Rattle.std.specs.Prelude.{if◌then◌else◌, Option, Result, ◌==◌, nat_le, nat_lt}
use Rattle.graph.specs.Graph.{Graph, link_count, added, removed}
use Rattle.graph.specs.declared.TheConstants.{MOST_LOADS}
use Rattle.links.specs.declared.TheConstants.{MOST_LINKS}
use Rattle.links.specs.declared.refusal.Layer.{Layer}
use Rattle.links.specs.declared.refusal.Layer.TheVariants.{Book}
use Rattle.links.specs.declared.refusal.Refused.{Refused}
use Rattle.links.specs.Refusals.{Reason, Answers, Kept}

-- the link limit, the barred pairs, how many more links each load may take (its spare), and how
-- many more the book may (its room)
pub record Ledger : Type 0 where
  pub limit : ℕ
  pub barred : ℕ → ℕ → Bool
  pub spare : ℕ → ℕ
  pub room : ℕ

-- what holds of every book at all times
pub record Bounded (g : Graph) (l : Ledger) : Type 0 where
  pub limit_bound : l.limit ≤ MOST_LINKS
  pub within : link_count g ≤ l.limit
  pub barred_symmetric : (a b : ℕ) → l.barred a b ≡ l.barred b a
  pub barred_below : (a b : ℕ) → l.barred a b ≡ true → a < g.size
  pub spare_below : (a : ℕ) → g.size ≤ a → l.spare a ≡ 0

-- of n loads without links, each of which may take so many; no pair is barred
abbrev pub fresh_ledger : ℕ → ℕ → ℕ → Ledger
fresh_ledger n spare limit =
    record {
      limit = limit;
      barred = λ _ _. false;
      spare = λ a. if nat_lt a n then spare else 0;
      room = limit;
    }

-- after a link of a and b was added, and after one was removed
abbrev pub lowered : Ledger → ℕ → ℕ → Ledger
lowered l a b =
    record {
      limit = l.limit;
      barred = l.barred;
      spare = λ x. l.spare x - (if a == x || b == x then 1 else 0);
      room = l.room - 1;
    }

abbrev pub raised : Ledger → ℕ → ℕ → Ledger
raised l a b =
    record {
      limit = l.limit;
      barred = l.barred;
      spare = λ x. l.spare x + (if a == x || b == x then 1 else 0);
      room = l.room + 1;
    }

abbrev pub by : Layer → ℕ → Option Reason
by layer number = Some (record { number = number; values = []; layer = layer })

abbrev pub by_book : ℕ → Option Reason
by_book number = by Book number

-- not one of the numbers from 1 to `most`
abbrev pub unless_within : ℕ → Option Reason → ℕ → Option Reason → Option Reason
unless_within most refused n otherwise =
    if n == 0 || nat_lt most n then refused else otherwise

-- 1: not 1 to 256 loads
abbrev pub unless_size : ℕ → Option Reason → Option Reason
unless_size = unless_within MOST_LOADS (by_book 1)

-- 2: not a limit of 1 to 32640 links
abbrev pub unless_limit : ℕ → Option Reason → Option Reason
unless_limit = unless_within MOST_LINKS (by_book 2)

-- 4: not two loads; 5: the same load twice
abbrev pub unless_two_of : Layer → ℕ → ℕ → ℕ → Option Reason → Option Reason
unless_two_of layer size a b otherwise =
    if nat_le size a || nat_le size b then by layer 4
    else (if a == b then by layer 5 else otherwise)

-- the pair is not open. 4, 5: not two loads; 8: barred; 6: linked already
abbrev pub unless_open : Graph → Bool → ℕ → ℕ → Option Reason → Option Reason
unless_open g barred a b otherwise =
    unless_two_of Book g.size a b
    (if barred then by_book 8 else (if g.linked a b then by_book 6 else otherwise))

-- 9: either load has no spare left
abbrev pub unless_spares : ℕ → ℕ → Option Reason → Option Reason
unless_spares spare_a spare_b otherwise =
    if spare_a == 0 || spare_b == 0 then by_book 9 else otherwise

-- 10: the book has no room left
abbrev pub unless_room : ℕ → Option Reason → Option Reason
unless_room room otherwise = if room == 0 then by_book 10 else otherwise

-- the first reason to refuse to add a link of a and b: the pair has to be open, and something left
-- for its link
abbrev pub adding : Graph → Ledger → ℕ → ℕ → Option Reason
adding g l a b =
    unless_open g (l.barred a b) a b
    (unless_spares (l.spare a) (l.spare b) (unless_room l.room None))

-- the first reason to refuse to remove the link of a and b
abbrev pub removing : Graph → ℕ → ℕ → Option Reason
removing g a b = unless_two_of Book g.size a b (if g.linked a b then None else by_book 7)

-- the value t stands for this graph and this ledger, and came from its making
pub record Stands {S : Type 0} (graph : S → Graph) (made : S → Type 0) (ledger : S → Ledger)
    (t : S) (g : Graph) (l : Ledger) : Type 0 where
  pub graph_is : graph t ≡ g
  pub ledger_is : ledger t ≡ l
  pub still_made : made t

-- how a value s of a type S answers r to a call that adds the link of a and b, and is t after it
pub record Adds {S : Type 0} (graph : S → Graph) (made : S → Type 0) (ledger : S → Ledger)
    (s : S) (a b : ℕ) (r : Result Unit Refused) (t : S) : Type 0 where
  pub kept : Kept r s t
  pub answers : made s → Answers (adding (graph s) (ledger s) a b) r
      (λ _. Stands graph made ledger t (added (graph s) a b) (lowered (ledger s) a b))

-- the same of a call that removes it
pub record Removes {S : Type 0} (graph : S → Graph) (made : S → Type 0) (ledger : S → Ledger)
    (s : S) (a b : ℕ) (r : Result Unit Refused) (t : S) : Type 0 where
  pub kept : Kept r s t
  pub answers : made s → Answers (removing (graph s) a b) r
      (λ _. Stands graph made ledger t (removed (graph s) a b) (raised (ledger s) a b))
