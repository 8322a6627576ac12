-- What a board holds, and what each call answers and leaves.
use Rattle.std.specs.Prelude.{ℕ, zero, suc, ◌+◌, Bool, true, false, ◌&&◌, List, [], ◌∷◌, Some}
use Rattle.std.specs.Prelude.{None, Option, ◌==◌, nat_le, nat_lt, if◌then◌else◌}
use Rattle.std.specs.Option.{option_to_list}
use Rattle.graph.specs.Graph.{Graph, count, degree, added, removed}
use Rattle.graph.specs.Isolated.{isolated}
use Rattle.graph.specs.Matching.{Partners}
use Rattle.graph.specs.Pairs.{is_free, pairs}
use Rattle.links.specs.Books.{Ledger, by, lowered, raised, unless_two_of, adding, removing}
use Rattle.links.specs.Refusals.{Reason}
use Rattle.links.specs.declared.refusal.Layer.TheVariants.{Board}
use Rattle.ranking.specs.Order.{lower}
use Rattle.rules.specs.First.{first}
use Rattle.rules.specs.Repair.{Ranking, freed, free_link, repair}
use Rattle.rules.specs.Threshold.{threshold}

pub record Position : Type 0 where
  pub graph : Graph
  pub ledger : Ledger
  pub partners : Partners

-- the changes, and the questions: the partner of a load, how many free loads it is linked to, the
-- smallest of these at or above a number, and how many pairs there are
pub data Call : Type 0 where
  link : ℕ → ℕ → Call
  unlink : ℕ → ℕ → Call
  withdraw : ℕ → Call
  depart : ℕ → Call
  ask_partner : ℕ → Call
  ask_free_links : ℕ → Call
  ask_next_free : ℕ → ℕ → Call
  ask_pairs : Call

-- a question changes nothing
abbrev pub is_question : Call → Bool
is_question (link a b) = false
is_question (unlink a b) = false
is_question (withdraw a) = false
is_question (depart a) = false
is_question (ask_partner a) = true
is_question (ask_free_links a) = true
is_question (ask_next_free a from) = true
is_question ask_pairs = true

-- ---- when a call is refused, and why

abbrev pub by_board : ℕ → Option Reason
by_board number = by Board number

-- 4: not a load
abbrev pub unless_load : Graph → ℕ → Option Reason → Option Reason
unless_load g a otherwise = if nat_le g.size a then by_board 4 else otherwise

-- the reason to refuse a call, if there is one
abbrev pub reason : Position → Call → Option Reason
reason x (link a b) = unless_two_of Board x.graph.size a b (adding x.graph x.ledger a b)
reason x (unlink a b) = unless_two_of Board x.graph.size a b (removing x.graph a b)
reason x (withdraw a) = unless_load x.graph a None
reason x (depart a) =
    unless_load x.graph a (if is_free x.partners a then by_board 11 else None)
reason x (ask_partner a) = unless_load x.graph a None
reason x (ask_free_links a) = unless_load x.graph a None
reason x (ask_next_free a from) = unless_load x.graph a None
reason x ask_pairs = None

-- ---- what a granted call answers

abbrev pub partner_of : Position → ℕ → Option ℕ
partner_of x a = x.partners a

abbrev pub free_links_of : Position → ℕ → ℕ
free_links_of x a = count x.graph.size (free_link x.graph x.partners a)

-- the smallest free load at or above `from` that a is linked to
abbrev pub next_free_of : Position → ℕ → ℕ → Option ℕ
next_free_of x a from =
    first lower x.graph.size (λ z. free_link x.graph x.partners a z && nat_le from z)

abbrev pub pairs_of : Position → ℕ
pairs_of x = pairs x.graph.size x.partners

-- a change answers nothing but that it was made
abbrev pub Answer : Call → Type 0
Answer (link a b) = Unit {0}
Answer (unlink a b) = Unit {0}
Answer (withdraw a) = Unit {0}
Answer (depart a) = Unit {0}
Answer (ask_partner a) = Option ℕ
Answer (ask_free_links a) = ℕ
Answer (ask_next_free a from) = Option ℕ
Answer ask_pairs = ℕ

abbrev pub answer : Position → (c : Call) → Answer c
answer x (link a b) = tt
answer x (unlink a b) = tt
answer x (withdraw a) = tt
answer x (depart a) = tt
answer x (ask_partner a) = partner_of x a
answer x (ask_free_links a) = free_links_of x a
answer x (ask_next_free a from) = next_free_of x a from
answer x ask_pairs = pairs_of x

-- ---- where a change leads

-- a ledger after all links of a were removed
abbrev pub released : Graph → Ledger → ℕ → Ledger
released g l a = record {
  limit = l.limit;
  barred = l.barred;
  spare = λ x. l.spare x
      + (if a == x then degree g a else (if g.linked a x then 1 else 0));
  room = l.room + degree g a;
}

abbrev pub in_order : ℕ → ℕ → List ℕ
in_order a b = if nat_lt a b then a ∷ b ∷ [] else b ∷ a ∷ []

-- a and b parted, if b is the partner that a has
abbrev pub parted : ℕ → ℕ → Partners → Option ℕ → Partners
parted a b p None = p
parted a b p (Some x) = if x == b then freed a (freed b p) else p

-- a parted from the partner that it has, if it has one
abbrev pub parted_from : ℕ → Partners → Option ℕ → Partners
parted_from a p None = p
parted_from a p (Some b) = freed a (freed b p)

-- without the links of a, and without those of the partner that it has
abbrev pub isolated_two : Graph → ℕ → Option ℕ → Graph
isolated_two g a None = isolated g a
isolated_two g a (Some b) = isolated (isolated g a) b

abbrev pub released_two : Graph → Ledger → ℕ → Option ℕ → Ledger
released_two g l a None = released g l a
released_two g l a (Some b) = released (isolated g a) (released g l a) b

-- the position with another graph and ledger, its partners changed and then repaired at a set of
-- loads
abbrev pub repaired : Ranking → Graph → Ledger → List ℕ → Partners → Position
repaired before g l s p =
    record { graph = g; ledger = l; partners = repair before (threshold l.limit) g s p }

-- the position after a call that is granted
abbrev pub granted : Ranking → Position → Call → Position
granted before x (link a b) =
    repaired before (added x.graph a b) (lowered x.ledger a b) (in_order a b) x.partners
granted before x (unlink a b) =
    repaired before (removed x.graph a b) (raised x.ledger a b) (in_order a b)
    (parted a b x.partners (x.partners a))
granted before x (withdraw a) =
    repaired before (isolated x.graph a) (released x.graph x.ledger a)
    (option_to_list (x.partners a)) (parted_from a x.partners (x.partners a))
granted before x (depart a) = record {
  graph = isolated_two x.graph a (x.partners a);
  ledger = released_two x.graph x.ledger a (x.partners a);
  partners = parted_from a x.partners (x.partners a);
}
granted before x (ask_partner a) = x
granted before x (ask_free_links a) = x
granted before x (ask_next_free a from) = x
granted before x ask_pairs = x

-- a refused call leaves the position as it was
abbrev pub unless : Option Reason → Position → Position → Position
unless None x y = y
unless (Some r) x y = x

-- the position after a call
abbrev pub after : Ranking → Position → Call → Position
after before x c = unless (reason x c) x (granted before x c)

-- ---- opening

-- the numbers below n, then those of the list
abbrev pub up_to : ℕ → List ℕ → List ℕ
up_to zero l = l
up_to (suc n) l = up_to n (n ∷ l)

-- opening a board on a book: all loads are free, and all are repaired
abbrev pub opened : Ranking → Graph → Ledger → Position
opened before g l = repaired before g l (up_to g.size []) (λ _. None)
