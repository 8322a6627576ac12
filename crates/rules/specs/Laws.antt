-- The laws of the calls, and of every run of them.
use Rattle.std.specs.Prelude.{◌≡◌, ℕ, ◌+◌, ◌≤◌, Some, None, Option}
use Rattle.graph.specs.Graph.{Graph, Simple, link_count}
use Rattle.links.specs.Books.{Ledger, Bounded}
use Rattle.links.specs.Refusals.{Reason}
use Rattle.rules.specs.Calls.{Position, Call, link, unlink, withdraw, depart, ask_partner}
use Rattle.rules.specs.Calls.{ask_free_links, ask_next_free, ask_pairs, reason, after, opened}
use Rattle.rules.specs.Health.{Sound, TwoThirds, Follows, changes}
use Rattle.rules.specs.Repair.{Ranking}

-- how many partners a call may change
abbrev pub most : Call → ℕ
most (link a b) = 6
most (unlink a b) = 12
most (withdraw a) = 7
most (depart a) = 2
most (ask_partner a) = 0
most (ask_free_links a) = 0
most (ask_next_free a from) = 0
most ask_pairs = 0

-- a refused call changes none
abbrev pub allowed : Option Reason → Call → ℕ
allowed None c = most c
allowed (Some r) c = 0

-- ---- one call

-- opening on a book gives a sound position
abbrev pub OpeningSound : Type 0
OpeningSound =
    (before : Ranking) (g : Graph) (l : Ledger) → Simple g → Bounded g l → Sound (opened before g l)

-- size, limit and barred pairs never change, and spares and room follow each link
abbrev pub CallsFollow : Type 0
CallsFollow =
    (before : Ranking) (x : Position) → Sound x → (c : Call) → Follows x (after before x c)

-- the book has kept its links within the limit
abbrev pub Within : Ranking → Position → Call → Type 0
Within before x c = link_count (after before x c).graph ≤ x.ledger.limit

-- y is sound after a call on x, and few partners are others
pub record KeepsSound (x : Position) (c : Call) (y : Position) : Type 0 where
  pub sound : Sound y
  pub few : changes x y ≤ allowed (reason x c) c

-- every call keeps a position sound and changes few partners
abbrev pub CallsKeep : Type 0
CallsKeep =
    (before : Ranking) (x : Position) → Sound x → (c : Call) → Within before x c →
    KeepsSound x c (after before x c)

-- a sound position has at least two thirds of the pairs of every matching
abbrev pub SoundTwoThirds : Type 0
SoundTwoThirds = (x : Position) → Sound x → TwoThirds x

-- a refused call leaves everything as it was
abbrev pub RefusedUnchanged : Type 0
RefusedUnchanged =
    (before : Ranking) (x : Position) (c : Call) (r : Reason) → reason x c ≡ Some r →
    after before x c ≡ x

-- ---- runs

-- a book whose links and room together are within its limit; a bounded ledger alone may promise
-- more room than that
pub record Proper (g : Graph) (l : Ledger) : Type 0 where
  pub simple : Simple g
  pub bounded : Bounded g l
  pub room_within : l.room + link_count g ≤ l.limit

-- the positions that calls lead to from a first one, granted or refused
pub data Run (before : Ranking) (start : Position) : Position → Type 0 where
  none : Run before start start
  more : (x : Position) (c : Call) → Run before start x → Run before start (after before x c)

-- a moment of a run
pub record Moment (before : Ranking) (start x : Position) : Type 0 where
  pub sound : Sound x
  pub two_thirds : TwoThirds x
  pub follows : Follows start x
  pub few : (c : Call) → changes x (after before x c) ≤ allowed (reason x c) c

-- from an opening on any proper book, by any calls: each moment is sound and has two thirds of the
-- pairs of every matching, its spares and room have followed the links, and the next call changes
-- few partners
abbrev pub LawOfRuns : Type 0
LawOfRuns =
    (before : Ranking) (g : Graph) (l : Ledger) → Proper g l → (x : Position) →
    Run before (opened before g l) x → Moment before (opened before g l) x
