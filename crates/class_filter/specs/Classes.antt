-- Classes of loads, and what barred pairs of classes leave of a graph and of a ledger.
use Rattle.std.specs.Prelude.{ℕ, min, Bool, not, ◌&&◌, ◌||◌, if◌then◌else◌, List, Option}
use Rattle.std.specs.Prelude.{None, Result, OnOk, nat_lt, slice_index}
use Rattle.graph.specs.Graph.{Graph, added, removed}
use Rattle.graph.specs.declared.TheConstants.{MOST_LOADS}
use Rattle.links.specs.declared.refusal.Layer.TheVariants.{Book}
use Rattle.links.specs.declared.refusal.Refusal.{Refusal}
use Rattle.links.specs.declared.refusal.Refused.{Refused}
use Rattle.links.specs.Books.{Ledger, Stands, lowered, raised, unless_two_of}
use Rattle.links.specs.Refusals.{Reason, told_by}
use Rattle.bits.specs.Bit.{bit}
use Rattle.class_filter.specs.declared.ClassFilter.{ClassFilter}

-- the class of load a: one above 7 counts as 7, and a load that is given none has class 0
abbrev pub class_of : List ℕ → ℕ → ℕ
class_of classes a = if nat_lt a MOST_LOADS then min (slice_index classes a) 7 else 0

-- classes i and j are barred where byte i has bit j set, or byte j has bit i set
unfoldable pub bars_classes : List ℕ → ℕ → ℕ → Bool
bars_classes bars i j = bit (slice_index bars i) j || bit (slice_index bars j) i

-- a link of a and b is hidden
abbrev pub hidden : List ℕ → List ℕ → ℕ → ℕ → Bool
hidden classes bars a b = bars_classes bars (class_of classes a) (class_of classes b)

-- the links that are not hidden
abbrev pub filtered : (ℕ → ℕ → Bool) → Graph → Graph
filtered hid g = record { size = g.size; linked = λ a b. g.linked a b && not (hid a b) }

-- of the loads below n, those whose links are hidden are barred too
abbrev pub filtered_ledger : (ℕ → ℕ → Bool) → ℕ → Ledger → Ledger
filtered_ledger hid n l =
    record {
      limit = l.limit;
      barred = λ a b. l.barred a b || (nat_lt a n && (nat_lt b n && hid a b));
      spare = l.spare;
      room = l.room;
    }

-- ---- the meaning of a filter, from that of the book below

abbrev pub filter_graph : {B : Type 0} → (B → Graph) → ClassFilter B → Graph
filter_graph graph f = filtered (hidden f.classes f.bars) (graph f.below)

abbrev pub FilterMade : {B : Type 0} → (B → Type 0) → ClassFilter B → Type 0
FilterMade made f = made f.below

abbrev pub filter_ledger : {B : Type 0} → (B → Graph) → (B → Ledger) → ClassFilter B → Ledger
filter_ledger graph ledger f =
    filtered_ledger (hidden f.classes f.bars) (graph f.below).size (ledger f.below)

-- what no call changes: classes, bars, and what the book below never changes
pub record FilterFixed (F : Type 0) : Type 0 where
  pub classes : List ℕ
  pub bars : List ℕ
  pub below : F

abbrev pub filter_fixed : {B F : Type 0} → (B → F) → ClassFilter B → FilterFixed F
filter_fixed fixed f = record { classes = f.classes; bars = f.bars; below = fixed f.below }

-- ---- a change of one link

-- the first reason to refuse a change of the link of a and b before the book below is asked
abbrev pub unless_visible : (ℕ → ℕ → Bool) → ℕ → ℕ → ℕ → Refusal → Option Reason
unless_visible hid n a b refusal =
    unless_two_of Book n a b
    (if hid a b then told_by refusal Book else None)

module _
    {B : Type 0} (graph : B → Graph) (made : B → Type 0) (ledger : B → Ledger)
    (s : B) (a b : ℕ) (r : Result Unit Refused) (t : B) where
  -- where adding the link of a and b is granted, the book below, which was s and is t, has just
  -- that link more
  abbrev pub AddedBelow : Type 0
  AddedBelow =
      OnOk r (made s → Stands graph made ledger t (added (graph s) a b) (lowered (ledger s) a b))

  -- the same of removing it: just that link less
  abbrev pub RemovedBelow : Type 0
  RemovedBelow =
      OnOk r (made s → Stands graph made ledger t (removed (graph s) a b) (raised (ledger s) a b))
