-- The graph of a list of entries, and when a list is refused.
use Rattle.std.specs.Prelude.{◌≡◌, ℕ, zero, suc, ◌<◌, ◌≤◌, Bool, true, false, ◌||◌, List, [], ◌∷◌}
use Rattle.std.specs.Prelude.{length, Some, None, Option, option_map}
use Rattle.graph.specs.Graph.{Graph, no_links, lowest_passing}
use Rattle.graph.specs.declared.TheConstants.{MOST_LOADS}
use Rattle.links.specs.Books.{unless_size}
use Rattle.links.specs.Refusals.{Reason}
use Rattle.links.specs.declared.refusal.Layer.TheVariants.{Book}
use Rattle.strict_order.specs.StrictOrder.{Rises}
use Rattle.link_list.specs.declared.Entry.{Entry}
use Rattle.link_list.specs.declared.LinkList.{LinkList}
use Rattle.link_list.specs.Entries.{entry_before, in_bounds, joins, entry_at, out_of_bounds}
use Rattle.link_list.specs.Entries.{unordered}

-- one of the first k entries is the link of x and y
abbrev pub joined : List Entry → ℕ → ℕ → ℕ → Bool
joined es zero x y = false
joined es (suc k) x y = joined es k x y || joins (entry_at es k) x y

-- the loads below n, with the entries as links
abbrev pub graph_of : ℕ → List Entry → Graph
graph_of n es = record { size = n; linked = joined es (length es) }

-- at most 256 loads; each entry is in bounds, and they rise strictly
pub record Sound (n : ℕ) (es : List Entry) : Type 0 where
  pub small : n ≤ MOST_LOADS
  pub bounds : (k : ℕ) → k < length es → in_bounds n (entry_at es k) ≡ true
  pub rises : Rises entry_before es

abbrev pub list_graph : LinkList → Graph
list_graph l = graph_of l.size l.entries.now

abbrev pub ListMade : LinkList → Type 0
ListMade l = Sound l.size l.entries.now

-- 15: the entry with this index, if there is one
abbrev pub bad_entry : Option ℕ → Option Reason
bad_entry = option_map (λ index. record { number = 15; values = index ∷ []; layer = Book })

-- the first reason to refuse these entries: the number of loads, then the first entry that is
-- out of order or out of bounds
abbrev pub checking : ℕ → List Entry → Option Reason
checking n es =
    unless_size n
    (bad_entry (lowest_passing (length es) (λ k. unordered es k || out_of_bounds n es k)))

-- what a making gives under the first reason to refuse, if there is one
abbrev pub Listing : Option Reason → ℕ → List Entry → LinkList → Type 0
Listing None n es l = list_graph l ≡ graph_of n es
Listing (Some reason) n es l = list_graph l ≡ no_links 0
