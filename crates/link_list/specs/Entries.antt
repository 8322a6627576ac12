-- Entries, and the first one that breaks a rule.
use Rattle.std.specs.Prelude.{◌≡◌, ℕ, ◌-◌, min, Bool, not, ◌&&◌, ◌||◌, if◌then◌else◌, List}
use Rattle.std.specs.Prelude.{Some, None}
use Rattle.std.specs.Prelude.{Option, ◌==◌, nat_le, nat_lt, slice_index_or}
use Rattle.graph.specs.Graph.{is_pair}
use Rattle.strict_order.specs.StrictOrder.{StrictTotal}
use Rattle.link_list.specs.declared.Entry.{Entry}

-- by a, and then by b
abbrev pub entry_before : Entry → Entry → Bool
entry_before e f = nat_lt e.a f.a || (e.a == f.a && nat_lt e.b f.b)

-- of two entries that are not equal, exactly one is before the other
abbrev pub EntriesOrdered : Type 0
EntriesOrdered = StrictTotal ◌≡◌ entry_before

-- a < b < n
abbrev pub in_bounds : ℕ → Entry → Bool
in_bounds n e = nat_lt e.a e.b && nat_lt e.b n

-- the entry is the link of x and y, in either order
abbrev pub joins : Entry → ℕ → ℕ → Bool
joins e x y = is_pair e.a e.b x y

-- the load at or above `from` that the entry links to x
abbrev pub next_joined : Entry → ℕ → ℕ → Option ℕ
next_joined e x from =
    if e.a == x && nat_le from e.b then Some e.b
    else (if e.b == x && nat_le from e.a then Some e.a else None)

-- the entry is a link of x
abbrev pub touches : Entry → ℕ → Bool
touches e x = e.a == x || e.b == x

abbrev pub entry_at : List Entry → ℕ → Entry
entry_at es k = slice_index_or es k (record { a = 0; b = 0 })

abbrev pub out_of_bounds : ℕ → List Entry → ℕ → Bool
out_of_bounds n es k = not (in_bounds n (entry_at es k))

-- entry k is not the first, and is not above the entry in front of it
abbrev pub unordered : List Entry → ℕ → Bool
unordered es k = nat_lt 0 k && not (entry_before (entry_at es (k - 1)) (entry_at es k))

-- the lower of two numbers, or the one that there is
abbrev pub lower_of : Option ℕ → Option ℕ → Option ℕ
lower_of None o = o
lower_of (Some i) None = Some i
lower_of (Some i) (Some j) = Some (min i j)
