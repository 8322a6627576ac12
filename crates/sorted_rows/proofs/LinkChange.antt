-- Sorted rows with a link more or less, and the book that they then are.
use Rattle.std.proofs.Common.{◌≡◌, ℕ, ◌+◌, ◌-◌, ◌*◌, ◌<◌, ◌≤◌, Bool, true, false, cond, not, ◌&&◌, ◌||◌, eqb, ltb, List, [], length, get_or, sym, refl, ap, ◌∙◌, subst, ap₂, ⊎_elim, arith}
use mathlib.Core.Bool.{or-false, and-true}
use Rattle.std.proofs.lemmas.Bool.{cases_lt, cases_eq, lt-ltb, le-ltb, eq-eqb, ne_eqb, and_right}
use Rattle.graph.specs.Graph.{Graph, Simple, is_pair, added, removed, link_count}
use Rattle.graph.proofs.Counts.{not_pair}
use Rattle.graph.proofs.Changes.{link_count_added, link_count_removed}
use Rattle.graph.proofs.Ends.{pair_swap, pair_past}
use Rattle.links.specs.Books.{Ledger, Stands, lowered, raised}
use Rattle.links.specs.declared.tally.Tally.{Tally}
use Rattle.links.proofs.Spares.{left, left_less, left_more}
use Rattle.links.proofs.Reasons.{TwoLoads, Addable, Removable as Unlinkable}
use Rattle.sorted_rows.specs.Row.{entries, has, row_with, Removable, row_without, changed, RowMade}
use Rattle.sorted_rows.specs.RowMemory.{loads_of_row, row_of, with_row, both_changed, BothAble, BothChanged}
use Rattle.sorted_rows.specs.declared.row.Change.{Change}
use Rattle.sorted_rows.specs.declared.row.Change.TheVariants.{Insert, Remove}
use Rattle.sorted_rows.specs.Rows.{graph_of, ledger_of, Made, rows_graph, rows_ledger, RowsMade}
use Rattle.sorted_rows.specs.declared.SortedRows.{SortedRows}
use Rattle.sorted_rows.proofs.RowMemory.{TwoRows, two_rows, row_end}
use Rattle.sorted_rows.proofs.RowLaws.{RowAfter, put, cut, insertable, with_load, removable, without_load}
use Rattle.sorted_rows.proofs.MadeRows.{loads_in, long_row, linked_is, simple, spare_is, degree_within}

-- ---- two loads among all

by_pair : (a b : ℕ) (P : ℕ → Type 0) → P a → P b → ((x : ℕ) → (x ≡ a → ⊥) → (x ≡ b → ⊥) → P x) → (x : ℕ) → P x
by_pair a b P pa pb others x =
    ⊎_elim
    (λ e. subst P (sym e) pa)
    (λ na. ⊎_elim (λ e. subst P (sym e) pb) (λ nb. others x na nb) (cases_eq x b))
    (cases_eq x a)

pair_first : (a b y : ℕ) → (a ≡ b → ⊥) → is_pair a b a y ≡ eqb b y
pair_first a b y ne = rw (eq-eqb a a refl, ne_eqb b a (λ e. ne (sym e))) (ap (λ (t : Bool). eqb b y || t) (and_right (eqb a y) false refl) ∙ or-false (eqb b y))

pair_second : (a b y : ℕ) → (a ≡ b → ⊥) → is_pair a b b y ≡ eqb a y
pair_second a b y ne = rw (eq-eqb b b refl, ne_eqb a b ne) (and-true (eqb a y))

pair_other : (a b x y : ℕ) → (x ≡ a → ⊥) → (x ≡ b → ⊥) → is_pair a b x y ≡ false
pair_other a b x y na nb = not_pair a b x y (λ e _. na (sym e)) (λ _ e. nb (sym e))

-- ---- rows a and b changed

module _ (n d limit total : ℕ) (memory : List ℕ) (made : Made n d limit total memory) (a b : ℕ) (la : a < n) (lb : b < n) (ne : a ≡ b → ⊥) where
  pub within_a : a * (d + 1) + (d + 1) ≤ length memory
  within_a = omega (arith, row_end n d a la, made.long)

  pub within_b : b * (d + 1) + (d + 1) ≤ length memory
  within_b = omega (arith, row_end n d b lb, made.long)

  module _ (change : Bool → Bool → Bool) (unmoved : (t : Bool) → change false t ≡ t) (r s : List ℕ) (after-a : RowAfter change n d a b (row_of d memory a) r) (after-b : RowAfter change n d b a (row_of d memory b) s) where
    two : TwoRows d memory (with_row d (with_row d memory a r) b s) a b r s
    two = two_rows d memory a b r s ne after-a.long after-b.long within_a within_b

    has_after : (y x : ℕ) → has (loads_of_row n d (with_row d (with_row d memory a r) b s) x) y ≡ change (is_pair a b x y) (has (loads_of_row n d memory x) y)
    has_after y =
        by_pair a b (λ x. has (loads_of_row n d (with_row d (with_row d memory a r) b s) x) y ≡ change (is_pair a b x y) (has (loads_of_row n d memory x) y))
        (ap (λ (xs : List ℕ). has xs y) (loads_in n d _ a la) ∙ ap (λ (row : List ℕ). has (entries row) y) two.first ∙ after-a.holds y
        ∙ ap₂ change (sym (pair_first a b y ne)) (ap (λ (xs : List ℕ). has xs y) (sym (loads_in n d memory a la))))
        (ap (λ (xs : List ℕ). has xs y) (loads_in n d _ b lb) ∙ ap (λ (row : List ℕ). has (entries row) y) two.second ∙ after-b.holds y
        ∙ ap₂ change (sym (pair_second a b y ne)) (ap (λ (xs : List ℕ). has xs y) (sym (loads_in n d memory b lb))))
        (λ x na nb. ap (λ (row : List ℕ). has (cond (ltb x n) (entries row) []) y) (two.others x na nb)
        ∙ sym (ap (λ (t : Bool). change t (has (loads_of_row n d memory x) y)) (pair_other a b x y na nb) ∙ unmoved (has (loads_of_row n d memory x) y)))

    pub linked_after : (x y : ℕ) → (graph_of n d (with_row d (with_row d memory a r) b s)).linked x y ≡ change (is_pair a b x y) ((graph_of n d memory).linked x y)
    linked_after x y =
        ⊎_elim
        (λ l. rw (lt-ltb y n l) (has_after y x))
        (λ l. rw (le-ltb y n l, pair_past n a b x y la lb l) (sym (unmoved false)))
        (cases_lt y n)

    pub made_after : (k : ℕ) → k ≡ link_count (graph_of n d (with_row d (with_row d memory a r) b s)) → k ≤ limit → Made n d limit k (with_row d (with_row d memory a r) b s)
    made_after k counted within =
        record {
          small = made.small;
          limit_bound = made.limit_bound;
          long = omega (arith, made.long, two.same_length);
          rows = by_pair a b (λ x. x < n → RowMade n d x (row_of d (with_row d (with_row d memory a r) b s) x))
              (λ _. subst (RowMade n d a) (sym two.first) after-a.made)
              (λ _. subst (RowMade n d b) (sym two.second) after-b.made)
              (λ x na nb l. subst (RowMade n d x) (sym (two.others x na nb)) (made.rows x l));
          symmetric = λ x y. linked_after x y ∙ ap₂ change (pair_swap a b x y) (made.symmetric x y) ∙ sym (linked_after y x);
          counted = counted;
          within = within;
        }

-- ---- a link more or less

-- the change of rows a and b can be made, and the book with k links is then made, and stands for this graph and this ledger
pub record BookAfter (change : Change) (n d limit k : ℕ) (memory : List ℕ) (a b : ℕ) (g : Graph) (l : Ledger) : Type 0 where
  pub able : BothAble change n d a b memory
  pub graph : graph_of n d (both_changed (changed change) d memory a b) ≡ g
  pub ledger : ledger_of n d limit k (both_changed (changed change) d memory a b) ≡ l
  pub made : Made n d limit k (both_changed (changed change) d memory a b)

module _ (n d limit total : ℕ) (memory : List ℕ) (made : Made n d limit total memory) (a b : ℕ) (la : a < n) (lb : b < n) (ne : a ≡ b → ⊥) where
  linked_a : (graph_of n d memory).linked a b ≡ has (entries (row_of d memory a)) b
  linked_a = linked_is n d limit total memory made a b ∙ ap (λ (xs : List ℕ). has xs b) (loads_in n d memory a la)

  linked_b : (graph_of n d memory).linked a b ≡ has (entries (row_of d memory b)) a
  linked_b = made.symmetric a b ∙ linked_is n d limit total memory made b a ∙ ap (λ (xs : List ℕ). has xs a) (loads_in n d memory b lb)

  links : Simple (graph_of n d memory)
  links = simple n d limit total memory made

  two_loads : TwoLoads n a b
  two_loads = record { a_below = la; b_below = lb; apart = ne }

  long_a : length (row_of d memory a) ≡ d + 1
  long_a = long_row n d limit total memory made a la

  long_b : length (row_of d memory b) ≡ d + 1
  long_b = long_row n d limit total memory made b lb

  module _ (off : (graph_of n d memory).linked a b ≡ false) (room-a : get_or (row_of d memory a) 0 0 < d) (room-b : get_or (row_of d memory b) 0 0 < d) where
    with_a : RowAfter put n d a b (row_of d memory a) (row_with (row_of d memory a) b)
    with_a = with_load n d a (row_of d memory a) (made.rows a la) long_a b room-a lb ne (sym linked_a ∙ off)

    with_b : RowAfter put n d b a (row_of d memory b) (row_with (row_of d memory b) a)
    with_b = with_load n d b (row_of d memory b) (made.rows b lb) long_b a room-b la (λ e. ne (sym e)) (sym linked_b ∙ off)

    both_insertable : BothAble Insert n d a b memory
    both_insertable =
        record {
          long = made.long;
          a_below = la;
          b_below = lb;
          apart = ne;
          able_a = insertable n d a (row_of d memory a) (made.rows a la) long_a b room-a;
          able_b = insertable n d b (row_of d memory b) (made.rows b lb) long_b a room-b;
        }

    linked_more : (x y : ℕ) → (graph_of n d (both_changed row_with d memory a b)).linked x y ≡ ((graph_of n d memory).linked x y || is_pair a b x y)
    linked_more = linked_after n d limit total memory made a b la lb ne put or-false _ _ with_a with_b

    grown : total < limit → BookAfter Insert n d limit (total + 1) memory a b (added (graph_of n d memory) a b) (lowered (ledger_of n d limit total memory) a b)
    grown room =
        record {
          able = both_insertable;
          graph = same;
          ledger = λ i. record { limit = limit; barred = λ _ _. false; spare = λ x. spare_less x i; room = room_less limit total i };
          made = after;
        }
      where
        same : graph_of n d (both_changed row_with d memory a b) ≡ added (graph_of n d memory) a b
        same = λ i. record { size = n; linked = λ x y. linked_more x y i }

        after : Made n d limit (total + 1) (both_changed row_with d memory a b)
        after =
            made_after n d limit total memory made a b la lb ne put or-false _ _ with_a with_b (total + 1)
            (omega (arith, made.counted, ap link_count same, link_count_added (graph_of n d memory) a b links ne la lb off)) (omega arith)

        spare_less : (x : ℕ) → cond (ltb x n) (d - get_or (row_of d (both_changed row_with d memory a b) x) 0 0) 0 ≡ cond (ltb x n) (d - get_or (row_of d memory x) 0 0) 0 - cond (eqb a x || eqb b x) 1 0
        spare_less x =
            spare_is n d limit (total + 1) _ after x ∙ ap (λ (g : Graph). left g d x) same
            ∙ left_less (graph_of n d memory) links d a b two_loads off x
            ∙ sym (ap (λ (s : ℕ). s - cond (eqb a x || eqb b x) 1 0) (spare_is n d limit total memory made x))

        room_less : (l k : ℕ) → l - (k + 1) ≡ l - k - 1
        room_less l k = omega arith

  module _ (on : (graph_of n d memory).linked a b ≡ true) where
    removable_a : Removable (row_of d memory a) b
    removable_a = removable n d a (row_of d memory a) (made.rows a la) long_a b (sym linked_a ∙ on)

    removable_b : Removable (row_of d memory b) a
    removable_b = removable n d b (row_of d memory b) (made.rows b lb) long_b a (sym linked_b ∙ on)

    without_a : RowAfter cut n d a b (row_of d memory a) (row_without (row_of d memory a) b)
    without_a = without_load n d a (row_of d memory a) (made.rows a la) long_a b (sym linked_a ∙ on)

    without_b : RowAfter cut n d b a (row_of d memory b) (row_without (row_of d memory b) a)
    without_b = without_load n d b (row_of d memory b) (made.rows b lb) long_b a (sym linked_b ∙ on)

    linked_less : (x y : ℕ) → (graph_of n d (both_changed row_without d memory a b)).linked x y ≡ ((graph_of n d memory).linked x y && not (is_pair a b x y))
    linked_less = linked_after n d limit total memory made a b la lb ne cut and-true _ _ without_a without_b

    shrunk : BookAfter Remove n d limit (total - 1) memory a b (removed (graph_of n d memory) a b) (raised (ledger_of n d limit total memory) a b)
    shrunk =
        record {
          able = record { long = made.long; a_below = la; b_below = lb; apart = ne; able_a = removable_a; able_b = removable_b };
          graph = same;
          ledger = λ i. record { limit = limit; barred = λ _ _. false; spare = λ x. spare_more x i; room = room_more i };
          made = after;
        }
      where
        same : graph_of n d (both_changed row_without d memory a b) ≡ removed (graph_of n d memory) a b
        same = λ i. record { size = n; linked = λ x y. linked_less x y i }

        one_fewer : total ≡ link_count (graph_of n d (both_changed row_without d memory a b)) + 1
        one_fewer = omega (arith, made.counted, ap link_count same, link_count_removed (graph_of n d memory) a b links ne la lb on)

        after : Made n d limit (total - 1) (both_changed row_without d memory a b)
        after =
            made_after n d limit total memory made a b la lb ne cut and-true _ _ without_a without_b (total - 1)
            (omega (arith, one_fewer)) (omega (arith, made.within))

        spare_more : (x : ℕ) → cond (ltb x n) (d - get_or (row_of d (both_changed row_without d memory a b) x) 0 0) 0 ≡ cond (ltb x n) (d - get_or (row_of d memory x) 0 0) 0 + cond (eqb a x || eqb b x) 1 0
        spare_more x =
            spare_is n d limit (total - 1) _ after x ∙ ap (λ (g : Graph). left g d x) same
            ∙ left_more (graph_of n d memory) links d a b two_loads on (degree_within n d limit total memory made) x
            ∙ sym (ap (λ (s : ℕ). s + cond (eqb a x || eqb b x) 1 0) (spare_is n d limit total memory made x))

        room_more : limit - (total - 1) ≡ limit - total + 1
        room_more = omega (arith, one_fewer, made.within)

-- ---- where there is no reason to refuse

room_from_spare : (n d a count : ℕ) → a < n → (cond (ltb a n) (d - count) 0 ≡ 0 → ⊥) → count < d
room_from_spare n d a count l some = let some' : d - count ≡ 0 → ⊥ = rw (lt-ltb a n l) at some in omega (arith, some')

module _ (n d limit total : ℕ) (memory : List ℕ) (made : Made n d limit total memory) (a b : ℕ) where
  pub after_adding : Addable (graph_of n d memory) (ledger_of n d limit total memory) a b → BookAfter Insert n d limit (total + 1) memory a b (added (graph_of n d memory) a b) (lowered (ledger_of n d limit total memory) a b)
  after_adding able =
      grown n d limit total memory made a b able.two.a_below able.two.b_below able.two.apart able.off
      (room_from_spare n d a _ able.two.a_below able.spare_a) (room_from_spare n d b _ able.two.b_below able.spare_b) (omega (arith, able.room))

  pub after_removing : Unlinkable (graph_of n d memory) a b → BookAfter Remove n d limit (total - 1) memory a b (removed (graph_of n d memory) a b) (raised (ledger_of n d limit total memory) a b)
  after_removing able = shrunk n d limit total memory made a b able.two.a_below able.two.b_below able.two.apart able.on

-- ---- the book, as the code makes it

-- the book t, with k links and the changed memory of a book with these limits
pub stands_after : (change : Change) (t : SortedRows) (limit k : ℕ) (memory : List ℕ) (a b : ℕ) (g : Graph) (l : Ledger) → BookAfter change t.size t.row_limit limit k memory a b g l → t.tally ≡ record { limit = limit; count = k } → BothChanged change t.size t.row_limit a b memory t.rows.now → Stands rows_graph RowsMade rows_ledger t g l
stands_after change t limit k memory a b g l after et both =
    record {
      graph_is = ap (graph_of n d) em ∙ after.graph;
      ledger_is = ap₂ (λ (tally : Tally) (m : List ℕ). ledger_of n d tally.limit tally.count m) et em ∙ after.ledger;
      still_made = subst (λ (tally : Tally). Made n d tally.limit tally.count t.rows.now) (sym et) (subst (Made n d limit k) (sym em) after.made);
    }
  where
    n : ℕ
    n = t.size

    d : ℕ
    d = t.row_limit

    em : t.rows.now ≡ both_changed (changed change) d memory a b
    em = both.rows after.able
