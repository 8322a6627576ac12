-- What holds of made sorted rows: fresh ones, and at all times.
use Rattle.std.proofs.Common.{◌≡◌, ℕ, ◌+◌, ◌-◌, ◌*◌, ◌<◌, ◌≤◌, Bool, true, false, cond, ◌&&◌, eqb, ltb, List, [], ◌++◌, length, get_or, take, drop, replicate, Some, None, Option, sym, refl, ap, ◌∙◌, subst, ap₂, ⊎_elim, arith, MatchOption}
use Rattle.std.proofs.lemmas.Nat.{mul-add-lt}
use Rattle.std.proofs.lemmas.List.{get_or_append_left, get_or-append_right, get_or-replicate, get_or-drop, length-replicate, length-append, length-drop}
use Rattle.std.proofs.lemmas.Bool.{cases_lt, lt-ltb, le-ltb, cond-true, cond-false, and_right, both_ways}
use Rattle.std.proofs.lemmas.Bool.Decides.{nat_tests}
use Rattle.graph.specs.Graph.{Simple, degree, First, Next}
use Rattle.graph.proofs.Counts.{link_count_none, count_ext}
use Rattle.links.proofs.Spares.{left}
use Rattle.links.specs.Refusals.{Reason}
use Rattle.strict_order.specs.StrictOrder.{Rises, FirstUnordered}
use Rattle.sorted_rows.specs.Row.{entries, has, place, RowMade}
use Rattle.links.specs.Memory.{Cleared}
use Rattle.sorted_rows.specs.RowMemory.{loads_of_row, row_of}
use Rattle.sorted_rows.specs.Rows.{graph_of, ledger_of, Made, checking, Fresh, Making}
use Rattle.links.specs.declared.tally.Tally.{Tally}
use Rattle.sorted_rows.specs.declared.SortedRows.{SortedRows}
use Rattle.sorted_rows.proofs.RowMemory.{row_end, get_row_of, length_row_of}
use Rattle.sorted_rows.proofs.Rising.{Above, above_from_rises, rises_from_above, count_has, place_has, place_none, place_first}
use Rattle.sorted_rows.proofs.RowLaws.{length_entries}

-- ---- no links

empty_row : (n d a : ℕ) (row : List ℕ) → ((j : ℕ) → j ≤ d → get_or row j 0 ≡ 0) → RowMade n d a row
empty_row n d a row zeros =
    record {
      within = omega (arith, zeros 0 (omega arith));
      rising = rises_from_above 0 (entries row) (subst (Above 0) (sym none) tt);
      below = λ b on. absurd (both_ways (has (entries row) b) (off b) on);
      loopless = off a;
      zeros = λ k _ l. zeros k l;
    }
  where
    none : entries row ≡ []
    none = ap (λ (k : ℕ). take k (drop 1 row)) (zeros 0 (omega arith))

    off : (b : ℕ) → has (entries row) b ≡ false
    off b = ap (λ (xs : List ℕ). has xs b) none

module _ (n d : ℕ) (memory : List ℕ) (zeros : (k : ℕ) → k < n * (d + 1) → get_or memory k 0 ≡ 0) where
  zero_row : (a : ℕ) → a < n → (j : ℕ) → j ≤ d → get_or (row_of d memory a) j 0 ≡ 0
  zero_row a l j k =
      get_row_of d memory a j 0 (omega arith) ∙ zeros (a * (d + 1) + j) (omega (arith, mul-add-lt a (d + 1) j n l (omega arith)))

  no_loads : (a : ℕ) → loads_of_row n d memory a ≡ []
  no_loads a =
      ⊎_elim
      (λ l. cond-true _ _ _ (lt-ltb a n l) ∙ ap (λ (k : ℕ). take k (drop 1 (row_of d memory a))) (zero_row a l 0 (omega arith)))
      (λ l. cond-false _ _ _ (le-ltb a n l))
      (cases_lt a n)

  no_links : (a b : ℕ) → (graph_of n d memory).linked a b ≡ false
  no_links a b = and_right (ltb b n) _ (ap (λ (xs : List ℕ). has xs b) (no_loads a))

  all_spare : (a : ℕ) → cond (ltb a n) (d - get_or (row_of d memory a) 0 0) 0 ≡ cond (ltb a n) d 0
  all_spare a =
      ⊎_elim
      (λ l. rw (lt-ltb a n l) (omega (arith, zero_row a l 0 (omega arith))))
      (λ l. rw (le-ltb a n l))
      (cases_lt a n)

  pub empty_made : (limit : ℕ) (t : Tally) → t ≡ record { limit = limit; count = 0 } → n ≤ 256 → limit ≤ 32640 → n * (d + 1) ≤ length memory → Made n d t.limit t.count memory
  empty_made limit t new small bound long =
      record {
        small = small;
        limit_bound = omega (arith, ap (λ (x : Tally). x.limit) new);
        long = long;
        rows = λ a l. empty_row n d a (row_of d memory a) (zero_row a l);
        symmetric = λ a b. no_links a b ∙ sym (no_links b a);
        counted = none ∙ sym (link_count_none (graph_of n d memory) no_links);
        within = omega (arith, none);
      }
    where
      none : t.count ≡ 0
      none = ap (λ (x : Tally). x.count) new

  pub empty_fresh : (limit : ℕ) (s : SortedRows) → s.size ≡ n → s.row_limit ≡ d → s.tally ≡ record { limit = limit; count = 0 } → s.rows.now ≡ memory → Fresh n d limit s
  empty_fresh limit s en ed et em =
      record {
        row_limit = ed;
        graph = ap₂ (λ (x y : ℕ). graph_of x y s.rows.now) en ed ∙ ap (graph_of n d) em ∙ (λ i. record { size = n; linked = λ a b. no_links a b i });
        ledger =
            ap₂ (λ (x y : ℕ). ledger_of x y s.tally.limit s.tally.count s.rows.now) en ed
            ∙ ap (λ (t : Tally). ledger_of n d t.limit t.count s.rows.now) et
            ∙ ap (ledger_of n d limit 0) em
            ∙ (λ i. record { limit = limit; barred = λ _ _. false; spare = λ a. all_spare a i; room = all_room limit i });
      }
    where
      all_room : (k : ℕ) → k - 0 ≡ k
      all_room k = omega arith

pub cleared : (need : ℕ) (before filled : List ℕ) (m k : ℕ) → need ≤ length before → m ≡ need → k ≡ need → filled ≡ replicate m 0 → Cleared need before (filled ++ drop k before)
cleared need before filled m k long em ek zero_is =
    record {
      same_length = omega (arith, length-append filled (drop k before), length-drop k before, filled_length);
      zeros = λ i l.
          get_or_append_left filled (drop k before) 0 i (omega (arith, filled_length))
          ∙ ap (λ (xs : List ℕ). get_or xs i 0) zero_is
          ∙ get_or-replicate m i 0 0 (omega arith);
      beyond = λ i l.
          let same : k + (i - need) ≡ i = omega arith in
          get_or-append_right filled (drop k before) need i 0 filled_length l
          ∙ get_or-drop k before (i - need) 0
          ∙ ap (λ (j : ℕ). get_or before j 0) same;
    }
  where
    filled_length : length filled ≡ need
    filled_length = ap length zero_is ∙ length-replicate m 0 ∙ em

pub checked : (n d limit memory : ℕ) → checking n d limit memory ≡ None → (n ≤ 256) × (limit ≤ 32640) × (n * (d + 1) ≤ memory)
checked n d limit memory e = grind (arith, nat_tests)

pub making_granted : (reason : Option Reason) (n d limit : ℕ) (before : List ℕ) (s : SortedRows) → reason ≡ None → Fresh n d limit s → Cleared (n * (d + 1)) before s.rows.now → Making reason n d limit before s
making_granted reason n d limit before s e new zeros = subst (λ (r : Option Reason). Making r n d limit before s) (sym e) (new, zeros)

pub making_refused : (reason : Option Reason) (why : Reason) (n d limit : ℕ) (before : List ℕ) (s : SortedRows) → reason ≡ Some why → Fresh 0 0 0 s → s.rows.now ≡ before → Making reason n d limit before s
making_refused reason why n d limit before s e new same = subst (λ (r : Option Reason). Making r n d limit before s) (sym e) (new, same)

-- ---- at all times

pub loads_in : (n d : ℕ) (memory : List ℕ) (a : ℕ) → a < n → loads_of_row n d memory a ≡ entries (row_of d memory a)
loads_in n d memory a l = cond-true _ _ _ (lt-ltb a n l)

pub loads_out : (n d : ℕ) (memory : List ℕ) (a : ℕ) → n ≤ a → loads_of_row n d memory a ≡ []
loads_out n d memory a l = cond-false _ _ _ (le-ltb a n l)

module _ (n d limit total : ℕ) (memory : List ℕ) (made : Made n d limit total memory) where
  pub long_row : (a : ℕ) → a < n → length (row_of d memory a) ≡ d + 1
  long_row a l = length_row_of d memory a (omega (arith, row_end n d a l, made.long))

  pub rising : (a : ℕ) → Above 0 (loads_of_row n d memory a)
  rising a =
      ⊎_elim
      (λ l. subst (Above 0) (sym (loads_in n d memory a l)) (above_from_rises (entries (row_of d memory a)) (made.rows a l).rising))
      (λ l. subst (Above 0) (sym (loads_out n d memory a l)) tt)
      (cases_lt a n)

  pub below : (a b : ℕ) → has (loads_of_row n d memory a) b ≡ true → b < n
  below a b on =
      ⊎_elim
      (λ l. (made.rows a l).below b (subst (λ (xs : List ℕ). has xs b ≡ true) (loads_in n d memory a l) on))
      (λ l. absurd (both_ways (has (loads_of_row n d memory a) b) (ap (λ (xs : List ℕ). has xs b) (loads_out n d memory a l)) on))
      (cases_lt a n)

  pub linked_is : (a b : ℕ) → (graph_of n d memory).linked a b ≡ has (loads_of_row n d memory a) b
  linked_is a b =
      ⊎_elim
      (λ l. rw (lt-ltb b n l))
      (λ l. rw (le-ltb b n l) (sym (past (has (loads_of_row n d memory a) b) (λ on. omega (arith, below a b on)))))
      (cases_lt b n)
    where
      past : (t : Bool) → (t ≡ true → ⊥) → t ≡ false
      past true f = absurd (f refl)
      past false f = refl

  pub length_loads : (a : ℕ) → a < n → length (loads_of_row n d memory a) ≡ get_or (row_of d memory a) 0 0
  length_loads a l =
      ap length (loads_in n d memory a l) ∙ length_entries (row_of d memory a) (omega (arith, (made.rows a l).within, long_row a l))

  pub degree_is : (a : ℕ) → degree (graph_of n d memory) a ≡ length (loads_of_row n d memory a)
  degree_is a =
      count_ext n ((graph_of n d memory).linked a) (has (loads_of_row n d memory a)) (λ b _. linked_is a b)
      ∙ count_has n 0 (loads_of_row n d memory a) (rising a) (below a)

  pub simple : Simple (graph_of n d memory)
  simple =
      record {
        small = made.small;
        loopless = λ a. linked_is a a ∙ ⊎_elim
            (λ l. ap (λ (xs : List ℕ). has xs a) (loads_in n d memory a l) ∙ (made.rows a l).loopless)
            (λ l. ap (λ (xs : List ℕ). has xs a) (loads_out n d memory a l))
            (cases_lt a n);
        symmetric = made.symmetric;
        below = λ a b on. below b a (sym (linked_is b a) ∙ made.symmetric b a ∙ on);
      }

  -- the spare of a load is what its degree leaves of the row limit
  pub spare_is : (a : ℕ) → cond (ltb a n) (d - get_or (row_of d memory a) 0 0) 0 ≡ left (graph_of n d memory) d a
  spare_is a =
      ⊎_elim
      (λ l. rw (lt-ltb a n l) (omega (arith, degree_is a, length_loads a l)))
      (λ l. rw (le-ltb a n l))
      (cases_lt a n)

  pub degree_within : (a : ℕ) → a < n → degree (graph_of n d memory) a ≤ d
  degree_within a l = omega (arith, degree_is a, length_loads a l, (made.rows a l).within)

  -- ---- a search in row a, which holds `row`: k is the place of b

  module _ (a b k : ℕ) (row : List ℕ) (is : row ≡ loads_of_row n d memory a) (at : k ≡ place row b) where
    row_rises : Above 0 row
    row_rises = subst (Above 0) (sym is) (rising a)

    linked_row : (y : ℕ) → has row y ≡ (graph_of n d memory).linked a y
    linked_row y = ap (λ (xs : List ℕ). has xs y) is ∙ sym (linked_is a y)

    linked_found : k < length row → eqb (get_or row k 0) b ≡ (graph_of n d memory).linked a b
    linked_found l =
        ap (λ (i : ℕ). eqb (get_or row i 0) b) at ∙ place_has 0 row b row_rises (subst (λ (i : ℕ). i < length row) at l) ∙ linked_row b

    linked_none : length row ≤ k → (y : ℕ) → b ≤ y → (graph_of n d memory).linked a y ≡ false
    linked_none l y m = sym (linked_row y) ∙ place_none 0 row b row_rises (subst (λ (i : ℕ). length row ≤ i) at l) y m

    linked_first : k < length row → First ((graph_of n d memory).linked a) b (get_or row k 0)
    linked_first l =
        let first = subst (λ (i : ℕ). First (has row) b (get_or row i 0)) (sym at) (place_first 0 row b row_rises (subst (λ (i : ℕ). i < length row) at l)) in
        record {
          past = first.past;
          hit = sym (linked_row (get_or row k 0)) ∙ first.hit;
          before = λ y m u. sym (linked_row y) ∙ first.before y m u;
        }

    -- by what stands at k, if anything does
    pub found_next : (r : Option ℕ) → MatchOption r (length row ≤ k) (λ x. (k < length row) × (x ≡ get_or row k 0)) → Next ((graph_of n d memory).linked a) b r
    found_next None past = linked_none past
    found_next (Some x) (l, at-k) = subst (First ((graph_of n d memory).linked a) b) (sym at-k) (linked_first l)

    pub found_linked : (t : Bool) → t ≡ (ltb k (length row) && eqb (get_or row k 0) b) → t ≡ (graph_of n d memory).linked a b
    found_linked t e =
        e ∙ ⊎_elim
        (λ l. rw (lt-ltb k (length row) l) (linked_found l))
        (λ l. rw (le-ltb k (length row) l) (sym (linked_none l b (omega arith))))
        (cases_lt k (length row))

  -- ---- the rise of a row

  pub no_break : (a : ℕ) (r : Option ℕ) → MatchOption r (Rises ltb (loads_of_row n d memory a)) (λ i. FirstUnordered ltb (loads_of_row n d memory a) i) → r ≡ None
  no_break a None rises = refl
  no_break a (Some i) broken =
      let rises = rises_from_above 0 (loads_of_row n d memory a) (rising a) in
      absurd (both_ways _ (broken.fails 0) (rises.next i 0 broken.past broken.within))
