-- What the check of a list finds.
use Rattle.std.proofs.Common.{◌≡◌, ℕ, ◌<◌, Bool, false, ◌||◌, List, length, Some, None, Option, sym, refl, ap, ◌∙◌, ap₂, subst, ⊎_elim, arith, MatchOption}
use Rattle.std.proofs.lemmas.Bool.{cases_lt, lt-ltb, le-ltb, and_from, and_left, and_right, not-false, not_from_true, not_from_false}
use Rattle.std.proofs.lemmas.Bool.Decides.{nat_tests}
use Rattle.std.specs.declared.cmp.Ordering.{Ordering}
use Rattle.std.specs.Ordering.{nat_cmp, on, then_cmp}
use Rattle.links.specs.Books.{unless_size}
use Rattle.strict_order.specs.StrictOrder.{comes_before, StrictTotal, InOrder, Rises, FirstUnordered}
use Rattle.link_list.specs.declared.Entry.{Entry}
use Rattle.graph.specs.Graph.{lowest_passing}
use Rattle.graph.proofs.Lowest.{passing_none, none_passing}
use Rattle.link_list.specs.Entries.{entry_before, unordered, out_of_bounds, lower_of}
use Rattle.link_list.specs.Lists.{Sound, checking, bad_entry}
use Rattle.link_list.proofs.Firsts.{first_some, lower_first, never}

-- the order of the entries, by a and then by b
abbrev pub entry_cmp : Entry → Entry → Ordering
entry_cmp = then_cmp (on (λ (e : Entry). e.a) nat_cmp) (on (λ (e : Entry). e.b) nat_cmp)

entry_order : comes_before entry_cmp ≡ entry_before
entry_order = λ i e f. same e f i
  where
    same : (e f : Entry) → comes_before entry_cmp e f ≡ entry_before e f
    same e f = grind (arith, nat_tests)

pub entry_strict : StrictTotal {X = Entry} ◌≡◌ entry_before
entry_strict =
    record {
      irreflexive = λ e. grind (arith, nat_tests);
      transitive = λ e f g h k. grind (arith, nat_tests);
      total = λ e f h k. grind (arith, nat_tests);
    }

-- what the test of strict rise answers
abbrev RiseFound : List Entry → Option ℕ → Type 0
RiseFound es o = MatchOption o (Rises entry_before es) (λ i. FirstUnordered entry_before es i)

pub rise_found : (es : List Entry) (o : Option ℕ) → MatchOption o (Rises (comes_before entry_cmp) es) (λ i. FirstUnordered (comes_before entry_cmp) es i) → RiseFound es o
rise_found es o = subst (λ (before : Entry → Entry → Bool). MatchOption o (Rises before es) (λ i. FirstUnordered before es i)) entry_order

first_unordered_is : (es : List Entry) (o : Option ℕ) → RiseFound es o → o ≡ lowest_passing (length es) (unordered es)
first_unordered_is es o found = sym (by_cases o found)
  where
    in_order : (n : ℕ) → InOrder entry_before es n → (k : ℕ) → k < n → unordered es k ≡ false
    in_order n next k l =
        ⊎_elim
        (λ past. and_right _ _ (not_from_true _ (next k (record { a = 0; b = 0 }) (omega arith) l)))
        (λ start. and_left _ _ (le-ltb 0 k start))
        (cases_lt 0 k)

    by_cases : (o : Option ℕ) → RiseFound es o → lowest_passing (length es) (unordered es) ≡ o
    by_cases None rises = passing_none (length es) (unordered es) (λ k. k) (in_order (length es) rises.next)
    by_cases (Some i) at =
        first_some (length es) (unordered es) i at.within
        (and_from _ _ (lt-ltb 0 i (omega (arith, at.past))) (not_from_false _ (at.fails (record { a = 0; b = 0 }))))
        (in_order i at.earlier)

module _ (n : ℕ) (es : List Entry) (x y : Option ℕ) (rise : RiseFound es x) (bounds : y ≡ lowest_passing (length es) (out_of_bounds n es)) where
  pub checking_is : unless_size n None ≡ None → checking n es ≡ bad_entry (lower_of x y)
  checking_is granted =
      let in_range : checking n es ≡ bad_entry (lowest_passing (length es) (λ k. unordered es k || out_of_bounds n es k)) = grind (arith, nat_tests) in
      in_range
      ∙ ap bad_entry (sym (lower_first (length es) (unordered es) (out_of_bounds n es)))
      ∙ sym (ap bad_entry (ap₂ lower_of (first_unordered_is es x rise) bounds))

  pub sound_is : unless_size n None ≡ None → lower_of x y ≡ None → Sound n es
  sound_is granted none =
      record {
        small = grind (arith, nat_tests);
        bounds = λ k l. not-false _ (none_passing (length es) (out_of_bounds n es) (λ k. k) (sym bounds ∙ no_second x y none) k l);
        rises = no_first x y rise none;
      }
    where
      no_second : (x y : Option ℕ) → lower_of x y ≡ None → y ≡ None
      no_second None y e = e
      no_second (Some i) None e = refl
      no_second (Some i) (Some j) e = never _ e

      no_first : (x y : Option ℕ) → RiseFound es x → lower_of x y ≡ None → Rises entry_before es
      no_first None y rises e = rises
      no_first (Some i) None found e = never _ e
      no_first (Some i) (Some j) found e = never _ e
