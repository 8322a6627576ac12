-- The links of a sound list.
use Rattle.std.proofs.Common.{◌≡◌, ℕ, zero, suc, ◌+◌, ◌<◌, ◌≤◌, Bool, true, false, cond, ◌||◌, List, length, take, count_by, sym, refl, ap, ◌∙◌, ⊎_elim, add-one, arith}
use Rattle.std.proofs.lemmas.Bool.{both_ways, or_from, or_right, or_cases, and_parts, ltb-true}
use Rattle.std.proofs.lemmas.List.{take_all}
use Rattle.std.proofs.lemmas.List.Folds.{list_any_more}
use Rattle.std.proofs.lemmas.List.Sums.{sum_by_more, length-filter}
use Rattle.std.specs.List.{list_any, filter}
use Rattle.std.proofs.lemmas.Bool.Decides.{nat_tests}
use Rattle.graph.specs.Graph.{Simple, count, link_count}
use Rattle.graph.proofs.Counts.{OneMore, degree_more, link_count_more, link_count_none, count_none}
use Rattle.link_list.specs.declared.Entry.{Entry}
use Rattle.link_list.specs.Entries.{entry_before, joins, touches, entry_at}
use Rattle.link_list.specs.Lists.{joined, graph_of, Sound}

-- the entry is the link of its own two loads
joins_itself : (e : Entry) → joins e e.a e.b ≡ true
joins_itself e = grind (arith, nat_tests)

joins_symmetric : (e : Entry) (x y : ℕ) → joins e x y ≡ joins e y x
joins_symmetric e x y = grind (arith, nat_tests)

joined_symmetric : (es : List Entry) (k x y : ℕ) → joined es k x y ≡ joined es k y x
joined_symmetric es zero x y = refl
joined_symmetric es (suc k) x y = rw (joined_symmetric es k x y, joins_symmetric (entry_at es k) x y) refl

-- the first k entries, as a list
joined_is : (es : List Entry) (k x y : ℕ) → k ≤ length es → joined es k x y ≡ list_any (λ e. joins e x y) (take k es)
joined_is es zero x y l = refl
joined_is es (suc k) x y l =
    ap (λ (b : Bool). b || joins (entry_at es k) x y) (joined_is es k x y (omega arith))
    ∙ sym (list_any_more (λ e. joins e x y) es k (record { a = 0; b = 0 }) l)
    ∙ ap (λ (i : ℕ). list_any (λ e. joins e x y) (take i es)) (add-one k)

pub joined_all : (es : List Entry) (x y : ℕ) → joined es (length es) x y ≡ list_any (λ e. joins e x y) es
joined_all es x y = joined_is es (length es) x y (omega arith) ∙ ap (list_any (λ e. joins e x y)) (take_all (length es) es (omega arith))

module _ (n : ℕ) (es : List Entry) (sound : Sound n es) where
  rising : (k : ℕ) → k < length es → (entry_at es k).a < (entry_at es k).b
  rising k l = ltb-true _ _ (and_parts _ _ (sound.bounds k l)).0

  within : (k : ℕ) → k < length es → (entry_at es k).b < n
  within k l = ltb-true _ _ (and_parts _ _ (sound.bounds k l)).1

  loopless : (k x : ℕ) → k ≤ length es → joined es k x x ≡ false
  loopless zero x l = refl
  loopless (suc k) x l =
      let r : (entry_at es k).a < (entry_at es k).b = rising k (omega arith) in
      or_from _ _ (loopless k x (omega arith)) (grind (arith, nat_tests))

  below_size : (k x y : ℕ) → k ≤ length es → joined es k x y ≡ true → x < n
  below_size zero x y l on = absurd (both_ways false refl on)
  below_size (suc k) x y l on =
      ⊎_elim
      (λ e. below_size k x y (omega arith) e)
      (λ e.
      let r : (entry_at es k).a < (entry_at es k).b = rising k (omega arith) in
      let w : (entry_at es k).b < n = within k (omega arith) in
      grind (arith, nat_tests))
      (or_cases (joined es k x y) _ on)

  pub list_simple : Simple (graph_of n es)
  list_simple =
      record {
        small = sound.small;
        loopless = λ x. loopless (length es) x (omega arith);
        symmetric = joined_symmetric es (length es);
        below = λ x y. below_size (length es) x y (omega arith);
      }

  -- no entry is the link of an earlier one
  not_yet : (m : ℕ) → m < length es → (k : ℕ) → k ≤ m → joined es k (entry_at es m).a (entry_at es m).b ≡ false
  not_yet m l zero k = refl
  not_yet m l (suc k) i =
      let before : entry_before (entry_at es k) (entry_at es m) ≡ true = sound.rises.later k m (record { a = 0; b = 0 }) (omega arith) l in
      let r : (entry_at es k).a < (entry_at es k).b = rising k (omega arith) in
      let s : (entry_at es m).a < (entry_at es m).b = rising m l in
      or_from _ _ (not_yet m l k (omega arith)) (grind (arith, nat_tests))

  one_more : (m : ℕ) → m < length es → OneMore (joined es m) (joined es (suc m)) (entry_at es m).a (entry_at es m).b
  one_more m l =
      let off : joined es m (entry_at es m).a (entry_at es m).b ≡ false = not_yet m l m (omega arith) in
      let on : joined es (suc m) (entry_at es m).a (entry_at es m).b ≡ true = or_right _ _ (joins_itself (entry_at es m)) in
      record {
        off = off;
        off_back = joined_symmetric es m _ _ ∙ off;
        on = on;
        on_back = joined_symmetric es (suc m) _ _ ∙ on;
        same = λ x y e. grind (arith, nat_tests);
      }

  degree_is : (k : ℕ) → k ≤ length es → (x : ℕ) → count_by (λ e. touches e x) (take k es) ≡ count n (joined es k x)
  degree_is zero l x = sym (count_none n (joined es 0 x) (λ _ _. refl))
  degree_is (suc k) l x =
      ap (λ (i : ℕ). count_by (λ e. touches e x) (take i es)) (sym (add-one k))
      ∙ sum_by_more (λ e. cond (touches e x) 1 0) es k (record { a = 0; b = 0 }) l
      ∙ ap (λ (c : ℕ). c + cond (touches (entry_at es k) x) 1 0) (degree_is k (omega arith) x)
      ∙ sym (degree_more n (joined es k) (joined es (suc k)) (entry_at es k).a (entry_at es k).b
      (omega (arith, rising k (omega arith), within k (omega arith))) (within k (omega arith)) (λ e. omega (arith, rising k (omega arith)))
      (one_more k (omega arith)) x)

  pub degree_all : (x : ℕ) → length (filter (λ e. touches e x) es) ≡ count n (joined es (length es) x)
  degree_all x =
      length-filter (λ e. touches e x) es
      ∙ ap (count_by (λ e. touches e x)) (sym (take_all (length es) es (omega arith)))
      ∙ degree_is (length es) (omega arith) x

  pub link_count_is : (k : ℕ) → k ≤ length es → k ≡ link_count (record { size = n; linked = joined es k })
  link_count_is zero l = sym (link_count_none (record { size = n; linked = joined es 0 }) (λ _ _. refl))
  link_count_is (suc k) l =
      omega (
        arith,
        link_count_is k (omega arith),
        link_count_more n (joined es k) (joined es (suc k)) (entry_at es k).a (entry_at es k).b
            (omega (arith, rising k (omega arith), within k (omega arith))) (within k (omega arith)) (λ e. omega (arith, rising k (omega arith)))
            (one_more k (omega arith)),
      )
