-- The lowest number below a bound that passes a test, and the next of several.
use Rattle.std.proofs.Common.{◌≡◌, ℕ, zero, suc, ◌<◌, min, Bool, true, false, cond, ◌&&◌, ◌||◌, eqb, leb, List, [], ◌∷◌, length, get_or, fold, IfSome, MatchOption, Some, None, Option, sym, refl, ap, ◌∙◌, subst, ⊎_elim, arith}
use Rattle.std.proofs.lemmas.Bool.{cases_eq, cases_lt, or_from, or_left, or_right}
use Rattle.std.proofs.lemmas.Bool.Decides.{nat_tests}
use Rattle.std.specs.List.{list_any, filter_map, cons_option, reduce, AllWithin, HoldsAt}
use Rattle.std.specs.Bool.{then_some}
use Rattle.std.specs.Option.{option_or}
use Rattle.graph.specs.Graph.{Next, lowest_passing}
use Rattle.graph.proofs.Lowest.{passing_none}
use Rattle.link_list.specs.declared.Entry.{Entry}
use Rattle.link_list.specs.Entries.{joins, next_joined, lower_of}

-- ---- the first that passes

pub first_some : (n : ℕ) (test : ℕ → Bool) (i : ℕ) → i < n → test i ≡ true → ((k : ℕ) → k < i → test k ≡ false) → lowest_passing n test ≡ Some i
first_some zero test i l on off = absurd (omega arith)
first_some (suc n) test i l on off =
    ⊎_elim
    (λ e.
    let here : test n ≡ true = ap test (sym e) ∙ on in
    let none : lowest_passing n test ≡ None = passing_none n test (λ k. k) (λ k m. off k (omega arith)) in
    rw (none, here) (ap Some (sym e)))
    (λ ne. let found : lowest_passing n test ≡ Some i = first_some n test i (omega (arith, ne)) on off in rw found refl)
    (cases_eq i n)

pub never : {A : Type 0} (i : ℕ) → Some i ≡ None → A
never i e = let z : ◌≡◌ {A = ℕ} 0 1 = cc in absurd (omega arith)

-- ---- the lower of two

abbrev hit : ℕ → Bool → Option ℕ
hit n b = then_some b n

Below : Option ℕ → ℕ → Type 0
Below o n = IfSome o (λ i. i < n)

first_below : (n : ℕ) (test : ℕ → Bool) → Below (lowest_passing n test) n
unfolding Below
first_below zero test = tt
first_below (suc n) test = one_more (lowest_passing n test) (test n) (first_below n test)
  where
    one_more : (o : Option ℕ) (b : Bool) → Below o n → Below (option_or o (hit n b)) (suc n)
    one_more None true l = omega arith
    one_more None false l = tt
    one_more (Some i) b l = omega arith

pub lower_first : (n : ℕ) (p q : ℕ → Bool) → lower_of (lowest_passing n p) (lowest_passing n q) ≡ lowest_passing n (λ k. p k || q k)
unfolding Below
lower_first zero p q = refl
lower_first (suc n) p q =
    one_more (lowest_passing n p) (lowest_passing n q) (p n) (q n) (first_below n p) (first_below n q)
    ∙ ap (λ (o : Option ℕ). option_or o (hit n (p n || q n))) (lower_first n p q)
  where
    one_more : (x y : Option ℕ) (a b : Bool) → Below x n → Below y n → lower_of (option_or x (hit n a)) (option_or y (hit n b)) ≡ option_or (lower_of x y) (hit n (a || b))
    one_more (Some i) (Some j) a b l m = refl
    one_more (Some i) None a true l m = ap Some (omega arith)
    one_more (Some i) None a false l m = refl
    one_more None (Some j) true b l m = ap Some (omega arith)
    one_more None (Some j) false b l m = refl
    one_more None None true true l m = ap Some (omega arith)
    one_more None None true false l m = refl
    one_more None None false b l m = refl

pub next_either : (p q : ℕ → Bool) (from : ℕ) (x y : Option ℕ) → Next p from x → Next q from y → Next (λ k. p k || q k) from (lower_of x y)
next_either p q from None None f g = λ k l. or_from (p k) (q k) (f k l) (g k l)
next_either p q from None (Some j) f g =
    record {
      past = g.past;
      hit = or_right (p j) (q j) g.hit;
      before = λ k l m. or_from (p k) (q k) (f k l) (g.before k l m);
    }
next_either p q from (Some i) None f g =
    record {
      past = f.past;
      hit = or_left (p i) (q i) f.hit;
      before = λ k l m. or_from (p k) (q k) (f.before k l m) (g k l);
    }
next_either p q from (Some i) (Some j) f g =
    ⊎_elim
    (λ l.
    let same : min i j ≡ i = omega arith in
    rw same (record {
      past = f.past;
      hit = or_left (p i) (q i) f.hit;
      before = λ k u v. or_from (p k) (q k) (f.before k u v) (g.before k u (omega arith));
    }))
    (λ l.
    let same : min i j ≡ j = omega arith in
    rw same (record {
      past = g.past;
      hit = or_right (p j) (q j) g.hit;
      before = λ k u v. or_from (p k) (q k) (f.before k u (omega arith)) (g.before k u v);
    }))
    (cases_lt i j)

-- ---- the lowest of several

fold_min : (i j : ℕ) (ys : List ℕ) → fold min (min i j) ys ≡ min i (fold min j ys)
fold_min i j [] = refl
fold_min i j (y ∷ ys) = ap (λ (k : ℕ). fold min k ys) (omega arith) ∙ fold_min i (min j y) ys

lowest_of_more : (o : Option ℕ) (ys : List ℕ) → reduce min (cons_option o ys) ≡ lower_of o (reduce min ys)
lowest_of_more None ys = refl
lowest_of_more (Some i) [] = refl
lowest_of_more (Some i) (y ∷ ys) = ap Some (fold_min i y ys)

module _ (x from : ℕ) where
  next_of_one : (e : Entry) → Next (joins e x) from (next_joined e x from)
  next_of_one e = by_tests (eqb e.a x && leb from e.b) refl (eqb e.b x && leb from e.a) refl
    where
      by_tests : (s : Bool) → (eqb e.a x && leb from e.b) ≡ s → (t : Bool) → (eqb e.b x && leb from e.a) ≡ t → Next (joins e x) from (cond s (Some e.b) (cond t (Some e.a) None))
      by_tests true p t q = record { past = grind (arith, nat_tests); hit = grind (arith, nat_tests); before = λ j l m. grind (arith, nat_tests) }
      by_tests false p true q = record { past = grind (arith, nat_tests); hit = grind (arith, nat_tests); before = λ j l m. grind (arith, nat_tests) }
      by_tests false p false q = λ j l. grind (arith, nat_tests)

  pub next_of_entries : (es : List Entry) → Next (λ y. list_any (λ e. joins e x y) es) from (reduce min (filter_map (λ e. next_joined e x from) es))
  next_of_entries [] = λ k l. refl
  next_of_entries (e ∷ es) =
      subst (Next (λ y. joins e x y || list_any (λ f. joins f x y) es) from) (sym (lowest_of_more (next_joined e x from) (filter_map (λ f. next_joined f x from) es)))
      (next_either (joins e x) (λ y. list_any (λ f. joins f x y) es) from _ _ (next_of_one e) (next_of_entries es))

-- ---- the first in a list

pub first_position : {X : Type 0} (d : X) (test : X → Bool) (xs : List X) (r : Option ℕ) → MatchOption r (AllWithin (λ x. test x ≡ false) xs 0 (length xs)) (λ i. (i < length xs) × HoldsAt (λ x. test x ≡ true) xs i × AllWithin (λ x. test x ≡ false) xs 0 i) → r ≡ lowest_passing (length xs) (λ k. test (get_or xs k d))
first_position d test xs None off = sym (passing_none (length xs) (λ k. test (get_or xs k d)) (λ k. k) (λ k l. off k d (omega arith) l))
first_position d test xs (Some i) at = sym (first_some (length xs) (λ k. test (get_or xs k d)) i at.0 (at.1 d) (λ k l. at.2 k d (omega arith) l))
