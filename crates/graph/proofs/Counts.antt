-- Counts over the numbers below n, and how one link more changes them.
use Rattle.std.proofs.Common.{◌≡◌, ℕ, zero, suc, ◌+◌, ◌-◌, ◌<◌, ◌≤◌, Bool, true, false, cond, ◌&&◌, ◌||◌, eqb, sym, refl, ap, ◌∙◌, subst, ap₂, ⊎_elim, add-zero, add_assoc, add-suc, arith}
use Rattle.std.proofs.lemmas.Bool.{cases_order, cases_eq, ne_eqb, eq-eqb, eqb-true, cases_Bool, or_from, or_left, or_right, and_left, and_right}
use Rattle.graph.specs.Graph.{Graph, count, total, link_count, is_pair}

-- ---- counts and sums of tests that agree

pub count_ext : (n : ℕ) (p q : ℕ → Bool) → ((k : ℕ) → k < n → p k ≡ q k) → count n p ≡ count n q
count_ext zero p q same = refl
count_ext (suc n) p q same =
    ap₂ (λ (x : ℕ) (b : Bool). x + cond b 1 0) (count_ext n p q (λ k l. same k (omega arith))) (same n (omega arith))

pub count_none : (n : ℕ) (p : ℕ → Bool) → ((k : ℕ) → k < n → p k ≡ false) → count n p ≡ 0
count_none n p off = count_ext n p (λ _. false) off ∙ never n
  where
    never : (m : ℕ) → count m (λ _. false) ≡ 0
    never zero = refl
    never (suc m) = add-zero (count m (λ _. false)) ∙ never m

pub total_ext : (n : ℕ) (f g : ℕ → ℕ) → ((k : ℕ) → k < n → f k ≡ g k) → total n f ≡ total n g
total_ext zero f g same = refl
total_ext (suc n) f g same = ap₂ (λ (x y : ℕ). x + y) (total_ext n f g (λ k l. same k (omega arith))) (same n (omega arith))

pub total_none : (n : ℕ) (f : ℕ → ℕ) → ((k : ℕ) → k < n → f k ≡ 0) → total n f ≡ 0
total_none zero f off = refl
total_none (suc n) f off = omega (arith, total_none n f (λ k l. off k (omega arith)), off n (omega arith))

pub link_count_none : (g : Graph) → ((a b : ℕ) → g.linked a b ≡ false) → link_count g ≡ 0
link_count_none g off = total_none g.size (λ a. count a (g.linked a)) (λ a _. count_none a (g.linked a) (λ b _. off a b))

-- ---- one more

one_at_most : (b : Bool) → cond b 1 0 ≤ 1
one_at_most true = omega arith
one_at_most false = omega arith

pub count_le : (n : ℕ) (p : ℕ → Bool) → count n p ≤ n
count_le zero p = omega arith
count_le (suc n) p = omega (arith, count_le n p, one_at_most (p n))

-- q passes a as well
pub count_more : (n : ℕ) (p q : ℕ → Bool) (a : ℕ) → a < n → p a ≡ false → q a ≡ true → ((k : ℕ) → k < n → (k ≡ a → ⊥) → q k ≡ p k) → count n q ≡ count n p + 1
count_more zero p q a l off on same = absurd (omega arith)
count_more (suc n) p q a l off on same =
    ⊎_elim
    (λ e.
    let before : count n q ≡ count n p = count_ext n q p (λ k m. same k (omega arith) (λ f. omega arith)) in
    let here : q n ≡ true = ap q e ∙ on in
    let not-here : p n ≡ false = ap p e ∙ off in
    rw (here, not-here) (omega arith))
    (λ ne.
    let here : q n ≡ p n = same n (omega arith) ne in
    rw here (omega (arith, count_more n p q a (omega (arith, ne)) off on (λ k m f. same k (omega arith) f))))
    (cases_eq n a)

pub total_more : (n : ℕ) (f g : ℕ → ℕ) (a : ℕ) → a < n → g a ≡ f a + 1 → ((k : ℕ) → (k ≡ a → ⊥) → g k ≡ f k) → total n g ≡ total n f + 1
total_more zero f g a l up same = absurd (omega arith)
total_more (suc n) f g a l up same =
    ⊎_elim
    (λ e.
    let before : total n g ≡ total n f = total_ext n g f (λ k m. same k (λ x. omega arith)) in
    let here : g n ≡ f n + 1 = subst (λ (x : ℕ). g x ≡ f x + 1) (sym e) up in
    omega arith)
    (λ ne. omega (arith, same n ne, total_more n f g a (omega (arith, ne)) up same))
    (cases_eq n a)

-- a test that fails somewhere passes fewer than all
pub count_lt : (n : ℕ) (p : ℕ → Bool) (a : ℕ) → a < n → p a ≡ false → count n p < n
count_lt n p a l off =
    omega (
      arith,
      count_more n p (λ k. p k || eqb a k) a l off (or_right (p a) (eqb a a) (eq-eqb a a refl)) (λ k _ ne. or_off (p k) (eqb a k) (ne_eqb a k (λ e. ne (sym e)))),
      count_le n (λ k. p k || eqb a k),
    )
  where
    or_off : (x y : Bool) → y ≡ false → (x || y) ≡ x
    or_off true y e = refl
    or_off false y e = e

-- ---- counts over parts

pub count_add : (m n : ℕ) (p : ℕ → Bool) → count (m + n) p ≡ count m p + count n (λ j. p (m + j))
count_add m zero p = ap (λ (x : ℕ). count x p) (add-zero m) ∙ sym (add-zero (count m p))
count_add m (suc n) p =
    ap (λ (x : ℕ). count x p) (add-suc m n)
    ∙ ap (λ (x : ℕ). x + cond (p (m + n)) 1 0) (count_add m n p)
    ∙ add_assoc (count m p) (count n (λ j. p (m + j))) (cond (p (m + n)) 1 0)

-- none passes from n on
pub count_cut : (m n : ℕ) (p : ℕ → Bool) → n ≤ m → ((k : ℕ) → n ≤ k → k < m → p k ≡ false) → count m p ≡ count n p
count_cut m n p l off =
    let same : n + (m - n) ≡ m = omega arith in
    ap (λ (x : ℕ). count x p) (sym same)
    ∙ count_add n (m - n) p
    ∙ ap (λ (x : ℕ). count n p + x) (count_none (m - n) (λ j. p (n + j)) (λ k q. off (n + k) (omega arith) (omega arith)))
    ∙ add-zero (count n p)

-- ---- one link more

-- q has the link of a and b in both directions, p has not, and they agree elsewhere
pub record OneMore (p q : ℕ → ℕ → Bool) (a b : ℕ) : Type 0 where
  pub off : p a b ≡ false
  pub off_back : p b a ≡ false
  pub on : q a b ≡ true
  pub on_back : q b a ≡ true
  pub same : (x y : ℕ) → is_pair a b x y ≡ false → q x y ≡ p x y

pub not_pair : (a b x y : ℕ) → (a ≡ x → b ≡ y → ⊥) → (a ≡ y → b ≡ x → ⊥) → is_pair a b x y ≡ false
not_pair a b x y here back = or_from _ _ (both_off a x b y here) (both_off a y b x back)
  where
    both_off : (i j m n : ℕ) → (i ≡ j → m ≡ n → ⊥) → (eqb i j && eqb m n) ≡ false
    both_off i j m n f =
        ⊎_elim
        (λ e. ⊎_elim (λ d. absurd (f (eqb-true i j e) (eqb-true m n d))) (λ d. and_right (eqb i j) _ d) (cases_Bool (eqb m n)))
        (λ e. and_left (eqb i j) _ e)
        (cases_Bool (eqb i j))

-- the links are counted at their higher load
higher_more : (n : ℕ) (p q : ℕ → ℕ → Bool) (a b : ℕ) → b < a → a < n → p a b ≡ false → q a b ≡ true → ((x y : ℕ) → y < x → (x ≡ a → y ≡ b → ⊥) → q x y ≡ p x y) → total n (λ x. count x (q x)) ≡ total n (λ x. count x (p x)) + 1
higher_more n p q a b l m off on same =
    total_more n (λ x. count x (p x)) (λ x. count x (q x)) a m
    (count_more a (p a) (q a) b l off on (λ k z ne. same a k z (λ _ v. ne v)))
    (λ x ne. count_ext x (q x) (p x) (λ y k. same x y k (λ e _. ne e)))

pub link_count_more : (n : ℕ) (p q : ℕ → ℕ → Bool) (a b : ℕ) → a < n → b < n → (a ≡ b → ⊥) → OneMore p q a b → link_count (record { size = n; linked = q }) ≡ link_count (record { size = n; linked = p }) + 1
link_count_more n p q a b l m ne c =
    ⊎_elim
    (λ e. absurd (ne e))
    (λ o. ⊎_elim
    (λ k. higher_more n p q b a k m c.off_back c.on_back (λ x y yx f. c.same x y (not_pair a b x y (λ u v. omega arith) (λ u v. f (sym v) (sym u)))))
    (λ k. higher_more n p q a b k l c.off c.on (λ x y yx f. c.same x y (not_pair a b x y (λ u v. f (sym u) (sym v)) (λ u v. omega arith))))
    o)
    (cases_order a b)

pub degree_more : (n : ℕ) (p q : ℕ → ℕ → Bool) (a b : ℕ) → a < n → b < n → (a ≡ b → ⊥) → OneMore p q a b → (x : ℕ) → count n (q x) ≡ count n (p x) + cond (eqb a x || eqb b x) 1 0
degree_more n p q a b l m ne c x =
    ⊎_elim
    (λ e. rw (or_left (eqb a x) (eqb b x) (eq-eqb a x e)) (subst (λ (w : ℕ). count n (q w) ≡ count n (p w) + 1) e
    (count_more n (p a) (q a) b m c.off c.on (λ k _ u. c.same a k (not_pair a b a k (λ _ v. u (sym v)) (λ _ v. ne (sym v)))))))
    (λ d. ⊎_elim
    (λ e. rw (or_right (eqb a x) (eqb b x) (eq-eqb b x e)) (subst (λ (w : ℕ). count n (q w) ≡ count n (p w) + 1) e
    (count_more n (p b) (q b) a l c.off_back c.on_back (λ k _ u. c.same b k (not_pair a b b k (λ v _. ne v) (λ v _. u (sym v)))))))
    (λ f. rw (or_from (eqb a x) (eqb b x) (ne_eqb a x d) (ne_eqb b x f))
    (count_ext n (q x) (p x) (λ k _. c.same x k (not_pair a b x k (λ v _. d v) (λ _ v. f v))) ∙ sym (add-zero (count n (p x)))))
    (cases_eq b x))
    (cases_eq a x)
