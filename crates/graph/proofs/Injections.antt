-- Counts that are compared through an injection, split, and added up.
use Rattle.std.proofs.Common.{◌≡◌, ℕ, zero, suc, ◌+◌, ◌*◌, ◌<◌, ◌≤◌, Bool, true, false, cond, not, ◌&&◌, eqb, refl, subst, inl, inr, arith}
use Rattle.std.proofs.lemmas.Bool.{cases_Bool, cases_eq, ne_eqb, and_from, not_from_false}
use Rattle.std.proofs.lemmas.Bool.Decides.{nat_tests}
use Rattle.graph.specs.Graph.{Graph, Simple, count, total, degree, link_count}
use Rattle.graph.proofs.Counts.{count_ext}

-- the test without the number b
abbrev pub except : (ℕ → Bool) → ℕ → ℕ → Bool
except test b x = test x && not (eqb x b)

pub count_except_above : (n : ℕ) (test : ℕ → Bool) (b : ℕ) → n ≤ b → count n (except test b) ≡ count n test
count_except_above zero test b h = refl
count_except_above (suc n) test b h =
    let ih = count_except_above n test b (omega arith) in
    grind (arith, nat_tests)

pub count_except : (n : ℕ) (test : ℕ → Bool) (b : ℕ) → b < n → test b ≡ true → count n (except test b) + 1 ≡ count n test
count_except zero test b h on = omega arith
count_except (suc n) test b h on = elim (cases_eq n b) [
  | inl e ↦ let k = count_except_above n test b (omega arith) in let r : test n ≡ true = cc in grind (arith, nat_tests)
  | inr k ↦ let ih = count_except n test b (omega arith) on in grind (arith, nat_tests)
]

-- each number that passes the first test is related to one that passes the second, and no two to the same
pub count_into : (R : ℕ → ℕ → Type 0) (n m : ℕ) (p q : ℕ → Bool) →
    ((a : ℕ) → a < n → p a ≡ true → (b : ℕ) × (b < m) × (q b ≡ true) × R a b) →
    ((a a' b : ℕ) → R a b → R a' b → a ≡ a') → count n p ≤ count m q
count_into R zero m p q into single = omega arith
count_into R (suc n) m p q into single = elim (cases_Bool (p n)) [
  | inl e ↦
      let (b, l, t, r) = into n (omega arith) e in
      let ih = count_into R n m p (except q b) (λ a i s.
      let (c, m, u, v) = into a (omega arith) s in
      let apart : c ≡ b → ⊥ = λ w. let same : a ≡ n = single a n b (subst (λ x. R a x) w v) r in omega arith in
      (c, m, and_from (q c) (not (eqb c b)) u (not_from_false (eqb c b) (ne_eqb c b apart)), v)) single in
      let one = count_except m q b l t in rw e (omega arith)
  | inr e ↦ let ih = count_into R n m p q (λ a l. into a (omega arith)) single in rw e (omega arith)
]

pub count_split : (n : ℕ) (p q : ℕ → Bool) → count n p ≡ count n (λ x. p x && q x) + count n (λ x. p x && not (q x))
count_split zero p q = refl
count_split (suc n) p q = let ih = count_split n p q in grind (arith, nat_tests)

pub count_below : (n : ℕ) (p q : ℕ → Bool) → ((x : ℕ) → x < n → p x ≡ true → q x ≡ true) → count n p ≤ count n q
count_below zero p q h = omega arith
count_below (suc n) p q h = let ih = count_below n p q (λ x l. h x (omega arith)) in let k = h n (omega arith) in grind (arith, nat_tests)

-- numbers that are each at least k, where the test passes
pub total_at_least : (n k : ℕ) (test : ℕ → Bool) (f : ℕ → ℕ) → ((x : ℕ) → x < n → test x ≡ true → k ≤ f x) → count n test * k ≤ total n f
total_at_least zero k test f h = omega arith
total_at_least (suc n) k test f h =
    let ih = total_at_least n k test f (λ x l. h x (omega arith)) in
    elim (cases_Bool (test n)) [ inl e ↦ let here = h n (omega arith) e in rw e (omega arith) | inr e ↦ rw e (omega arith) ]

count_all : (n : ℕ) → count n (λ _. true) ≡ n
count_all zero = refl
count_all (suc n) = omega (arith, count_all n)

pub total_least : (n k : ℕ) (f : ℕ → ℕ) → ((x : ℕ) → x < n → k ≤ f x) → n * k ≤ total n f
total_least n k f h = rw (count_all n) at (total_at_least n k (λ _. true) f (λ x l _. h x l))

pub total_below : (n : ℕ) (f h : ℕ → ℕ) → ((x : ℕ) → f x ≤ h x) → total n f ≤ total n h
total_below zero f h k = omega arith
total_below (suc n) f h k = omega (arith, total_below n f h k, k n)

pub total_plus : (n : ℕ) (f h : ℕ → ℕ) → total n (λ x. f x + h x) ≡ total n f + total n h
total_plus zero f h = refl
total_plus (suc n) f h = omega (arith, total_plus n f h)

pub total_count : (n : ℕ) (test : ℕ → Bool) → total n (λ x. cond (test x) 1 0) ≡ count n test
total_count zero test = refl
total_count (suc n) test = omega (arith, total_count n test)

-- tests within q, of which no number passes two
pub count_disjoint : (k n : ℕ) (test : ℕ → ℕ → Bool) (q : ℕ → Bool) → ((i x : ℕ) → i < k → test i x ≡ true → q x ≡ true) →
    ((i j x : ℕ) → test i x ≡ true → test j x ≡ true → i ≡ j) → total k (λ i. count n (test i)) ≤ count n q
count_disjoint zero n test q within apart = omega arith
count_disjoint (suc k) n test q within apart =
    let others = count_disjoint k n test (λ x. q x && not (test k x)) (λ i x l h.
    let off : test k x ≡ false = elim (cases_Bool (test k x)) [ inl e ↦ let same = apart i k x h e in absurd (omega arith) | inr e ↦ e ] in
    and_from (q x) (not (test k x)) (within i x (omega arith) h) (not_from_false (test k x) off)) apart in
    let split = count_split n q (test k) in
    let last = count_below n (test k) (λ x. q x && test k x) (λ x _ h. and_from (q x) (test k x) (within k x (omega arith) h) h) in
    omega arith

-- ---- degrees and links

module _ (linked : ℕ → ℕ → Bool) (loopless : (a : ℕ) → linked a a ≡ false) (symmetric : (a b : ℕ) → linked a b ≡ linked b a) where
  degrees_below : (n : ℕ) → total n (λ a. count n (linked a)) ≡ 2 * total n (λ a. count a (linked a))
  degrees_below zero = refl
  degrees_below (suc n) =
      let ih = degrees_below n in
      let last = total_plus n (λ a. count n (linked a)) (λ a. cond (linked a n) 1 0) in
      let as-count = total_count n (λ a. linked a n) in
      let turned = count_ext n (λ a. linked a n) (linked n) (λ a _. symmetric a n) in
      rw (loopless n) (omega arith)

pub handshake : (g : Graph) → Simple g → total g.size (degree g) ≡ 2 * link_count g
handshake g s = degrees_below g.linked s.loopless s.symmetric g.size

-- with fewer links
pub link_count_fewer : (g g' : Graph) → g'.size ≡ g.size → ((u v : ℕ) → g'.linked u v ≡ true → g.linked u v ≡ true) → link_count g' ≤ link_count g
link_count_fewer g g' size less =
    rw size (total_below g.size (λ a. count a (g'.linked a)) (λ a. count a (g.linked a)) (λ a. count_below a (g'.linked a) (g.linked a) (λ v _. less a v)))
