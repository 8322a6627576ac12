-- Lists of numbers that rise strictly: what stands in them, and how many.
use Rattle.std.proofs.Common.{◌≡◌, ℕ, zero, suc, ◌+◌, ◌-◌, ◌<◌, ◌≤◌, Bool, true, false, cond, not, ◌&&◌, ◌||◌, eqb, ltb, List, [], ◌∷◌, length, get_or, sym, refl, ap, ◌∙◌, ap₂, ⊎_elim, arith}
use mathlib.Core.Bool.{or-false, or_comm, or_assoc, and-true}
use Rattle.std.specs.List.{insert, remove, filter, range_with_len}
use Rattle.std.proofs.lemmas.Bool.{cases_lt, cases_eq, lt-ltb, le-ltb, ltb-true, eq-eqb, ne_eqb, eqb-true, eqb-false, or_cases, or_parts, or_left, or_right, or_from, both_ways}
use Rattle.std.proofs.Common.{nat_lt}
use Rattle.std.proofs.lemmas.Bool.Decides.{nat_tests}
use Rattle.strict_order.specs.StrictOrder.{StrictTotal, Rises}
use Rattle.graph.specs.Graph.{count, First}
use Rattle.graph.proofs.Counts.{count_more, count_none}
use Rattle.sorted_rows.specs.Row.{has, place}

pub nat_strict : StrictTotal {X = ℕ} ◌≡◌ nat_lt
nat_strict =
    record {
      irreflexive = λ x. grind (arith, nat_tests);
      transitive = λ x y z e f. grind (arith, nat_tests);
      total = λ x y e f. grind (arith, nat_tests);
    }

-- a strictly rising list of numbers from m on
abbrev pub Above : ℕ → List ℕ → Type 0
Above m [] = Unit {0}
Above m (x ∷ xs) = (m ≤ x) × Above (suc x) xs

pub above_weaker : (m n : ℕ) (xs : List ℕ) → n ≤ m → Above m xs → Above n xs
above_weaker m n [] l above = tt
above_weaker m n (x ∷ xs) l above = (omega (arith, above.0), above.1)

above_get : (m : ℕ) (xs : List ℕ) (i d : ℕ) → i < length xs → Above m xs → m ≤ get_or xs i d
above_get m [] i d l above = absurd (omega arith)
above_get m (x ∷ xs) zero d l above = above.0
above_get m (x ∷ xs) (suc i) d l above = omega (arith, above.0, above_get (suc x) xs i d (omega arith) above.1)

above_pairs : (m : ℕ) (xs : List ℕ) → Above m xs → (i j d : ℕ) → i < j → j < length xs → get_or xs i d < get_or xs j d
above_pairs m [] above i j d l k = absurd (omega arith)
above_pairs m (x ∷ xs) above i zero d l k = absurd (omega arith)
above_pairs m (x ∷ xs) above zero (suc j) d l k = omega (arith, above_get (suc x) xs j d (omega arith) above.1)
above_pairs m (x ∷ xs) above (suc i) (suc j) d l k = above_pairs (suc x) xs above.1 i j d (omega arith) (omega arith)

pub rises_from_above : (m : ℕ) (xs : List ℕ) → Above m xs → Rises ltb xs
rises_from_above m xs above =
    record {
      next = λ k d past l. lt-ltb (get_or xs (k - 1) d) (get_or xs k d) (above_pairs m xs above (k - 1) k d (omega arith) l);
      later = λ i j d l k. lt-ltb (get_or xs i d) (get_or xs j d) (above_pairs m xs above i j d l k);
    }

above_from_pairs : (m : ℕ) (xs : List ℕ) → ((i : ℕ) → i < length xs → m ≤ get_or xs i 0) → ((i j : ℕ) → i < j → j < length xs → get_or xs i 0 < get_or xs j 0) → Above m xs
above_from_pairs m [] low pairs = tt
above_from_pairs m (x ∷ xs) low pairs = (
  low 0 (omega arith),
  above_from_pairs (suc x) xs (λ i l. pairs 0 (suc i) (omega arith) (omega arith)) (λ i j l k. pairs (suc i) (suc j) (omega arith) (omega arith)),
)

pub above_from_rises : (xs : List ℕ) → Rises ltb xs → Above 0 xs
above_from_rises xs rises =
    above_from_pairs 0 xs (λ _ _. omega arith) (λ i j l k. ltb-true (get_or xs i 0) (get_or xs j 0) (rises.later i j 0 l k))

-- ---- what stands in a rising list

pub has_below : (m : ℕ) (xs : List ℕ) (b : ℕ) → Above m xs → b < m → has xs b ≡ false
has_below m [] b above l = refl
has_below m (x ∷ xs) b above l =
    or_from (eqb x b) (has xs b) (ne_eqb x b (λ e. omega (arith, above.0))) (has_below (suc x) xs b above.1 (omega (arith, above.0)))

pub place_has : (m : ℕ) (xs : List ℕ) (b : ℕ) → Above m xs → place xs b < length xs → eqb (get_or xs (place xs b) 0) b ≡ has xs b
place_has m [] b above l = absurd (omega arith)
place_has m (x ∷ xs) b above l =
    ⊎_elim
    (λ less.
    let e : ltb x b ≡ true = lt-ltb x b less in
    let inner : eqb (get_or xs (place xs b) 0) b ≡ has xs b = place_has (suc x) xs b above.1 (omega (arith, rw e at l)) in
    rw (e, ne_eqb x b (λ q. omega (arith, less))) inner)
    (λ more. rw (le-ltb x b more, has_below (suc x) xs b above.1 (omega arith)) (sym (or-false (eqb x b))))
    (cases_lt x b)

-- the number at the place of b is the next one from b on
pub place_first : (m : ℕ) (xs : List ℕ) (b : ℕ) → Above m xs → place xs b < length xs → First (has xs) b (get_or xs (place xs b) 0)
place_first m [] b above l = absurd (omega arith)
place_first m (x ∷ xs) b above l =
    ⊎_elim
    (λ less.
    let e : ltb x b ≡ true = lt-ltb x b less in
    let inner = place_first (suc x) xs b above.1 (omega (arith, rw e at l)) in
    rw e (record {
      past = inner.past;
      hit = or_right (eqb x _) _ inner.hit;
      before = λ j f k. or_from (eqb x j) (has xs j) (ne_eqb x j (λ q. omega arith)) (inner.before j f k);
    }))
    (λ more.
    rw (le-ltb x b more) (record {
      past = more;
      hit = or_left (eqb x x) (has xs x) (eq-eqb x x refl);
      before = λ j f k. has_below x (x ∷ xs) j (omega arith, above.1) k;
    }))
    (cases_lt x b)

-- past the last number nothing stands
pub place_none : (m : ℕ) (xs : List ℕ) (b : ℕ) → Above m xs → length xs ≤ place xs b → (j : ℕ) → b ≤ j → has xs j ≡ false
place_none m [] b above l j f = refl
place_none m (x ∷ xs) b above l j f =
    ⊎_elim
    (λ less.
    let e : ltb x b ≡ true = lt-ltb x b less in
    or_from (eqb x j) (has xs j) (ne_eqb x j (λ q. omega arith)) (place_none (suc x) xs b above.1 (omega (arith, rw e at l)) j f))
    (λ more. absurd (omega (arith, rw (le-ltb x b more) at l)))
    (cases_lt x b)

-- as many numbers stand in it as it is long
pub count_has : (n m : ℕ) (xs : List ℕ) → Above m xs → ((b : ℕ) → has xs b ≡ true → b < n) → count n (has xs) ≡ length xs
count_has n m [] above low = count_none n (has []) (λ _ _. refl)
count_has n m (x ∷ xs) above low =
    let inner : count n (has xs) ≡ length xs = count_has n (suc x) xs above.1 (λ b h. low b (or_right (eqb x b) (has xs b) h)) in
    let more : count n (has (x ∷ xs)) ≡ count n (has xs) + 1 =
    count_more n (has xs) (has (x ∷ xs)) x (low x (or_left (eqb x x) (has xs x) (eq-eqb x x refl)))
    (has_below (suc x) xs x above.1 (omega arith)) (or_left (eqb x x) (has xs x) (eq-eqb x x refl))
    (λ k _ ne. ap (λ (t : Bool). t || has xs k) (ne_eqb x k (λ e. ne (sym e)))) in
    omega (arith, inner, more)

-- ---- one number more

pub has_inserted : (xs : List ℕ) (b y : ℕ) → has (insert xs (place xs b) b) y ≡ (has xs y || eqb b y)
has_inserted [] b y = or-false (eqb b y)
has_inserted (x ∷ xs) b y =
    ⊎_elim
    (λ l. rw (lt-ltb x b l, has_inserted xs b y) (sym (or_assoc (eqb x y) (has xs y) (eqb b y))))
    (λ l. rw (le-ltb x b l) (or_comm (eqb b y) (eqb x y || has xs y)))
    (cases_lt x b)

pub above_inserted : (m : ℕ) (xs : List ℕ) (b : ℕ) → Above m xs → m ≤ b → has xs b ≡ false → Above m (insert xs (place xs b) b)
above_inserted m [] b above l off = (l, tt)
above_inserted m (x ∷ xs) b above l off =
    ⊎_elim
    (λ less. rw (lt-ltb x b less) (above.0, above_inserted (suc x) xs b above.1 (omega arith) (or_parts (eqb x b) (has xs b) off).1))
    (λ more. rw (le-ltb x b more) (l, (omega (arith, more, eqb-false x b (or_parts (eqb x b) (has xs b) off).0), above.1)))
    (cases_lt x b)

-- ---- one number less

pub above_removed : (m : ℕ) (xs : List ℕ) (b : ℕ) → Above m xs → Above m (remove xs (place xs b))
above_removed m [] b above = tt
above_removed m (x ∷ xs) b above =
    ⊎_elim
    (λ l. rw (lt-ltb x b l) (above.0, above_removed (suc x) xs b above.1))
    (λ l. rw (le-ltb x b l) (above_weaker (suc x) m xs (omega (arith, above.0)) above.1))
    (cases_lt x b)

-- a number that stands in the list is its first number, if that is not below it
first_is : (x : ℕ) (xs : List ℕ) (b : ℕ) → Above (suc x) xs → b ≤ x → has (x ∷ xs) b ≡ true → x ≡ b
first_is x xs b above l on =
    ⊎_elim
    (λ e. eqb-true x b e)
    (λ h. absurd (both_ways (has xs b) (has_below (suc x) xs b above (omega arith)) h))
    (or_cases (eqb x b) (has xs b) on)

has_rest : (x : ℕ) (xs : List ℕ) (y : ℕ) → Above (suc x) xs → has xs y ≡ (has (x ∷ xs) y && not (eqb x y))
has_rest x xs y above =
    ⊎_elim
    (λ e. let off : has xs y ≡ false = has_below (suc x) xs y above (omega arith) in rw (off, eq-eqb x y e))
    (λ ne. rw (ne_eqb x y ne) (sym (and-true (has xs y))))
    (cases_eq x y)

pub has_removed : (m : ℕ) (xs : List ℕ) (b y : ℕ) → Above m xs → has xs b ≡ true → has (remove xs (place xs b)) y ≡ (has xs y && not (eqb b y))
has_removed m [] b y above on = refl
has_removed m (x ∷ xs) b y above on =
    ⊎_elim
    (λ l.
    let other : eqb x b ≡ false = ne_eqb x b (λ e. omega (arith, l)) in
    let inner : has xs b ≡ true = rw other at on in
    rw (lt-ltb x b l, has_removed (suc x) xs b y above.1 inner) (past x b y (has xs y) l))
    (λ l.
    let same : x ≡ b = first_is x xs b above.1 l on in
    rw (le-ltb x b l) (has_rest x xs y above.1 ∙ ap (λ (k : ℕ). has (x ∷ xs) y && not (eqb k y)) same))
    (cases_lt x b)
  where
    past : (i j k : ℕ) (t : Bool) → i < j → (eqb i k || (t && not (eqb j k))) ≡ ((eqb i k || t) && not (eqb j k))
    past i j k t l =
        ⊎_elim
        (λ e. let ne : eqb j k ≡ false = ne_eqb j k (λ q. omega (arith, l, e)) in rw (eq-eqb i k e, ne))
        (λ ne. rw (ne_eqb i k ne))
        (cases_eq i k)

-- ---- a rising list is the numbers that stand in it, in order

above_next : (m : ℕ) (xs : List ℕ) → Above m xs → has xs m ≡ false → Above (m + 1) xs
above_next m [] above off = tt
above_next m (x ∷ xs) above off =
    (omega (arith, above.0, eqb-false x m (or_parts (eqb x m) (has xs m) off).0), above.1)

-- the list xs is what is left of the k numbers from m on by the test
abbrev Left : (ℕ → Bool) → ℕ → ℕ → List ℕ → Type 0
Left test m k xs =
    Above m xs → ((b : ℕ) → m ≤ b → has xs b ≡ test b) → ((b : ℕ) → has xs b ≡ true → b < m + k) → xs ≡ filter test (range_with_len m k)

left_more : (test : ℕ → Bool) (m k : ℕ) → ((xs : List ℕ) → Left test (m + 1) k xs) → (t : Bool) → test m ≡ t → (xs : List ℕ) → Above m xs → ((b : ℕ) → m ≤ b → has xs b ≡ test b) → ((b : ℕ) → has xs b ≡ true → b < m + suc k)
    → xs ≡ cond t (m ∷ filter test (range_with_len (m + 1) k)) (filter test (range_with_len (m + 1) k))
left_more test m k later false e xs above is below =
    later xs (above_next m xs above (is m (omega arith) ∙ e)) (λ b l. is b (omega arith)) (λ b on. omega (arith, below b on))
left_more test m k later true e [] above is below = absurd (both_ways false refl (is m (omega arith) ∙ e))
left_more test m k later true e (x ∷ xs) above is below =
    ap₂ (λ (y : ℕ) (ys : List ℕ). y ∷ ys) same
    (later xs (above_weaker (suc x) (m + 1) xs (omega (arith, same)) above.1)
    (λ b l. ap (λ (t : Bool). t || has xs b) (sym (ne_eqb x b (λ q. omega (arith, same, q)))) ∙ is b (omega arith))
    (λ b on. omega (arith, below b (or_right (eqb x b) (has xs b) on))))
  where
    same : x ≡ m
    same =
        ⊎_elim
        (λ l. absurd (both_ways _ (has_below x (x ∷ xs) m (omega arith, above.1) l) (is m (omega arith) ∙ e)))
        (λ l. omega (arith, above.0))
        (cases_lt m x)

pub rising_filtered : (test : ℕ → Bool) (m k : ℕ) (xs : List ℕ) → Left test m k xs
rising_filtered test m zero [] above is below = refl
rising_filtered test m zero (x ∷ xs) above is below =
    absurd (omega (arith, above.0, below x (or_left (eqb x x) (has xs x) (eq-eqb x x refl))))
rising_filtered test m (suc k) xs above is below =
    left_more test m k (rising_filtered test (m + 1) k) (test m) refl xs above is below
