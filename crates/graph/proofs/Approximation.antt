-- A matching p without augmenting paths of up to 2k − 1 links has at least k / (k + 1) of the pairs of every matching q:
-- the levels up to k lose no load but those that p alone pairs, and each level has no more loads than the one before.
use Rattle.std.proofs.Common.{◌≡◌, ℕ, zero, suc, ◌+◌, ◌-◌, ◌*◌, ◌<◌, ◌≤◌, true, Bool, not, ◌&&◌, ◌∷◌, Some, add-zero, add-suc, mul-le-mul_left, inl, inr, arith}
use Rattle.std.proofs.Math.Bool.{and_comm}
use Rattle.std.proofs.lemmas.Bool.{both_ways, and_parts, and_from, not-true, not-false}
use Rattle.graph.specs.Graph.{Graph, Simple, count, total}
use Rattle.graph.specs.Matching.{Partners, Free, Matching}
use Rattle.graph.specs.Pairs.{has_partner, is_free, pairs}
use Rattle.graph.specs.Approximation.{NoShortAugmenting, ApproximationRatio}
use Rattle.graph.proofs.Alternating.{prepend, augmenting}
use Rattle.graph.proofs.Counts.{count_ext}
use Rattle.graph.proofs.Injections.{count_into, count_split, count_disjoint, total_least}
use Rattle.graph.proofs.Levels.{level, DoubleStep, before, after, later_taken, level_single, way_back}
use Rattle.graph.proofs.Pairs.{at_lower}
use Rattle.graph.proofs.Partners.{cases_option, some_is, partner_single, partner_below}

module _ (k : ℕ) (g : Graph) (s : Simple g) (p q : Partners) (mp : Matching g p) (none : NoShortAugmenting g p k) (mq : Matching g q) where
  abbrev loads_at : ℕ → ℕ
  loads_at i = count g.size (level p q i)

  step_back : (y y' z : ℕ) → DoubleStep p q z y → DoubleStep p q z y' → y ≡ y'
  step_back y y' z (x, e, d) (x', e', d') =
      let same = partner_single g q mq x x' z d d' in
      partner_single g p mp y y' x e (cc)

  step_single : (z z' y : ℕ) → DoubleStep p q z y → DoubleStep p q z' y → z ≡ z'
  step_single z z' y (x, e, d) (x', e', d') = cc

  next_fewer : (i : ℕ) → loads_at (suc i) ≤ loads_at i
  next_fewer i = count_into (λ y z. DoubleStep p q z y) g.size g.size (level p q (suc i)) (level p q i)
      (λ y _ h. let (z, on, (x, e, d)) = before p q i y h in (z, partner_below g q mq s x z d, on, (x, e, d)))
      step_back

  later_fewer : (i d : ℕ) → loads_at (i + d) ≤ loads_at i
  later_fewer i zero = rw add-zero (omega arith)
  later_fewer i (suc d) = rw add-suc (omega (arith, next_fewer (i + d), later_fewer i d))

  -- from a load at a level below k, a pair of q leads to a load that p pairs: else there were a short augmenting path
  goes_on : (i y x : ℕ) → i < k → level p q i y ≡ true → q y ≡ Some x → Free p x → ⊥
  goes_on i y x l h e free =
      let (path, b) = way_back p q i y h in
      let walk = prepend q p (2 * i) x path (rw b.begins (mq.returned y x e)) b.walk in
      none (suc (2 * i)) (omega arith) (x ∷ path)
      (augmenting g s q p mq mp (suc (2 * i)) (x ∷ path) walk free (omega (arith, b.loads)) (omega arith) b.ends)

  -- a load at a level from which no pair of q leads on
  abbrev stops : ℕ → ℕ → Bool
  stops i y = level p q i y && is_free q y

  next_most : (i : ℕ) → i < k → loads_at i ≤ loads_at (suc i) + count g.size (stops i)
  next_most i l =
      let split = count_split g.size (level p q i) (is_free q) in
      let onward : count g.size (λ y. level p q i y && not (is_free q y)) ≤ loads_at (suc i) =
      count_into (λ z y. DoubleStep p q z y) g.size g.size (λ y. level p q i y && not (is_free q y)) (level p q (suc i))
      (λ z _ h.
      let (h₁, h₂) = and_parts (level p q i z) (not (is_free q z)) h in
      let (x, e) = some_is (q z) (not-false (has_partner q z) (not-true (is_free q z) h₂)) in
      elim (cases_option (p x)) [
        | inl free ↦ absurd (goes_on i z x l h₁ e free)
        | inr (y, d) ↦
            let step : DoubleStep p q z y = (x, mp.returned x y d, mq.returned z x e) in
            (y, partner_below g p mp s x y d, after p q i z y h₁ step, step)
      ])
      step_single in
      omega arith

  later_most : (j : ℕ) → j ≤ k → loads_at 0 ≤ loads_at j + total j (λ i. count g.size (stops i))
  later_most zero l = omega arith
  later_most (suc j) l = omega (arith, later_most j (omega arith), next_most j (omega arith))

  stops_taken : (i y : ℕ) → stops i y ≡ true → has_partner p y ≡ true
  stops_taken zero y h =
      let (h₁, free) = and_parts (level p q 0 y) (is_free q y) h in
      absurd (both_ways (has_partner q y) (not-true (has_partner q y) free) (and_parts (has_partner q y) (is_free p y) h₁).0)
  stops_taken (suc i) y h = later_taken p q i y (and_parts (level p q (suc i) y) (is_free q y) h).0

  all_stops : total k (λ i. count g.size (stops i)) ≤ count g.size (λ y. has_partner p y && is_free q y)
  all_stops = count_disjoint k g.size stops (λ y. has_partner p y && is_free q y)
      (λ i y _ h. and_from (has_partner p y) (is_free q y) (stops_taken i y h) (and_parts (level p q i y) (is_free q y) h).1)
      (λ i j y h h'. level_single p q i j y (and_parts (level p q i y) (is_free q y) h).0 (and_parts (level p q j y) (is_free q y) h').0)

  last_few : k * loads_at k ≤ count g.size (has_partner p)
  last_few =
      let each = total_least k (loads_at k) (λ i. loads_at (suc i))
      (λ i l. let far : suc i + (k - suc i) ≡ k = omega arith in rw far at (later_fewer (suc i) (k - suc i))) in
      let apart = count_disjoint k g.size (λ i. level p q (suc i)) (has_partner p) (λ i y _ h. later_taken p q i y h)
      (λ i j y h h'. let same = level_single p q (suc i) (suc j) y h h' in omega arith) in
      omega arith

  loads_most : count g.size (has_partner q) ≤ count g.size (has_partner p) + loads_at k
  loads_most =
      let of-q = count_split g.size (has_partner q) (has_partner p) in
      let of-p = count_split g.size (has_partner p) (has_partner q) in
      let both = count_ext g.size (λ x. has_partner q x && has_partner p x) (λ x. has_partner p x && has_partner q x)
      (λ x _. and_comm (has_partner q x) (has_partner p x)) in
      omega (arith, later_most k (omega arith), all_stops)

pub approximation_ratio : ApproximationRatio
approximation_ratio k some g s p q mp none mq =
    let p-pairs = at_lower g s p mp in
    let q-pairs = at_lower g s q mq in
    let most : 2 * pairs g.size q ≤ 2 * pairs g.size p + loads_at k g s p q mp none mq k =
    omega (arith, loads_most k g s p q mp none mq, p-pairs.twice, p-pairs.once, q-pairs.twice, q-pairs.once) in
    let few : k * loads_at k g s p q mp none mq k ≤ 2 * pairs g.size p =
    omega (arith, last_few k g s p q mp none mq, p-pairs.twice, p-pairs.once) in
    let times = mul-le-mul_left k most in
    omega (arith, times, few)
