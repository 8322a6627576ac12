-- The threshold is the least number that serves.
use Rattle.std.proofs.Common.{ℕ, zero, suc, ◌+◌, ◌*◌, ◌<◌, ◌≤◌, leb, inl, inr, mul-le-mul_right, arith}
use Rattle.std.proofs.lemmas.Bool.{cases_Bool, leb-true, leb-false, cases_eq}
use Rattle.rules.specs.Threshold.{root_from, threshold}
use Rattle.rules.specs.Theorems.{Least}

square : (n : ℕ) → n ≤ n * n
square zero = omega arith
square (suc n) = let h : 1 ≤ suc n = omega arith in omega (arith, mul-le-mul_right (suc n) h)

root_least : (limit tries t : ℕ) → 2 * limit ≤ t + tries → ((k : ℕ) → k < t → k * k < 2 * limit) → Least limit (root_from tries t (2 * limit))
root_least limit zero t enough below = record { enough = omega (arith, square t); least = below }
root_least limit (suc tries) t enough below = elim (cases_Bool (leb (2 * limit) (t * t))) [
  | inl e ↦ rw e (record { enough = leb-true (2 * limit) (t * t) e; least = below })
  | inr e ↦ rw e (root_least limit tries (t + 1) (omega arith) (λ k l. elim (cases_eq k t)
      [ inl same ↦ rw same (leb-false (2 * limit) (t * t) e) | inr other ↦ below k (omega arith) ]))
]

pub threshold_least : (limit : ℕ) → Least limit (threshold limit)
threshold_least limit = root_least limit (2 * limit) 0 (omega arith) (λ k l. absurd (omega arith))
