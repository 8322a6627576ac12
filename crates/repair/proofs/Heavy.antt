-- More links than the threshold.
use Rattle.std.proofs.Common.{◌≡◌, ℕ, ◌-◌, ◌*◌, ◌<◌, ◌≤◌, leb, ltb, sym, ap, ◌∙◌, inl, inr, arith}
use Rattle.std.proofs.lemmas.Bool.{cases_lt, le-leb, lt-leb, lt-ltb, le-ltb}
use Rattle.std.proofs.lemmas.Nat.{mul-le}
use Rattle.rules.specs.Threshold.{threshold}
use Rattle.rules.proofs.Threshold.{threshold_least}

above_square : (limit n : ℕ) → threshold limit < n → 2 * limit ≤ (n - 1) * (n - 1)
above_square limit n above =
    let t = threshold limit in
    omega (arith, (threshold_least limit).enough, mul-le t t (n - 1) (n - 1) (omega arith) (omega arith))

within_square : (limit n : ℕ) → 0 < n → n ≤ threshold limit → (n - 1) * (n - 1) < 2 * limit
within_square limit n some within = (threshold_least limit).least (n - 1) (omega arith)

pub heavy_is : (limit n below : ℕ) → 0 < n → below ≡ n - 1 → leb (2 * limit) (below * below) ≡ ltb (threshold limit) n
heavy_is limit n below some is = ap (λ (k : ℕ). leb (2 * limit) (k * k)) is ∙ elim (cases_lt (threshold limit) n) [
  | inl above ↦ le-leb (2 * limit) ((n - 1) * (n - 1)) (above_square limit n above) ∙ sym (lt-ltb (threshold limit) n above)
  | inr within ↦ lt-leb (2 * limit) ((n - 1) * (n - 1)) (within_square limit n some within) ∙ sym (le-ltb (threshold limit) n within)
]
