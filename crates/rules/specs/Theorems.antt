-- The theorems on the rules.
use Rattle.std.specs.Prelude.{◌≡◌, ℕ, ◌*◌, ◌<◌, ◌≤◌, Bool, true, false, Some, None, Option, ◌≢◌}
use Rattle.ranking.specs.Order.{StrictOrder}
use Rattle.rules.specs.First.{first}
use Rattle.rules.specs.Threshold.{threshold}

-- the threshold of a limit is the least whole number whose square is at least twice the limit
pub record Least (limit t : ℕ) : Type 0 where
  pub enough : 2 * limit ≤ t * t
  pub least : (k : ℕ) → k < t → k * k < 2 * limit

abbrev pub ThresholdLeast : Type 0
ThresholdLeast = (limit : ℕ) → Least limit (threshold limit)

-- x is below n, passes the test, and comes before every other that does
pub record Leads (before : ℕ → ℕ → Bool) (n : ℕ) (test : ℕ → Bool) (x : ℕ) : Type 0 where
  pub inside : x < n
  pub passes : test x ≡ true
  pub leads : (y : ℕ) → y < n → test y ≡ true → (y ≢ x) → before x y ≡ true

-- the answer is the one number that leads, and there is none just where none passes
pub record FirstIs (before : ℕ → ℕ → Bool) (n : ℕ) (test : ℕ → Bool)
    (answer : Option ℕ) : Type 0 where
  pub some : (x : ℕ) → answer ≡ Some x → Leads before n test x
  pub only : (x : ℕ) → Leads before n test x → answer ≡ Some x
  pub none : answer ≡ None → (x : ℕ) → x < n → test x ≡ false
  pub otherwise : ((x : ℕ) → x < n → test x ≡ false) → answer ≡ None

-- in every strict order
abbrev pub FirstLeads : Type 0
FirstLeads =
    (before : ℕ → ℕ → Bool) → StrictOrder before → (n : ℕ) (test : ℕ → Bool) →
    FirstIs before n test (first before n test)
