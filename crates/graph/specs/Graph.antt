-- Graphs on the loads below a size, what is counted of them, and the first number that passes a
-- test.
use Rattle.std.specs.Prelude.{◌≡◌, ℕ, zero, suc, ◌+◌, ◌<◌, ◌≤◌, Bool, true, false, not, ◌&&◌, ◌||◌}
use Rattle.std.specs.Prelude.{if◌then◌else◌, Option, None, MatchOption, ◌==◌}
use Rattle.std.specs.Bool.{then_some}
use Rattle.std.specs.Option.{option_or}
use Rattle.graph.specs.declared.TheConstants.{MOST_LOADS}

-- which loads below `size` are linked
pub record Graph : Type 0 where
  pub size : ℕ
  pub linked : ℕ → ℕ → Bool

-- at most 256 loads; a link joins two different loads, has no direction, and no number past the
-- size has one
pub record Simple (g : Graph) : Type 0 where
  pub small : g.size ≤ MOST_LOADS
  pub loopless : (a : ℕ) → g.linked a a ≡ false
  pub symmetric : (a b : ℕ) → g.linked a b ≡ g.linked b a
  pub below : (a b : ℕ) → g.linked a b ≡ true → a < g.size

-- how many numbers below n pass the test
abbrev pub count : ℕ → (ℕ → Bool) → ℕ
count zero test = 0
count (suc n) test = count n test + (if test n then 1 else 0)

-- the sum of f over the numbers below n
abbrev pub total : ℕ → (ℕ → ℕ) → ℕ
total zero f = 0
total (suc n) f = total n f + f n

-- how many links a load has
abbrev pub degree : Graph → ℕ → ℕ
degree g a = count g.size (g.linked a)

-- how many links there are, each counted at its higher load
abbrev pub link_count : Graph → ℕ
link_count g = total g.size (λ a. count a (g.linked a))

-- x and y are a and b, in either order
abbrev pub is_pair : ℕ → ℕ → ℕ → ℕ → Bool
is_pair a b x y = (a == x && b == y) || (a == y && b == x)

abbrev pub no_links : ℕ → Graph
no_links n = record { size = n; linked = λ _ _. false }

abbrev pub added : Graph → ℕ → ℕ → Graph
added g a b = record { size = g.size; linked = λ x y. g.linked x y || is_pair a b x y }

abbrev pub removed : Graph → ℕ → ℕ → Graph
removed g a b = record { size = g.size; linked = λ x y. g.linked x y && not (is_pair a b x y) }

-- k is the smallest number at or above `from` that passes the test
pub record First (test : ℕ → Bool) (from k : ℕ) : Type 0 where
  pub past : from ≤ k
  pub hit : test k ≡ true
  pub before : (j : ℕ) → from ≤ j → j < k → test j ≡ false

-- the smallest number at or above `from` that passes the test, if there is one
abbrev pub Next : (ℕ → Bool) → ℕ → Option ℕ → Type 0
Next test from r = MatchOption r ((j : ℕ) → from ≤ j → test j ≡ false) (λ k. First test from k)

-- the same of a search below `end`: where there is none, none of the numbers below `end` passes
abbrev pub NextBelow : (ℕ → Bool) → ℕ → ℕ → Option ℕ → Type 0
NextBelow test from end r =
    MatchOption r ((j : ℕ) → from ≤ j → j < end → test j ≡ false) (λ k. First test from k)

-- the answer at the lowest number below n that has one
abbrev pub lowest : {A : Type 0} → ℕ → (ℕ → Option A) → Option A
lowest zero answer = None
lowest (suc n) answer = option_or (lowest n answer) (answer n)

-- the lowest number below n that passes the test, if there is one
abbrev pub lowest_passing : ℕ → (ℕ → Bool) → Option ℕ
lowest_passing n test = lowest n (λ k. then_some (test k) k)
