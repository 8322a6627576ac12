-- Strict total orders: of two numbers one comes first, and the ranking by detour is one for each load.
use Rattle.std.proofs.Common.{◌≡◌, ◌≢◌, ℕ, Bool, true, false, List, refl, arith}
use Rattle.std.proofs.lemmas.Bool.Decides.{nat_tests}
use Rattle.ranking.specs.declared.detour.Place.{Place}
use Rattle.ranking.specs.Detour.{detour, nearer}
use Rattle.ranking.specs.Order.{StrictOrder, by_key}

-- of two different numbers, the second comes first where the first does not
pub other_first : (before : ℕ → ℕ → Bool) → StrictOrder before → (x y : ℕ) → (x ≢ y) → before x y ≡ false → before y x ≡ true
other_first before order x y apart off = by_test (before y x) refl
  where
    by_test : (b : Bool) → before y x ≡ b → before y x ≡ true
    by_test true e = e
    by_test false e = absurd (apart (order.total x y off e))

-- whatever the key
by_key_order : (key : ℕ → ℕ) → StrictOrder (by_key key)
by_key_order key =
    record {
      irreflexive = λ x. grind (arith, nat_tests);
      transitive = λ x y z e f. grind (arith, nat_tests);
      total = λ x y e f. grind (arith, nat_tests);
    }

pub nearer_order : (places : List Place) (a : ℕ) → StrictOrder (nearer places a)
nearer_order places a = by_key_order (detour places a)
