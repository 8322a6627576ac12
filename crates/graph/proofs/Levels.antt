-- The levels of two matchings p and q. A load that q pairs and p leaves free is at level 0; from a load at a level, a
-- step over its pair of q and one over a pair of p lead to a load at the next level.
use Rattle.std.proofs.Common.{◌≡◌, ℕ, zero, suc, ◌+◌, ◌*◌, Bool, true, false, ◌&&◌, List, [], ◌∷◌, length, Some, None, Option, refl, ap, arith}
use Rattle.std.proofs.lemmas.Bool.{both_ways, and_parts}
use Rattle.graph.specs.Matching.{Partners, Free, at}
use Rattle.graph.specs.Pairs.{has_partner, is_free}
use Rattle.graph.proofs.Alternating.{Alternating, prepend}
use Rattle.graph.proofs.Partners.{none_is}
use Rattle.graph.proofs.Paths.{free_taken}

abbrev holds_at : (ℕ → Bool) → Option ℕ → Bool
holds_at test None = false
holds_at test (Some a) = test a

holds_is : (test : ℕ → Bool) (o : Option ℕ) → holds_at test o ≡ true → (a : ℕ) × (o ≡ Some a) × (test a ≡ true)
holds_is test None h = absurd (both_ways false refl h)
holds_is test (Some a) h = (a, refl, h)

abbrev pub level : Partners → Partners → ℕ → ℕ → Bool
level p q zero y = has_partner q y && is_free p y
level p q (suc i) y = holds_at (λ x. holds_at (level p q i) (q x)) (p y)

-- a pair of q and one of p lead from z to y
abbrev pub DoubleStep : Partners → Partners → ℕ → ℕ → Type 0
DoubleStep p q z y = (x : ℕ) × (p y ≡ Some x) × (q x ≡ Some z)

pub before : (p q : Partners) (i y : ℕ) → level p q (suc i) y ≡ true → (z : ℕ) × (level p q i z ≡ true) × DoubleStep p q z y
before p q i y h =
    let (x, e, h') = holds_is (λ x. holds_at (level p q i) (q x)) (p y) h in
    let (z, d, on) = holds_is (level p q i) (q x) h' in
    (z, on, (x, e, d))

pub after : (p q : Partners) (i z y : ℕ) → level p q i z ≡ true → DoubleStep p q z y → level p q (suc i) y ≡ true
after p q i z y h (x, e, d) = rw (e, d) h

pub first_free : (p q : Partners) (y : ℕ) → level p q 0 y ≡ true → Free p y
first_free p q y h = none_is (p y) (and_parts (has_partner q y) (is_free p y) h).1

pub later_taken : (p q : Partners) (i y : ℕ) → level p q (suc i) y ≡ true → has_partner p y ≡ true
later_taken p q i y h = let (z, on, (x, e, d)) = before p q i y h in cc

first_apart : (p q : Partners) (i y : ℕ) → level p q 0 y ≡ true → level p q (suc i) y ≡ true → ⊥
first_apart p q i y h k = let (z, on, (x, e, d)) = before p q i y k in free_taken (p y) x (first_free p q y h) e

-- a load is at one level at most
pub level_single : (p q : Partners) (i j y : ℕ) → level p q i y ≡ true → level p q j y ≡ true → i ≡ j
level_single p q zero zero y h k = refl
level_single p q zero (suc j) y h k = absurd (first_apart p q j y h k)
level_single p q (suc i) zero y h k = absurd (first_apart p q i y k h)
level_single p q (suc i) (suc j) y h k =
    let (z, on, (x, e, d)) = before p q i y h in
    let (z', on', (x', e', d')) = before p q j y k in
    let same : z ≡ z' = cc in
    ap suc (level_single p q i j z on (rw same on'))

-- the way back from a load at a level, to a load that p leaves free
pub record WayBack (p q : Partners) (i y : ℕ) (path : List ℕ) : Type 0 where
  pub loads : length path ≡ 2 * i + 1
  pub begins : at path 0 ≡ y
  pub ends : Free p (at path (2 * i))
  pub walk : Alternating p q (2 * i) path

pub way_back : (p q : Partners) (i y : ℕ) → level p q i y ≡ true → (path : List ℕ) × WayBack p q i y path
way_back p q zero y h = (
  y ∷ [],
  record {
    loads = refl;
    begins = refl;
    ends = first_free p q y h;
    walk = record { step = λ j l. absurd (omega arith) };
  },
)
way_back p q (suc i) y h =
    let (z, on, (x, e, d)) = before p q i y h in
    let (path, b) = way_back p q i z on in
    let two : 2 * suc i ≡ suc (suc (2 * i)) = omega arith in (
      y ∷ x ∷ path,
      record {
        loads = omega (arith, b.loads);
        begins = refl;
        ends = rw two b.ends;
        walk = rw two (prepend p q (suc (2 * i)) y (x ∷ path) e (prepend q p (2 * i) x path (rw b.begins d) b.walk));
      },
    )
