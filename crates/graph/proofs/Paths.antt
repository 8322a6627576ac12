-- The augmenting paths of one and of three links.
use Rattle.std.proofs.Common.{◌≡◌, ℕ, zero, suc, ◌+◌, ◌-◌, ◌%◌, ◌<◌, ◌≤◌, true, List, [], ◌∷◌, Some, None, Option, sym, refl, ap, ◌∙◌, ⊎_elim, arith}
use Rattle.std.proofs.lemmas.Bool.{cases_eq, both_ways}
use Rattle.graph.specs.Graph.{Graph, Simple}
use Rattle.graph.specs.Matching.{Partners, Free, Matching, at, Augmenting, FreeLink, FreeWalk}
use Rattle.graph.specs.Theorems.{OfOne, OfThree}

pub free_taken : (o : Option ℕ) (b : ℕ) → o ≡ None → o ≡ Some b → ⊥
free_taken o b e k = let z : ◌≡◌ {A = ℕ} 0 1 = cc in omega arith

-- a free load and one with a partner are different
pub free_apart : (p : Partners) (a x y : ℕ) → Free p a → p x ≡ Some y → a ≡ x → ⊥
free_apart p a x y f e same = free_taken (p a) y f (ap p same ∙ e)

pub linked_apart : (g : Graph) → Simple g → (a b : ℕ) → g.linked a b ≡ true → a ≡ b → ⊥
linked_apart g s a b on same = both_ways (g.linked a a) (s.loopless a) (ap (g.linked a) same ∙ on)

-- ---- one link

one_shape : (g : Graph) (p : Partners) (path : List ℕ) → Augmenting g p 1 path → (a : ℕ) × (b : ℕ) × (path ≡ a ∷ b ∷ []) × FreeLink g p a b
one_shape g p [] h = absurd (omega (arith, h.loads))
one_shape g p (a ∷ []) h = absurd (omega (arith, h.loads))
one_shape g p (a ∷ b ∷ []) h =
    (a, b, refl, record { begins = h.begins; link = h.links 0 (omega arith); ends = h.ends })
one_shape g p (a ∷ b ∷ c ∷ rest) h = absurd (omega (arith, h.loads))

one_path : (g : Graph) → Simple g → (p : Partners) (a b : ℕ) → FreeLink g p a b → Augmenting g p 1 (a ∷ b ∷ [])
one_path g s p a b h =
    record {
      positive = omega arith;
      loads = refl;
      different = different;
      begins = h.begins;
      ends = h.ends;
      links = links;
      outside = outside;
      inside = λ i l odd. absurd (omega arith);
    }
  where
    different : (i j : ℕ) → i < j → j ≤ 1 → at (a ∷ b ∷ []) i ≡ at (a ∷ b ∷ []) j → ⊥
    different zero zero l m = absurd (omega arith)
    different zero (suc zero) l m = linked_apart g s a b h.link
    different zero (suc (suc j)) l m = absurd (omega arith)
    different (suc i) j l m = absurd (omega arith)

    links : (i : ℕ) → i < 1 → g.linked (at (a ∷ b ∷ []) i) (at (a ∷ b ∷ []) (i + 1)) ≡ true
    links zero l = h.link
    links (suc i) l = absurd (omega arith)

    outside : (i : ℕ) → i < 1 → i % 2 ≡ 0 → p (at (a ∷ b ∷ []) i) ≡ Some (at (a ∷ b ∷ []) (i + 1)) → ⊥
    outside zero l even = free_taken (p a) b h.begins
    outside (suc i) l even = absurd (omega arith)

pub of_one : (g : Graph) → Simple g → (p : Partners) → OfOne g p
of_one g s p = record { shape = one_shape g p; path = one_path g s p }

-- ---- three links

three_shape : (g : Graph) (p : Partners) (path : List ℕ) → Augmenting g p 3 path → (a : ℕ) × (x : ℕ) × (y : ℕ) × (z : ℕ) × (path ≡ a ∷ x ∷ y ∷ z ∷ []) × FreeWalk g p a x y z
three_shape g p [] h = absurd (omega (arith, h.loads))
three_shape g p (a ∷ []) h = absurd (omega (arith, h.loads))
three_shape g p (a ∷ x ∷ []) h = absurd (omega (arith, h.loads))
three_shape g p (a ∷ x ∷ y ∷ []) h = absurd (omega (arith, h.loads))
three_shape g p (a ∷ x ∷ y ∷ z ∷ []) h = (
  a,
  x,
  y,
  z,
  refl,
  record {
    begins = h.begins;
    first = h.links 0 (omega arith);
    pair = h.inside 1 (omega arith) refl;
    last = h.links 2 (omega arith);
    ends = h.ends;
    apart = h.different 0 3 (omega arith) (omega arith);
  },
)
three_shape g p (a ∷ x ∷ y ∷ z ∷ w ∷ rest) h = absurd (omega (arith, h.loads))

module _ (g : Graph) (s : Simple g) (p : Partners) (matching : Matching g p) (a x y z : ℕ) (h : FreeWalk g p a x y z) where
  back : p y ≡ Some x
  back = matching.returned x y h.pair

  walk_different : (i j : ℕ) → i < j → j ≤ 3 → at (a ∷ x ∷ y ∷ z ∷ []) i ≡ at (a ∷ x ∷ y ∷ z ∷ []) j → ⊥
  walk_different zero zero l m = absurd (omega arith)
  walk_different zero (suc zero) l m = linked_apart g s a x h.first
  walk_different zero (suc (suc zero)) l m = free_apart p a y x h.begins back
  walk_different zero (suc (suc (suc zero))) l m = h.apart
  walk_different (suc zero) (suc (suc zero)) l m = linked_apart g s x y (matching.linked x y h.pair)
  walk_different (suc zero) (suc (suc (suc zero))) l m = λ e. free_apart p z x y h.ends h.pair (sym e)
  walk_different (suc (suc zero)) (suc (suc (suc zero))) l m = linked_apart g s y z h.last
  walk_different (suc i) zero l m = absurd (omega arith)
  walk_different (suc (suc i)) (suc zero) l m = absurd (omega arith)
  walk_different (suc zero) (suc zero) l m = absurd (omega arith)
  walk_different (suc (suc i)) (suc (suc zero)) l m = absurd (omega arith)
  walk_different (suc (suc (suc i))) (suc (suc (suc zero))) l m = absurd (omega arith)
  walk_different i (suc (suc (suc (suc j)))) l m = absurd (omega arith)

  walk_links : (i : ℕ) → i < 3 → g.linked (at (a ∷ x ∷ y ∷ z ∷ []) i) (at (a ∷ x ∷ y ∷ z ∷ []) (i + 1)) ≡ true
  walk_links zero l = h.first
  walk_links (suc zero) l = matching.linked x y h.pair
  walk_links (suc (suc zero)) l = h.last
  walk_links (suc (suc (suc i))) l = absurd (omega arith)

  walk_outside : (i : ℕ) → i < 3 → i % 2 ≡ 0 → p (at (a ∷ x ∷ y ∷ z ∷ []) i) ≡ Some (at (a ∷ x ∷ y ∷ z ∷ []) (i + 1)) → ⊥
  walk_outside zero l even e = free_taken (p a) x h.begins e
  walk_outside (suc zero) l even e = absurd (omega arith)
  walk_outside (suc (suc zero)) l even e = free_taken (p z) y h.ends (matching.returned y z e)
  walk_outside (suc (suc (suc i))) l even e = absurd (omega arith)

  walk_inside : (i : ℕ) → i < 3 → i % 2 ≡ 1 → p (at (a ∷ x ∷ y ∷ z ∷ []) i) ≡ Some (at (a ∷ x ∷ y ∷ z ∷ []) (i + 1))
  walk_inside zero l odd = absurd (omega arith)
  walk_inside (suc zero) l odd = h.pair
  walk_inside (suc (suc zero)) l odd = absurd (omega arith)
  walk_inside (suc (suc (suc i))) l odd = absurd (omega arith)

  three_path : Augmenting g p 3 (a ∷ x ∷ y ∷ z ∷ [])
  three_path =
      record {
        positive = omega arith;
        loads = refl;
        different = walk_different;
        begins = h.begins;
        ends = h.ends;
        links = walk_links;
        outside = walk_outside;
        inside = walk_inside;
      }

pub of_three : (g : Graph) → Simple g → (p : Partners) → Matching g p → OfThree g p
of_three g s p matching = record { shape = three_shape g p; path = three_path g s p matching }

-- ---- any number of links

-- were the number even, the last step would go over a pair, and its end would not be free
pub odd_links : (g : Graph) (p : Partners) → Matching g p → (m : ℕ) (path : List ℕ) → Augmenting g p m path → m % 2 ≡ 1
odd_links g p matching m path h =
    ⊎_elim
    (λ odd. odd)
    (λ even. absurd (ends_taken (omega (arith, h.positive)) even))
    (cases_eq (m % 2) 1)
  where
    ends_taken : 0 < m → (m % 2 ≡ 1 → ⊥) → ⊥
    ends_taken some even =
        let same : (m - 1) + 1 ≡ m = omega arith in
        let step : p (at path (m - 1)) ≡ Some (at path ((m - 1) + 1)) = h.inside (m - 1) (omega arith) (omega arith) in
        let end : p (at path (m - 1)) ≡ Some (at path m) = step ∙ ap (λ (i : ℕ). Some (at path i)) same in
        free_taken (p (at path m)) (at path (m - 1)) h.ends (matching.returned (at path (m - 1)) (at path m) end)
