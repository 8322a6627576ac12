-- GivesNext whose steps go over the pairs of two matchings in turn.
use Rattle.std.proofs.Common.{◌≡◌, ℕ, zero, suc, ◌+◌, ◌-◌, ◌*◌, ◌/◌, ◌%◌, ◌<◌, ◌≤◌, List, ◌∷◌, length, Some, true, refl, add-one, inl, inr, arith}
use Rattle.std.proofs.lemmas.Bool.{cases_eq}
use Rattle.graph.specs.Graph.{Graph, Simple}
use Rattle.graph.specs.Matching.{Partners, Free, Matching, at, Augmenting}
use Rattle.graph.proofs.Partners.{partner_single}
use Rattle.graph.proofs.Paths.{free_taken, linked_apart}

-- the matching of step j: q at the even steps, p at the odd ones
abbrev pub in_turn : Partners → Partners → ℕ → Partners
in_turn q p zero = q
in_turn q p (suc j) = in_turn p q j

-- m steps, each over a pair of the matching of its turn
pub record Alternating (q p : Partners) (m : ℕ) (path : List ℕ) : Type 0 where
  pub step : (j : ℕ) → j < m → in_turn q p j (at path j) ≡ Some (at path (suc j))

pub prepend : (q p : Partners) (m x : ℕ) (path : List ℕ) → q x ≡ Some (at path 0) → Alternating p q m path → Alternating q p (suc m) (x ∷ path)
prepend q p m x path first w = record { step = step }
  where
    step : (j : ℕ) → j < suc m → in_turn q p j (at (x ∷ path) j) ≡ Some (at path j)
    step zero l = first
    step (suc j) l = w.step j (omega arith)

in_turn_same : (q p : Partners) (i j d : ℕ) → j ≡ i + 2 * d → in_turn q p j ≡ in_turn q p i
in_turn_same q p i j zero far = let same : j ≡ i = omega arith in rw same refl
in_turn_same q p i j (suc d) far =
    let two : j ≡ suc (suc (i + 2 * d)) = omega arith in rw two (in_turn_same q p i (i + 2 * d) d refl)

in_turn_odd : (q p : Partners) (j : ℕ) → j % 2 ≡ 1 → in_turn q p j ≡ p
in_turn_odd q p j odd = in_turn_same q p 1 j (j / 2) (omega arith)

in_turn_matching : (g : Graph) (q p : Partners) → Matching g q → Matching g p → (j : ℕ) → Matching g (in_turn q p j)
in_turn_matching g q p mq mp zero = mq
in_turn_matching g q p mq mp (suc j) = in_turn_matching g p q mp mq j

module _ (g : Graph) (s : Simple g) (q p : Partners) (mq : Matching g q) (mp : Matching g p) (m : ℕ) (path : List ℕ) (w : Alternating q p m path) (free : Free p (at path 0)) where
  turn : (j : ℕ) → Matching g (in_turn q p j)
  turn = in_turn_matching g q p mq mp

  link : (j : ℕ) → j < m → g.linked (at path j) (at path (suc j)) ≡ true
  link j l = let t = turn j in t.linked (at path j) (at path (suc j)) (w.step j l)

  back : (j : ℕ) → j < m → in_turn q p j (at path (suc j)) ≡ Some (at path j)
  back j l = let t = turn j in t.returned (at path j) (at path (suc j)) (w.step j l)

  -- if two loads at an odd distance were the same, so would be their neighbours between them
  odd_apart : (d i j : ℕ) → j ≡ suc (i + 2 * d) → j ≤ m → at path i ≡ at path j → ⊥
  odd_apart d i zero far l same = absurd (omega arith)
  odd_apart zero i (suc j) far l same =
      let next : j ≡ i = omega arith in
      linked_apart g s (at path i) (at path (suc i)) (link i (omega arith)) (rw next at same)
  odd_apart (suc d) i (suc j) far l same =
      let first = w.step i (omega arith) in
      let last = back j (omega arith) in
      let one = in_turn_same q p i j (suc d) (omega arith) in
      odd_apart d (suc i) j (omega arith) (omega arith) (cc)

  -- if two loads at an even distance were the same, so would be the loads before them, back to the free load
  even_apart : (d i j : ℕ) → j ≡ i + 2 * suc d → j ≤ m → at path i ≡ at path j → ⊥
  even_apart d i zero far l same = absurd (omega arith)
  even_apart d zero (suc j) far l same =
      let last = back j (omega arith) in
      let odd = in_turn_odd q p j (omega arith) in
      free_taken (p (at path 0)) (at path j) free (cc)
  even_apart d (suc i) (suc j) far l same =
      let first = w.step i (omega arith) in
      let last = w.step j (omega arith) in
      let one = in_turn_same q p i j (suc d) (omega arith) in
      even_apart d i j (omega arith) (omega arith) (partner_single g (in_turn q p i) (turn i) (at path i) (at path j) (at path (suc i)) first (cc))

  different : (i j : ℕ) → i < j → j ≤ m → at path i ≡ at path j → ⊥
  different i j l h = elim (cases_eq ((j - i) % 2) 1) [
    | inl odd ↦ odd_apart ((j - i) / 2) i j (omega arith) h
    | inr even ↦ even_apart ((j - i) / 2 - 1) i j (omega arith) h
  ]

  over_p : (j : ℕ) → j < m → j % 2 ≡ 1 → p (at path j) ≡ Some (at path (suc j))
  over_p j l odd = let turn = in_turn_odd q p j odd in let step = w.step j l in cc

  -- an even step does not go over a pair of p: that would lead back to the load before, or from a free load
  not_over_p : (j : ℕ) → j < m → j % 2 ≡ 0 → p (at path j) ≡ Some (at path (suc j)) → ⊥
  not_over_p zero l even on = free_taken (p (at path 0)) (at path 1) free on
  not_over_p (suc j) l even on =
      let before = mp.returned (at path j) (at path (suc j)) (over_p j (omega arith) (omega arith)) in
      different j (suc (suc j)) (omega arith) (omega arith) (cc)

  pub augmenting : length path ≡ m + 1 → 0 < m → Free p (at path m) → Augmenting g p m path
  augmenting loads positive ends = record {
    positive = positive;
    loads = loads;
    different = different;
    begins = free;
    ends = ends;
    links = λ j l. rw add-one (link j l);
    outside = λ j l even. rw add-one (not_over_p j l even);
    inside = λ j l odd. rw add-one (over_p j l odd);
  }
