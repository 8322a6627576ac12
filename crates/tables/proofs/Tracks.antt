-- Tables that go on tracking a graph.
use Rattle.std.proofs.Common.{◌≡◌, ℕ, ◌<◌, ◌≤◌, Bool, true, false, cond, not, ◌&&◌, eqb, sym, refl, ap, ◌∙◌, subst, ap₂, arith}
use mathlib.Core.Path.{fun_ext}
use Rattle.std.proofs.lemmas.Bool.{eq-eqb, ne_eqb, eqb-true, and_parts, and_left, cond-true, cond-false, false≢true}
use Rattle.graph.specs.Graph.{Graph, Simple, count}
use Rattle.graph.proofs.Counts.{count_more, count_le}
use Rattle.tables.specs.declared.Tables.{Tables}
use Rattle.tables.specs.Views.{Tracks}
use Rattle.tables.specs.Steps.{stepped, Stepped}
use Rattle.tables.specs.Changes.{relinked}
use Rattle.tables.proofs.Steps.{and_on}

-- ---- counts of a test that is put to `on` at one number

put_count : (n : ℕ) (p : ℕ → Bool) (on : Bool) (b : ℕ) → n ≤ 256 → b < n → p b ≡ not on → count n (λ z. cond (eqb b z) on (p z)) ≡ stepped on (count n p)
put_count n p true b small inside was =
    let more = count_more n p (λ z. cond (eqb b z) true (p z)) b inside was (cond-true (eqb b b) true (p b) (eq-eqb b b refl))
    (λ k _ ne. cond-false (eqb b k) true (p k) (ne_eqb b k (λ e. ne (sym e)))) in
    omega (arith, more, count_le n p)
put_count n p false b small inside was =
    let more = count_more n (λ z. cond (eqb b z) false (p z)) p b inside (cond-true (eqb b b) false (p b) (eq-eqb b b refl)) was
    (λ k _ ne. sym (cond-false (eqb b k) false (p k) (ne_eqb b k (λ e. ne (sym e))))) in
    omega (arith, more)

row_count : (n : ℕ) (p : ℕ → Bool) (c on : Bool) (b : ℕ) → n ≤ 256 → (c ≡ true → (b < n) × (p b ≡ not on)) →
    count n (λ z. cond (c && eqb b z) on (p z)) ≡ cond c (stepped on (count n p)) (count n p)
row_count n p true on b small was = put_count n p on b small (was refl).0 (was refl).1
row_count n p false on b small was = refl

-- ---- a step, and the graph and the free loads after it

module _ (g : Graph) (small : g.size ≤ 256) (free : ℕ → Bool) (after : ℕ → ℕ → Bool) (free-after : ℕ → Bool) (on : Bool) (linked told : ℕ → Bool) (b : ℕ) where
  pub steps_track : ((y z : ℕ) → after y z ≡ cond (linked y && eqb b z) on (g.linked y z)) →
      ((y z : ℕ) → (after y z && free-after z) ≡ cond (told y && eqb b z) on (g.linked y z && free z)) →
      ((y : ℕ) → linked y ≡ true → (b < g.size) × (g.linked y b ≡ not on)) →
      ((y : ℕ) → told y ≡ true → (b < g.size) × ((g.linked y b && free b) ≡ not on)) →
      {s t : Tables} → Stepped on linked told b s t → Tracks g free s → Tracks (record { size = g.size; linked = after }) free-after t
  steps_track links-are free-are links-were free_were {s} {t} h k = record {
    degrees = λ y. h.degrees y
        ∙ ap (λ (n : ℕ). cond (linked y) (stepped on n) n) (k.degrees y)
        ∙ sym (row_count g.size (g.linked y) (linked y) on b small (links-were y))
        ∙ ap (count g.size) (fun_ext (λ z. sym (links-are y z)));
    sets = λ y z. h.sets y z ∙ ap (cond (told y && eqb b z) on) (k.sets y z) ∙ sym (free-are y z);
    counts = λ y. h.counts y
        ∙ ap (λ (n : ℕ). cond (told y) (stepped on n) n) (k.counts y)
        ∙ sym (row_count g.size (λ z. g.linked y z && free z) (told y) on b small (free_were y))
        ∙ ap (count g.size) (fun_ext (λ z. sym (free-are y z)));
  }

-- ---- one load becomes free, or is no longer

shut : (l m f on e : Bool) → (e ≡ true → l ≡ m) → (l && cond e on f) ≡ cond (m && e) on (l && f)
shut l m f on e h = grind arith

pub told_track : (g : Graph) → Simple g → (free : ℕ → Bool) (on : Bool) (a : ℕ) → free a ≡ not on → {s t : Tables} →
    Stepped on (λ _. false) (g.linked a) a s t → Tracks g free s → Tracks g (λ z. cond (eqb a z) on (free z)) t
told_track g simple free on a was h k =
    steps_track g simple.small free g.linked (λ z. cond (eqb a z) on (free z)) on (λ _. false) (g.linked a) a
    (λ y z. refl)
    (λ y z. shut (g.linked y z) (g.linked a y) (free z) on (eqb a z) (λ e. ap (g.linked y) (sym (eqb-true a z e)) ∙ simple.symmetric y a))
    (λ y e. absurd (false≢true e))
    (λ y e. (simple.below a y e, ap₂ (λ (l f : Bool). l && f) (simple.symmetric y a ∙ e) was))
    h k

-- ---- one load gets or loses a link to another, and then the other to it

abbrev half : Bool → ℕ → ℕ → (ℕ → ℕ → Bool) → ℕ → ℕ → Bool
half on a b linked x y = cond (eqb a x && eqb b y) on (linked x y)

met : (l c on e f fb : Bool) → (e ≡ true → f ≡ fb) → (cond (c && e) on l && f) ≡ cond ((c && fb) && e) on (l && f)
met l c on e f fb h = grind arith

half_track : (g : Graph) → g.size ≤ 256 → (free : ℕ → Bool) (on : Bool) (a b : ℕ) → b < g.size → g.linked a b ≡ not on → {s t : Tables} →
    Stepped on (eqb a) (λ y. eqb a y && free b) b s t → Tracks g free s → Tracks (record { size = g.size; linked = half on a b g.linked }) free t
half_track g small free on a b inside was h k =
    let row : (y : ℕ) → eqb a y ≡ true → g.linked y b ≡ not on = λ y e. ap (λ (x : ℕ). g.linked x b) (sym (eqb-true a y e)) ∙ was in
    steps_track g small free (half on a b g.linked) free on (eqb a) (λ y. eqb a y && free b) b
    (λ y z. refl)
    (λ y z. met (g.linked y z) (eqb a y) on (eqb b z) (free z) (free b) (λ e. ap free (sym (eqb-true b z e))))
    (λ y e. (inside, row y e))
    (λ y e. let (here, free-b) = and_parts (eqb a y) (free b) e in (inside, and_on (g.linked y b) (free b) free-b ∙ row y here))
    h k

both_halves : (on : Bool) (g : Graph) (a b x y : ℕ) → half on b a (half on a b g.linked) x y ≡ (relinked on g a b).linked x y
both_halves true g a b x y = grind arith
both_halves false g a b x y = grind arith

pub relinked_track : (on : Bool) (g : Graph) → Simple g → (free : ℕ → Bool) (a b : ℕ) → a < g.size → b < g.size → (a ≡ b → ⊥) → g.linked a b ≡ not on → {s u t : Tables} →
    Stepped on (eqb a) (λ y. eqb a y && free b) b s u → Stepped on (eqb b) (λ y. eqb b y && free a) a u t → Tracks g free s → Tracks (relinked on g a b) free t
relinked_track on g simple free a b in-a in_b apart was {s} {u} {t} first second k =
    let back : half on a b g.linked b a ≡ not on =
    cond-false (eqb a b && eqb b a) on (g.linked b a) (and_left (eqb a b) (eqb b a) (ne_eqb a b apart)) ∙ simple.symmetric b a ∙ was in
    subst (λ (h : Graph). Tracks h free t) (same on)
    (half_track (record { size = g.size; linked = half on a b g.linked }) simple.small free on b a in-a back second (half_track g simple.small free on a b in_b was first k))
  where
    same : (up : Bool) → ◌≡◌ {A = Graph} (record { size = g.size; linked = half up b a (half up a b g.linked) }) (relinked up g a b)
    same true = λ i. record { size = g.size; linked = λ x y. both_halves true g a b x y i }
    same false = λ i. record { size = g.size; linked = λ x y. both_halves false g a b x y i }
