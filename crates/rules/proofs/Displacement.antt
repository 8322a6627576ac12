-- A free load of more than t links, all to loads with partners, is linked to one whose partner has at most t.
use Rattle.std.proofs.Common.{◌≡◌, ℕ, suc, ◌*◌, ◌<◌, ◌≤◌, Bool, true, false, Some, None, Option, refl, mul-le-mul_right, arith}
use Rattle.std.proofs.lemmas.Bool.{both_ways}
use Rattle.graph.specs.Graph.{Graph, Simple, count, total, degree, link_count}
use Rattle.graph.specs.Matching.{Partners, Matching}
use Rattle.graph.proofs.Injections.{count_into, total_at_least, handshake}
use Rattle.graph.proofs.Partners.{partner_single, partner_below}

abbrev at_partner : (ℕ → Bool) → Option ℕ → Bool
at_partner test None = false
at_partner test (Some x) = test x

at_partner_is : (test : ℕ → Bool) (o : Option ℕ) → at_partner test o ≡ true → (x : ℕ) × (o ≡ Some x) × (test x ≡ true)
at_partner_is test None h = absurd (both_ways false refl h)
at_partner_is test (Some x) h = (x, refl, h)

-- were all those partners heavy, the degrees would add up to more than the square of t
pub all_heavy : (g : Graph) → Simple g → (t : ℕ) → 2 * link_count g ≤ t * t → (p : Partners) → Matching g p →
    (a : ℕ) → t < degree g a →
    ((x : ℕ) → g.linked a x ≡ true → (y : ℕ) × (p x ≡ Some y) × (t < degree g y)) → ⊥
all_heavy g s t few p m a over heavy =
    let shake = handshake g s in
    let partners : ℕ → Bool = λ y. at_partner (g.linked a) (p y) in
    let many : degree g a ≤ count g.size partners = count_into (λ x y. p x ≡ Some y) g.size g.size (g.linked a) partners
    (λ x l e.
    let (y, k, d) = heavy x e in
    let back = m.returned x y k in
    (y, partner_below g p m s x y k, rw back e, k))
    (partner_single g p m) in
    let sum : count g.size partners * suc t ≤ total g.size (degree g) = total_at_least g.size (suc t) partners (degree g)
    (λ y l e.
    let (x, k, i) = at_partner_is (g.linked a) (p y) e in
    let (z, j, d) = heavy x i in
    let back = m.returned y x k in
    let same : z ≡ y = cc in rw (← same) d) in
    let past : suc t ≤ count g.size partners = omega arith in
    omega (arith, mul-le-mul_right (suc t) past)
