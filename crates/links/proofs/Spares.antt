-- The spares of the loads of a book in which each load may have the same number of links, with a link more or less.
use Rattle.std.proofs.Common.{◌≡◌, ℕ, ◌+◌, ◌-◌, ◌<◌, ◌≤◌, Bool, true, false, cond, ◌||◌, eqb, ltb, ⊎_elim, arith}
use Rattle.std.proofs.lemmas.Bool.{cases_lt, lt-ltb, le-ltb, ne_eqb, or_from}
use Rattle.graph.specs.Graph.{Graph, Simple, added, removed, degree}
use Rattle.graph.proofs.Changes.{degree_added, degree_removed}
use Rattle.links.proofs.Reasons.{TwoLoads}

-- how many of `most` links each load has left
abbrev pub left : Graph → ℕ → ℕ → ℕ
left g most x = cond (ltb x g.size) (most - degree g x) 0

module _ (g : Graph) (simple : Simple g) (most a b : ℕ) (two : TwoLoads g.size a b) where
  pub left_less : g.linked a b ≡ false → (x : ℕ) → left (added g a b) most x ≡ left g most x - cond (eqb a x || eqb b x) 1 0
  left_less off x = less (degree g x) (degree (added g a b) x) (ltb x g.size) (eqb a x || eqb b x) (degree_added g a b simple two.apart two.a_below two.b_below off x)
    where
      less : (d e : ℕ) (t c : Bool) → e ≡ d + cond c 1 0 → cond t (most - e) 0 ≡ cond t (most - d) 0 - cond c 1 0
      less d e true true h = omega arith
      less d e true false h = omega arith
      less d e false true h = omega arith
      less d e false false h = omega arith

  pub left_more : g.linked a b ≡ true → ((x : ℕ) → x < g.size → degree g x ≤ most) → (x : ℕ) → left (removed g a b) most x ≡ left g most x + cond (eqb a x || eqb b x) 1 0
  left_more on within x =
      ⊎_elim
      (λ l. rw (lt-ltb x g.size l) (more (degree g x) (degree (removed g a b) x) (eqb a x || eqb b x) (degree_removed g a b simple two.apart two.a_below two.b_below on x) (within x l)))
      (λ l. rw (le-ltb x g.size l, or_from (eqb a x) (eqb b x) (ne_eqb a x (λ e. omega (arith, two.a_below))) (ne_eqb b x (λ e. omega (arith, two.b_below)))))
      (cases_lt x g.size)
    where
      more : (d e : ℕ) (c : Bool) → d ≡ e + cond c 1 0 → d ≤ most → most - e ≡ (most - d) + cond c 1 0
      more d e true h l = omega arith
      more d e false h l = omega arith
