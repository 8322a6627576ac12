-- Spares and room follow the links.
use Rattle.std.proofs.Common.{◌≡◌, ℕ, ◌+◌, ◌<◌, ◌≤◌, ◌||◌, eqb, Some, None, Option, refl, ◌∙◌, inl, inr, arith}
use Rattle.std.proofs.lemmas.Bool.{cases_Bool, or_cases, eqb-true}
use Rattle.graph.specs.Graph.{Graph, Simple, degree, link_count, added, removed}
use Rattle.graph.specs.Isolated.{isolated}
use Rattle.graph.specs.Matching.{Partners}
use Rattle.graph.proofs.Changes.{link_count_added, degree_added, link_count_removed, degree_removed, link_count_isolated, degree_isolated, isolated_simple}
use Rattle.links.specs.Books.{Ledger, Bounded, lowered, raised}
use Rattle.links.proofs.Reasons.{Addable, Removable}
use Rattle.rules.specs.Calls.{Position, released, isolated_two, released_two}
use Rattle.rules.specs.Health.{Follows}
use Rattle.rules.proofs.Repair.{past_degree}

pub follows_self : (x : Position) → Follows x x
follows_self x = record { size = refl; limit = refl; barred = refl; spares = λ a. refl; room = refl }

pub follows_on : (x y z : Position) → Follows x y → Follows y z → Follows x z
follows_on x y z f h = record {
  size = h.size ∙ f.size;
  limit = h.limit ∙ f.limit;
  barred = h.barred ∙ f.barred;
  spares = λ a. h.spares a ∙ f.spares a;
  room = h.room ∙ f.room;
}

-- where the ledger follows the links and these are within the limit, it stays what it was made for
pub follows_bounded : (x y : Position) → Simple x.graph → Simple y.graph → Bounded x.graph x.ledger → Follows x y →
    link_count y.graph ≤ x.ledger.limit → Bounded y.graph y.ledger
follows_bounded x y s s' b f within = record {
  limit_bound = rw f.limit b.limit_bound;
  within = rw f.limit within;
  barred_symmetric = λ u v. rw f.barred (b.barred_symmetric u v);
  barred_below = λ u v e. rw f.size (b.barred_below u v (rw f.barred at e));
  spare_below = λ a past.
      let was : x.graph.size ≤ a = rw f.size at past in
      let sum = f.spares a in
      let none = past_degree x.graph s a was in
      let none' = past_degree y.graph s' a past in
      let empty = b.spare_below a was in
      omega arith;
}

module _ (g : Graph) (s : Simple g) (l : Ledger) (p q : Partners) where
  abbrev now : Position
  now = record { graph = g; ledger = l; partners = p }

  pub link_follows : (a b : ℕ) → Addable g l a b → Follows now (record { graph = added g a b; ledger = lowered l a b; partners = q })
  link_follows a b k = let t = k.two in record {
    size = refl;
    limit = refl;
    barred = refl;
    spares = λ x.
        let up = degree_added g a b s t.apart t.a_below t.b_below k.off x in
        elim (cases_Bool (eqb a x || eqb b x)) [
          | inl on ↦
              let some : l.spare x ≡ 0 → ⊥ = λ e. elim (or_cases (eqb a x) (eqb b x) on)
              [ inl i ↦ k.spare_a (cc (eqb-true a x i)) | inr i ↦ k.spare_b (cc (eqb-true b x i)) ] in
              let up' : degree (added g a b) x ≡ degree g x + 1 = rw on at up in
              rw on (omega (arith, up', some))
          | inr off ↦ let up' : degree (added g a b) x ≡ degree g x + 0 = rw off at up in rw off (omega (arith, up'))
        ];
    room = omega (arith, k.room, link_count_added g a b s t.apart t.a_below t.b_below k.off);
  }

  pub unlink_follows : (a b : ℕ) → Removable g a b → Follows now (record { graph = removed g a b; ledger = raised l a b; partners = q })
  unlink_follows a b k = let t = k.two in record {
    size = refl;
    limit = refl;
    barred = refl;
    spares = λ x. omega (arith, degree_removed g a b s t.apart t.a_below t.b_below k.on x);
    room = omega (arith, link_count_removed g a b s t.apart t.a_below t.b_below k.on);
  }

  pub withdraw_follows : (a : ℕ) → a < g.size → Follows now (record { graph = isolated g a; ledger = released g l a; partners = q })
  withdraw_follows a below = record {
    size = refl;
    limit = refl;
    barred = refl;
    spares = λ x. omega (arith, degree_isolated g a x s below);
    room = omega (arith, link_count_isolated g a s below);
  }

pub depart_follows : (g : Graph) → Simple g → (l : Ledger) (p q : Partners) (a : ℕ) → a < g.size → (o : Option ℕ) → ((b : ℕ) → o ≡ Some b → b < g.size) →
    Follows (record { graph = g; ledger = l; partners = p }) (record { graph = isolated_two g a o; ledger = released_two g l a o; partners = q })
depart_follows g s l p q a below None partner = withdraw_follows g s l p q a below
depart_follows g s l p q a below (Some b) partner =
    let one : Position = record { graph = isolated g a; ledger = released g l a; partners = p } in
    let two : Position = record { graph = isolated (isolated g a) b; ledger = released (isolated g a) (released g l a) b; partners = q } in
    follows_on (record { graph = g; ledger = l; partners = p }) one two (withdraw_follows g s l p p a below)
    (withdraw_follows (isolated g a) (isolated_simple g a s) (released g l a) p q b (partner b refl))
