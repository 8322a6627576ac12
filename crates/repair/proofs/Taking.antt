-- Partners that are parted and paired anew along a path.
use Rattle.std.proofs.Common.{◌≡◌, ℕ, ◌<◌, true, not, eqb, is_some, Some, None, Option, sym, refl, ap, ◌∙◌, subst, inl, inr, arith}
use Rattle.std.proofs.lemmas.Bool.{and_parts, eqb-false, not-true}
use Rattle.std.proofs.lemmas.Bool.Decides.{nat_tests}
use Rattle.graph.specs.Graph.{Graph, Simple}
use Rattle.graph.specs.Matching.{Partners, Free, Matching}
use Rattle.graph.specs.Pairs.{is_free}
use Rattle.graph.proofs.Partners.{none_is}
use Rattle.graph.proofs.Paths.{free_apart, linked_apart}
use Rattle.rules.specs.Repair.{Ranking, paired, freed, paired_found, any_below, free_link, ends_path, begins_path, exchanged, augmented_from, augment}
use Rattle.rules.proofs.First.{first_found}
use Rattle.rules.proofs.Updates.{paired_other, paired_matching, freed_two, freed_other, freed_matching, exchange_is, displace_is}
use Rattle.tables.specs.declared.Tables.{Tables}
use Rattle.tables.specs.Views.{partners_of, Agrees}
use Rattle.tables.specs.Changes.{Exchanging, Replacing}
use Rattle.repair.specs.Paths.{FirstPath}
use Rattle.repair.specs.Holds.{Holds, Augmented}

-- ---- a takes x from its partner y

pub freed_here : (y : ℕ) (p : Partners) → freed y p y ≡ None
freed_here y p = grind (arith, nat_tests)

-- a load that is linked stands in the tables
small : (g : Graph) → Simple g → (a b : ℕ) → g.linked a b ≡ true → a < 256
small g simple a b link = omega (arith, simple.small, simple.below a b link)

pub takes : (g : Graph) → Simple g → (a x y : ℕ) {s t : Tables} → Agrees g s → Matching g (partners_of s) → Replacing g a x y s t →
    Free (partners_of s) a → g.linked a x ≡ true → partners_of s x ≡ Some y → Holds g (freed y (paired a x (partners_of s))) t
takes g simple a x y {s} {t} k m replaced free-a link pair =
    let p = partners_of s in
    let back = m.returned x y pair in
    let a≢x = linked_apart g simple a x link in
    let a≢y = free_apart p a y x free-a back in
    let x≢y = linked_apart g simple x y (m.linked x y pair) in
    let same = replaced.partners (small g simple a x link) (small g simple x a (simple.symmetric x a ∙ link)) (small g simple y x (m.linked y x back)) in
    record {
      partners = same;
      agrees = replaced.agrees (simple.below a x link) free-a pair back k;
      matching = subst (Matching g) (sym (same ∙ displace_is a x y p a≢y x≢y))
          (paired_matching g simple (freed x (freed y p)) (freed_matching g p m x y pair) a x
          (freed_other x y p a a≢x a≢y ∙ free-a) (freed_two x y p x (inl refl)) link);
    }

-- ---- a path is taken

exchange_matching : (g : Graph) → Simple g → (p : Partners) → Matching g p → (a x y z : ℕ) → Free p a → g.linked a x ≡ true → p x ≡ Some y →
    g.linked y z ≡ true → Free p z → (a ≡ z → ⊥) → Matching g (paired y z (paired a x p))
exchange_matching g simple p m a x y z free-a link_x pair link_z free_z a≢z =
    let back = m.returned x y pair in
    let a≢x = linked_apart g simple a x link_x in
    let a≢y = free_apart p a y x free-a back in
    let x≢y = linked_apart g simple x y (m.linked x y pair) in
    let z≢x = free_apart p z x y free_z pair in
    let z≢y = free_apart p z y x free_z back in
    let q = freed x (freed y p) in
    let parted = freed_matching g p m x y pair in
    let first = paired_matching g simple q parted a x (freed_other x y p a a≢x a≢y ∙ free-a) (freed_two x y p x (inl refl)) link_x in
    subst (Matching g) (sym (exchange_is a x y z p))
    (paired_matching g simple (paired a x q) first y z
    (paired_other a x q y (λ e. a≢y (sym e)) (λ e. x≢y (sym e)) ∙ freed_two x y p y (inr refl))
    (paired_other a x q z (λ e. a≢z (sym e)) z≢x ∙ freed_other x y p z z≢x z≢y ∙ free_z) link_z)

module _ (before : Ranking) (g : Graph) (simple : Simple g) (a : ℕ) (s : Tables) (free-a : Free (partners_of s) a) (k : Agrees g s) (m : Matching g (partners_of s)) where
  pub augmented_some : (x y z : ℕ) {t : Tables} → FirstPath before g (partners_of s) a x y z → Exchanging g a x y z s t →
      Augmented before g (partners_of s) a true t
  augmented_some x y z {t} path change =
      let p = partners_of s in
      let at_x = first_found (before a) g.size (begins_path g p a) x path.start in
      let (link_x, _) = and_parts (g.linked a x) (any_below g.size (ends_path g p a (p x))) at_x.passes in
      let at-z = first_found (before y) g.size (ends_path g p a (Some y)) z path.end in
      let (free-link-z, other) = and_parts (free_link g p y z) (not (eqb z a)) at-z.passes in
      let (link_z, is-free-z) = and_parts (g.linked y z) (is_free p z) free-link-z in
      let free_z = none_is (p z) is-free-z in
      let a≢z : a ≡ z → ⊥ = λ e. eqb-false z a (not-true (eqb z a) other) (sym e) in
      let back = m.returned x y path.pair in
      let taken : augment before g a p ≡ paired y z (paired a x p) =
      ap (augmented_from before g p a) path.start ∙ ap (exchanged before g p a x) path.pair ∙ ap (λ (o : Option ℕ). paired_found y o (paired a x p)) path.end in
      let same = change.partners (small g simple a x link_x) (small g simple x a (simple.symmetric x a ∙ link_x)) (small g simple y z link_z)
      (small g simple z y (simple.symmetric z y ∙ link_z)) in
      record {
        found = sym (ap (λ (o : Option ℕ). is_some o) path.start);
        holds = record {
          partners = same ∙ sym taken;
          agrees = change.agrees (simple.below a x link_x) (simple.below z y (simple.symmetric z y ∙ link_z)) a≢z free-a free_z path.pair back k;
          matching = subst (Matching g) (sym same) (exchange_matching g simple p m a x y z free-a link_x path.pair link_z free_z a≢z);
        };
      }
