-- A light load is displaced, or a path is taken.
use Rattle.std.proofs.Common.{◌≡◌, ℕ, ◌<◌, Bool, true, false, ◌&&◌, ltb, is_some, Some, None, Option, sym, refl, ap, ◌∙◌, subst, arith}
use Rattle.std.proofs.lemmas.Bool.{and_parts, and_left, lt-ltb, cond-true, cond-false, true≢false}
use Rattle.std.proofs.lemmas.Bool.Decides.{nat_tests}
use Rattle.graph.specs.Graph.{Graph, Simple, degree}
use Rattle.graph.specs.Matching.{Partners, Free, Matching}
use Rattle.graph.specs.Pairs.{is_free}
use Rattle.graph.proofs.Partners.{none_is}
use Rattle.rules.specs.Repair.{Ranking, paired, any_below, ends_path, begins_path, light_partner, path_start_of, augmented_from, augment, displaced, displaced_from, light_start_of, displace, improved, improve}
use Rattle.rules.proofs.First.{first_found}
use Rattle.tables.specs.declared.Tables.{Tables}
use Rattle.tables.specs.Views.{partners_of, degree_of, Agrees}
use Rattle.tables.specs.Changes.{Replacing}
use Rattle.tables.proofs.Firsts.{first_nowhere, none_counted}
use Rattle.repair.specs.Holds.{Holds, Changes, Augments}
use Rattle.repair.proofs.Taking.{freed_here, takes}

module _ (before : Ranking) (n : ℕ) (g : Graph) (a : ℕ) {s : Tables} (k : Agrees g s) (m : Matching g (partners_of s)) where
  abbrev p : Partners
  p = partners_of s

  module _ (many : n < degree_of s a) where
    displace_many : (o : Option ℕ) → light_start_of before n g p a ≡ o → displace before n g a p ≡ displaced_from before n g p a o
    displace_many o e = cond-true (ltb n (degree g a)) _ _ (lt-ltb n (degree g a) (subst (λ (d : ℕ). n < d) (k.tracks.degrees a) many)) ∙ ap (displaced_from before n g p a) e

    module _ (x : ℕ) (start : light_start_of before n g p a ≡ Some x) where
      displace_at : (o : Option ℕ) → p x ≡ o → displace before n g a p ≡ displaced before n g p a x o
      displace_at o e = displace_many (Some x) start ∙ ap (displaced before n g p a x) e

      pub displace_pair : Simple g → (y : ℕ) {r : Bool} {u t : Tables} → p x ≡ Some y → Free p a → Replacing g a x y s u → Augments before g y r u t → Holds g (displace before n g a p) t
      displace_pair simple y {r} {u} {t} pair free-a replaced augments =
          let at_x = first_found (before a) g.size (λ z. g.linked a z && light_partner g n (p z)) x start in
          let (link, _) = and_parts (g.linked a x) (light_partner g n (p x)) at_x.passes in
          let taken = takes g simple a x y k m replaced free-a link pair in
          let free-y = ap (λ (q : Partners). q y) taken.partners ∙ freed_here y (paired a x p) in
          subst (λ (q : Partners). Holds g q t) (ap (augment before g y) taken.partners ∙ sym (displace_at (Some y) pair))
          (augments free-y taken.agrees taken.matching).holds

  -- ---- one load of the second phase

  -- a load with a partner keeps it
  pub improve_taken : is_free p a ≡ false → Holds g (improve before n g a p) s
  improve_taken taken = record { partners = sym (cond-false (is_free p a) _ _ taken); agrees = k; matching = m }

  module _ (free : is_free p a ≡ true) where
    improve_by : (o : Option ℕ) → path_start_of before g p a ≡ o → improve before n g a p ≡ improved before n g p a o
    improve_by o e = cond-true (is_free p a) _ _ free ∙ ap (improved before n g p a) e

    pub improve_other : {r : Bool} {u t : Tables} → r ≡ false → Augments before g a r s u →
        (Free (partners_of u) a → Changes g (displace before n g a) u t) → Holds g (improve before n g a p) t
    improve_other {r} {u} {t} no-path augments displaces =
        let done = augments (none_is (p a) free) k m in
        let start = not_some (path_start_of before g p a) (sym done.found ∙ no-path) in
        let same : partners_of u ≡ p = done.holds.partners ∙ ap (augmented_from before g p a) start in
        subst (λ (q : Partners). Holds g q t) (ap (displace before n g a) same ∙ sym (improve_by None start))
        (displaces (ap (λ (q : Partners). q a) same ∙ none_is (p a) free) done.holds.agrees done.holds.matching)
      where
        not_some : (o : Option ℕ) → is_some o ≡ false → o ≡ None
        not_some None e = refl
        not_some (Some b) e = absurd (true≢false e)

    -- a load without links stays as it is
    pub improve_alone : Simple g → degree_of s a ≡ 0 → Holds g (improve before n g a p) s
    improve_alone simple none =
        let alone = none_counted g.size (g.linked a) (sym (k.tracks.degrees a) ∙ none) in
        let no-start = first_nowhere (before a) g.size (begins_path g p a) (λ x below. and_left (g.linked a x) (any_below g.size (ends_path g p a (p x))) (alone x below)) in
        let few : ltb n (degree g a) ≡ false = let degree-none = sym (k.tracks.degrees a) ∙ none in grind (arith, nat_tests) in
        record {
          partners = sym (improve_by None no-start ∙ cond-false (ltb n (degree g a)) _ _ few);
          agrees = k;
          matching = m;
        }
