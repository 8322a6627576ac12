-- Tables in which nothing is recorded.
use Rattle.std.proofs.Common.{◌≡◌, ℕ, ◌/◌, ◌%◌, false, get_or, replicate, sym, refl, ap, ◌∙◌, ⊎_elim, arith}
use Rattle.std.proofs.lemmas.List.{get_or-replicate, get_or_past, length-replicate}
use Rattle.std.proofs.lemmas.Bool.{cases_lt}
use Rattle.graph.proofs.Counts.{count_none}
use Rattle.bits.specs.Bit.{bit}
use Rattle.bits.proofs.Bitwise.{bit_zero}
use Rattle.tables.specs.declared.Record.{Record}
use Rattle.tables.specs.declared.LoadSet.{LoadSet}
use Rattle.tables.specs.Views.{has, blank, empty, New}

-- the value that stands everywhere is also what stands past the end
get_all : {A : Type 0} (n i : ℕ) (a : A) → get_or (replicate n a) i a ≡ a
get_all n i a = ⊎_elim (get_or-replicate n i a a) (λ h. get_or_past (replicate n a) i a (omega (arith, length-replicate n a))) (cases_lt i n)

module _ (m n : ℕ) where
  zeros : LoadSet
  zeros = record { words = replicate m 0 }

  no_member : (b : ℕ) → has zeros b ≡ false
  unfolding zeros
  no_member b = ap (λ (w : ℕ). bit w (b % 64)) (get_all m (b / 64) 0) ∙ bit_zero (b % 64)

  no_free : (a b : ℕ) → has (get_or (replicate n zeros) a empty) b ≡ false
  unfolding zeros
  no_free a b = ⊎_elim
      (λ h. ap (λ (s : LoadSet). has s b) (get_or-replicate n a zeros empty h) ∙ no_member b)
      (λ h. ap (λ (s : LoadSet). has s b) (get_or_past (replicate n zeros) a empty (omega (arith, length-replicate n zeros))) ∙ bit_zero (b % 64))
      (cases_lt a n)

  pub new_tables : New (record { records = replicate n blank; free = replicate n (record { words = replicate m 0 }) })
  unfolding zeros
  new_tables = record {
    partners = λ i a. (get_all n a blank i).partner;
    agrees = λ k. record {
      tracks = record {
        degrees = λ a. ap (λ (r : Record). r.degree) (get_all n a blank) ∙ sym (count_none k (λ _. false) (λ _ _. refl));
        sets = no_free;
        counts = λ a. ap (λ (r : Record). r.free_degree) (get_all n a blank) ∙ sym (count_none k (λ _. false) (λ _ _. refl));
      };
      beyond = λ a _. ap (λ (r : Record). r.partner) (get_all n a blank);
    };
  }
