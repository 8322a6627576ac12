-- Where a text is cut: at the first byte that ends its front, or at its end.
use Rattle.std.proofs.Common.{◌≡◌, ℕ, ◌≤◌, Bool, true, false, cond, not, ltb, List, [], ◌∷◌, length, take, drop, Option, Some, None, refl, ap, ◌∙◌, ⊎_elim, one-add, arith}
use Rattle.std.specs.Option.{unwrap_or}
use Rattle.std.specs.List.{position_or_len, position}
use Rattle.std.proofs.lemmas.Bool.{cases_Bool}
use Rattle.std.proofs.lemmas.Bool.Decides.{nat_tests}
use Rattle.std.proofs.lemmas.List.Sums.{prefix_len-le-length}
use Rattle.text.specs.Words.{blank, unspaced, front, past}

place : (n len : ℕ) (b : Bool) → n ≤ len → ltb n len ≡ b → unwrap_or (cond b (Some n) None) len ≡ n
place n len true within inside = refl
place n len false within outside = grind (arith, nat_tests)

module _ (ends : ℕ → Bool) where
  pub place_is : (text : List ℕ) (r : Option ℕ) → r ≡ position ends text → unwrap_or r (length text) ≡ position_or_len ends text
  place_is text r found =
      ap (λ o. unwrap_or o (length text)) found
      ∙ place (position_or_len ends text) (length text) _ (prefix_len-le-length (λ b. not (ends b)) text) refl

  pub front_is : (text : List ℕ) → take (position_or_len ends text) text ≡ front ends text
  front_is [] = refl
  front_is (b ∷ bs) =
      ⊎_elim
      (λ (here : ends b ≡ true). rw here refl)
      (λ (other : ends b ≡ false). rw (other, one-add) (ap (λ l. b ∷ l) (front_is bs)))
      (cases_Bool (ends b))

  pub past_is : (text : List ℕ) → drop (position_or_len ends text) text ≡ past ends text
  past_is [] = refl
  past_is (b ∷ bs) =
      ⊎_elim
      (λ (here : ends b ≡ true). rw here refl)
      (λ (other : ends b ≡ false). rw (other, one-add) (past_is bs))
      (cases_Bool (ends b))

pub unspaced_is : (text : List ℕ) → past (λ b. not (blank b)) text ≡ unspaced text
unspaced_is [] = refl
unspaced_is (b ∷ bs) =
    ⊎_elim
    (λ (space : blank b ≡ true). rw space (unspaced_is bs))
    (λ (other : blank b ≡ false). rw other refl)
    (cases_Bool (blank b))
