-- What a client learns of an answer.
use Rattle.std.specs.Prelude.{◌≡◌, ℕ, Ok, Result}
use Rattle.links.specs.declared.refusal.Refused.{Refused}
use Rattle.links.specs.Books.{by_book}
use Rattle.links.specs.Refusals.{Answers}

-- the first call is granted, and the second refused by the book with this number
pub record GrantedThenRefused (number : ℕ) (first second : Result Unit Refused) : Type 0 where
  pub granted : first ≡ Ok tt
  pub refused : Answers (by_book number) second (λ _. ⊥)
