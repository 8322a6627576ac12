-- Decimal digits, byte by byte.
use Rattle.std.proofs.Common.{◌≡◌, ℕ, ◌+◌, ◌-◌, ◌*◌, ◌<◌, ◌≤◌, true, false, ◌&&◌, ltb, leb, List, [], ◌∷◌, length, get_or, drop, Some, None, sym, ap, ◌∙◌, arith}
use Rattle.std.specs.Str.Parse.{digits_value, digits_value_after}
use Rattle.std.specs.Char.{digit_value as digitValue, is_ascii_digit}
use Rattle.std.specs.Str.{all_ascii_digits}
use Rattle.std.proofs.lemmas.List.{at_drop_more, at_drop_all}
use Rattle.std.proofs.lemmas.Bool.{cond-true, cond-false, and_from, and_left, and_right, lt-ltb, le-leb, lt-leb}
use Rattle.std.proofs.lemmas.Bool.Decides.{nat_tests}
use Rattle.text.specs.Words.{number}

-- the first i bytes are digits that write n, and the others go on from there
pub record Numbered (digits : List ℕ) (i n : ℕ) : Type 0 where
  pub small : n ≤ 65535
  pub goes_on : digits_value 10 digits ≡ digits_value_after 10 n (drop i digits)
  pub all : all_ascii_digits digits ≡ all_ascii_digits (drop i digits)

value_grows : (n : ℕ) (digits : List ℕ) → n ≤ digits_value_after 10 n digits
value_grows n [] = omega arith
value_grows n (d ∷ ds) = omega (arith, value_grows (n * 10 + digitValue d) ds)

digit_value : (c : ℕ) → is_ascii_digit c ≡ true → digitValue c ≡ c - 48
digit_value c digit = grind (arith, nat_tests)

refused : (digits : List ℕ) → (all_ascii_digits digits && leb (digits_value 10 digits) 65535) ≡ false → None ≡ number digits
refused digits no_load = sym (cond-false (ltb 0 (length digits) && (all_ascii_digits digits && leb (digits_value 10 digits) 65535)) _ _ (and_right (ltb 0 (length digits)) _ no_load))

module _ (digits : List ℕ) (i n : ℕ) (so_far : Numbered digits i n) (inside : i < length digits) where
  -- a byte that is no digit
  pub numbered_no_digit : is_ascii_digit (get_or digits i 0) ≡ false → None ≡ number digits
  numbered_no_digit other =
      let none : all_ascii_digits digits ≡ false = so_far.all ∙ (at_drop_more all_ascii_digits digits i 0 inside ∙ ap (λ t. t && all_ascii_digits (drop (i + 1) digits)) other) in
      refused digits (and_left _ _ none)

  module _ (digit : is_ascii_digit (get_or digits i 0) ≡ true) where
    next_value : digits_value 10 digits ≡ digits_value_after 10 (n * 10 + (get_or digits i 0 - 48)) (drop (i + 1) digits)
    next_value = so_far.goes_on ∙ (at_drop_more (digits_value_after 10 n) digits i 0 inside ∙ ap (λ d. digits_value_after 10 (n * 10 + d) (drop (i + 1) digits)) (digit_value (get_or digits i 0) digit))

    -- a number that is too large already
    pub numbered_too_large : 65535 < n * 10 + (get_or digits i 0 - 48) → None ≡ number digits
    numbered_too_large large =
        refused digits (and_right (all_ascii_digits digits) _ (lt-leb (digits_value 10 digits) 65535 (omega (arith, next_value, value_grows (n * 10 + (get_or digits i 0 - 48)) (drop (i + 1) digits)))))

pub numbered_all : (digits : List ℕ) (i n : ℕ) → Numbered digits i n → length digits ≤ i → 0 < length digits → Some n ≡ number digits
numbered_all digits i n so_far over some =
    let all = so_far.all ∙ at_drop_all all_ascii_digits digits i over in
    let is : digits_value 10 digits ≡ n = so_far.goes_on ∙ at_drop_all (digits_value_after 10 n) digits i over in
    ap Some (sym is) ∙ sym (cond-true (ltb 0 (length digits) && (all_ascii_digits digits && leb (digits_value 10 digits) 65535)) _ _ (and_from _ _ (lt-ltb 0 (length digits) some) (and_from _ _ all (le-leb (digits_value 10 digits) 65535 (omega (arith, is, so_far.small))))))
