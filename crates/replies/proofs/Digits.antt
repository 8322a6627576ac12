-- What the digits of a number read as, by the laws of the numbers that the library writes.
use Rattle.std.proofs.Common.{◌≡◌, ℕ, ◌+◌, ◌/◌, ◌%◌, ◌^◌, ◌<◌, ◌≢◌, [], ◌∷◌, get_or, decimal, refl, ⊎_elim, arith}
use Rattle.std.specs.Char.{digit_value}
use Rattle.std.proofs.lemmas.Bool.{cases_eq}
use Rattle.std.proofs.lemmas.Fmt.{decimal_is_IsNumeral, decimal_digit, first_decimal}
use Rattle.replies.specs.Digits.{two_digits, Decimal, TwoDecimal}

-- a leading zero is the whole of 0
no_leading_zero : (n : ℕ) → n < 2 ^ 64 → get_or (decimal n) 0 0 ≡ 48 → decimal n ≡ 48 ∷ []
no_leading_zero n small lead =
    ⊎_elim (λ (is-0 : n ≡ 0). rw is-0 (decimal_digit 0 (omega arith))) (λ (other : n ≢ 0). absurd (omega (arith, first_decimal n (omega arith) small))) (cases_eq n 0)

pub digits_decimal : (n : ℕ) → n < 2 ^ 64 → Decimal n (decimal n)
digits_decimal n small =
    let read = decimal_is_IsNumeral n small in
    record { some = read.0.0; each = read.0.1; reads = read.1; no_leading_zero = no_leading_zero n small }

value_digit : (d : ℕ) → d < 10 → digit_value (48 + d) ≡ d
value_digit d few = let read = rw (decimal_digit d few) at (decimal_is_IsNumeral d (omega arith)).1 in omega arith

pub two_digits_decimal : (n : ℕ) → n < 100 → TwoDecimal n (two_digits n)
two_digits_decimal n few =
    let tens = value_digit (n / 10) (omega arith) in
    let units = value_digit (n % 10) (omega arith) in
    record { two = refl; each = (omega arith, (omega arith, tt)); reads = omega arith }
