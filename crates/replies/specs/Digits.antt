-- What it is for bytes to be a number in decimal digits.
use Rattle.std.specs.Prelude.{◌≡◌, ℕ, ◌+◌, ◌/◌, ◌%◌, ◌^◌, ◌<◌, List, [], ◌∷◌, length, decimal}
use Rattle.std.specs.Prelude.{slice_index_or}
use Rattle.std.specs.Str.Parse.{AllDigits, digits_value}

-- a number below 100 in two digits
abbrev pub two_digits : ℕ → List ℕ
two_digits n = (48 + n / 10) ∷ (48 + n % 10) ∷ []

-- bytes that are the decimal form of n: digits that read as n, of which the first is 0 only where
-- it is the only one
pub record Decimal (n : ℕ) (bytes : List ℕ) : Type 0 where
  pub some : 0 < length bytes
  pub each : AllDigits 10 bytes
  pub reads : digits_value 10 bytes ≡ n
  pub no_leading_zero : slice_index_or bytes 0 0 ≡ 48 → bytes ≡ 48 ∷ []

abbrev pub DigitsDecimal : Type 0
DigitsDecimal = (n : ℕ) → n < 2 ^ 64 → Decimal n (decimal n)

-- bytes that are n in two digits
pub record TwoDecimal (n : ℕ) (bytes : List ℕ) : Type 0 where
  pub two : length bytes ≡ 2
  pub each : AllDigits 10 bytes
  pub reads : digits_value 10 bytes ≡ n

abbrev pub TwoDigitsDecimal : Type 0
TwoDigitsDecimal = (n : ℕ) → n < 100 → TwoDecimal n (two_digits n)
