-- The words of a line, split by spaces and tabs.
use Rattle.std.specs.Prelude.{ℕ, zero, suc, ◌-◌, Bool, if◌then◌else◌, ◌&&◌, ◌||◌}
use Rattle.std.specs.Prelude.{List, [], ◌∷◌, length, take}
use Rattle.std.specs.Prelude.{Some, None, Option, ◌==◌, nat_le, nat_lt, slice_index}
use Rattle.std.specs.Str.Parse.{digits_value}
use Rattle.std.specs.Str.{all_ascii_digits}

-- without a carriage return at its end
abbrev pub line_without_return : List ℕ → List ℕ
line_without_return line =
    if slice_index line (length line - 1) == 13 then take (length line - 1) line else line

-- a space or a tab
abbrev pub blank : ℕ → Bool
blank b = b == 32 || b == 9

-- without the blanks that it begins with
abbrev pub unspaced : List ℕ → List ℕ
unspaced [] = []
unspaced (b ∷ bs) = if blank b then unspaced bs else (b ∷ bs)

-- the bytes before the first that ends them
abbrev pub front : (ℕ → Bool) → List ℕ → List ℕ
front ends [] = []
front ends (b ∷ bs) = if ends b then [] else (b ∷ front ends bs)

-- the bytes from there on
abbrev pub past : (ℕ → Bool) → List ℕ → List ℕ
past ends [] = []
past ends (b ∷ bs) = if ends b then (b ∷ bs) else past ends bs

-- the word with this index, counted from 0; no bytes where there are too few words
abbrev pub word : ℕ → List ℕ → List ℕ
word zero text = front blank (unspaced text)
word (suc k) text = word k (past blank (unspaced text))

abbrev pub empty : List ℕ → Bool
empty bytes = length bytes == 0

-- nothing more is said here: there is no word, or one that begins a comment with '#'
abbrev pub no_more : List ℕ → Bool
no_more word = empty word || slice_index word 0 == 35

-- the load that a word of decimal digits names
abbrev pub number : List ℕ → Option ℕ
number digits =
    if nat_lt 0 (length digits)
    && (all_ascii_digits digits && nat_le (digits_value 10 digits) 65535)
    then Some (digits_value 10 digits) else None
