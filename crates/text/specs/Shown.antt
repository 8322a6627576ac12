-- How a line is shown to a person.
use Rattle.std.specs.Prelude.{ℕ, if◌then◌else◌, List, ◌++◌, length, take}
use Rattle.std.specs.Prelude.{codes, nat_lt, encode_utf8_all}
use Rattle.std.specs.List.{flat_map}
use Rattle.std.specs.Char.Escape.{escape_ascii}

-- a byte: what prints as it is, but `\"`, `\'` and `\\`; a tab as `\t`, and others as `\xd9`
abbrev pub shown_byte : ℕ → List ℕ
shown_byte b = encode_utf8_all (escape_ascii b)

abbrev pub shown : List ℕ → List ℕ
shown = flat_map shown_byte

-- a line in quotes; of one with more than 60 bytes only these, and then two dots
abbrev pub quoted : List ℕ → List ℕ
quoted line =
    if nat_lt 60 (length line) then codes "\"" ++ (shown (take 60 line) ++ codes "\"..")
    else codes "\"" ++ (shown line ++ codes "\"")
