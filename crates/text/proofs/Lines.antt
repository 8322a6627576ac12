-- The line of a command means that command.
use Rattle.std.proofs.Common.{◌≡◌, ℕ, ◌-◌, ◌^◌, ◌<◌, ◌≤◌, true, false, Bool, cond, ◌&&◌, eqb, ltb, leb, List, [], ◌∷◌, ◌++◌, length, get_or, Some, None, Ok, codes, decimal, sym, refl, ap, ◌∙◌, append_assoc, append-nil, arith, length-append}
use Rattle.std.specs.Str.Parse.{digits_value}
use Rattle.std.specs.Char.{is_ascii_digit}
use Rattle.std.specs.Str.{all_ascii_digits}
use Rattle.std.proofs.lemmas.Fmt.{decimal_is_IsNumeral, decimal_nonempty, digits_decimal}
use Rattle.std.proofs.lemmas.List.{get_or-append_right}
use Rattle.std.proofs.lemmas.Str.Parse.{tells_all_ascii_digits, numerals_by_value, digit_at}
use Rattle.std.proofs.lemmas.Bool.{and_parts, and_from, cond-true, cond-false, lt-ltb, le-leb, ne_eqb}
use Rattle.std.proofs.lemmas.Bool.Decides.{nat_tests}
use Rattle.commands.specs.declared.Command.{Command}
use Rattle.commands.specs.declared.Command.TheVariants.{Link, Unlink, Withdraw, Depart, Partner}
use mir.Val.{Val}
use denote.Enum.Laws.{owed}
use denote.Enum.Declared.{row}
use denote.Laws.{Is}
use Rattle.commands.specs.contracts.Command.{the_type}
use Rattle.commands.proofs.Command.TheLaws.{the_laws}
use Rattle.text.specs.Words.{line_without_return, blank, unspaced, front, past, word, no_more, number}
use Rattle.commands.specs.Commands.{line_of}
use Rattle.text.specs.Lines.{with_load, command_of_one, command_of_two, command_of, required, meaning, Means}

all_digits : (n : ℕ) → n < 2 ^ 16 → all_ascii_digits (decimal n) ≡ true
all_digits n small = digits_decimal (numerals_by_value _ tells_all_ascii_digits) n (omega arith)

some_digits : (n : ℕ) → n < 2 ^ 16 → 0 < length (decimal n)
some_digits n small = decimal_nonempty n (omega arith)

number_decimal : (n : ℕ) → n < 2 ^ 16 → number (decimal n) ≡ Some n
number_decimal n small =
    let is = (decimal_is_IsNumeral n (omega arith)).1 in
    cond-true (ltb 0 (length (decimal n)) && (all_ascii_digits (decimal n) && leb (digits_value 10 (decimal n)) 65535)) _ _
    (and_from _ _ (lt-ltb 0 (length (decimal n)) (some_digits n small)) (and_from _ _ (all_digits n small) (le-leb (digits_value 10 (decimal n)) 65535 (omega (arith, is)))))
    ∙ ap Some is

no_digit : (s c : ℕ) → s < 48 → is_ascii_digit c ≡ true → eqb c s ≡ false
no_digit s c low digit = grind (arith, nat_tests)

-- digits do not end a word, and not a line
abbrev NoDigit : (ℕ → Bool) → Type 0
NoDigit ends = (c : ℕ) → is_ascii_digit c ≡ true → ends c ≡ false

not_blank : NoDigit blank
not_blank c digit = rw (no_digit 32 c (omega arith) digit, no_digit 9 c (omega arith) digit) refl

not_feed : NoDigit (λ c. eqb c 10)
not_feed c digit = no_digit 10 c (omega arith) digit

front_digits : (ends : ℕ → Bool) → NoDigit ends → (ds after : List ℕ) → all_ascii_digits ds ≡ true → front ends (ds ++ after) ≡ ds ++ front ends after
front_digits ends never [] after all = refl
front_digits ends never (d ∷ ds) after all =
    let (digit, others) = and_parts (is_ascii_digit d) (all_ascii_digits ds) all in
    cond-false (ends d) _ _ (never d digit) ∙ ap (λ l. d ∷ l) (front_digits ends never ds after others)

past_digits : (ds after : List ℕ) → all_ascii_digits ds ≡ true → past blank (ds ++ after) ≡ past blank after
past_digits [] after all = refl
past_digits (d ∷ ds) after all =
    let (digit, others) = and_parts (is_ascii_digit d) (all_ascii_digits ds) all in
    cond-false (blank d) _ _ (not_blank d digit) ∙ past_digits ds after others

unspaced_digits : (ds after : List ℕ) → 0 < length ds → all_ascii_digits ds ≡ true → unspaced (ds ++ after) ≡ ds ++ after
unspaced_digits [] after some all = absurd (omega arith)
unspaced_digits (d ∷ ds) after some all =
    let (digit, others) = and_parts (is_ascii_digit d) (all_ascii_digits ds) all in
    cond-false (blank d) _ _ (not_blank d digit)

-- digits after a space, and what comes after them
word_digits : (ds after : List ℕ) → 0 < length ds → all_ascii_digits ds ≡ true → front blank after ≡ [] → word 0 (32 ∷ (ds ++ after)) ≡ ds
word_digits ds after some all ends =
    ap (front blank) (unspaced_digits ds after some all) ∙ (front_digits blank not_blank ds after all ∙ (ap (λ l. ds ++ l) ends ∙ append-nil ds))

after_digits : (ds after : List ℕ) → 0 < length ds → all_ascii_digits ds ≡ true → past blank (unspaced (32 ∷ (ds ++ after))) ≡ past blank after
after_digits ds after some all = ap (past blank) (unspaced_digits ds after some all) ∙ past_digits ds after all

-- digits are a word that begins no comment
more_digits : (ds : List ℕ) → 0 < length ds → all_ascii_digits ds ≡ true → no_more ds ≡ false
more_digits [] some all = absurd (omega arith)
more_digits (d ∷ ds) some all =
    let (digit, others) = and_parts (is_ascii_digit d) (all_ascii_digits ds) all in
    rw (ne_eqb (length (d ∷ ds)) 0 (λ none. omega arith), no_digit 35 d (omega arith) digit) refl

-- one load at the end of the line
module _ (a : ℕ) (small : a < 2 ^ 16) where
  as_first : 32 ∷ decimal a ≡ 32 ∷ (decimal a ++ [])
  as_first = ap (λ l. 32 ∷ l) (sym (append-nil (decimal a)))

  last_word : word 0 (32 ∷ decimal a) ≡ decimal a
  last_word = ap (word 0) as_first ∙ word_digits (decimal a) [] (some_digits a small) (all_digits a small) refl

  no_word : word 1 (32 ∷ decimal a) ≡ []
  no_word =
      ap (word 1) as_first ∙ ap (word 0) (after_digits (decimal a) [] (some_digits a small) (all_digits a small))

loads_one : (kind rest : List ℕ) (a : ℕ) → number (word 0 rest) ≡ Some a → word 1 rest ≡ [] → command_of kind rest ≡ command_of_one kind a
loads_one kind rest a first none =
    ap (λ n. with_load n (λ a. cond (no_more (word 1 rest)) (command_of_one kind a) (with_load (number (word 1 rest)) (λ b. cond (no_more (word 2 rest)) (command_of_two kind a b) None)))) first
    ∙ cond-true (no_more (word 1 rest)) _ _ (ap no_more none)

loads_two : (kind rest : List ℕ) (a b : ℕ) → number (word 0 rest) ≡ Some a → no_more (word 1 rest) ≡ false → number (word 1 rest) ≡ Some b → word 2 rest ≡ [] → command_of kind rest ≡ command_of_two kind a b
loads_two kind rest a b first some second none =
    ap (λ n. with_load n (λ a. cond (no_more (word 1 rest)) (command_of_one kind a) (with_load (number (word 1 rest)) (λ b. cond (no_more (word 2 rest)) (command_of_two kind a b) None)))) first
    ∙ (cond-false (no_more (word 1 rest)) _ _ some
    ∙ (ap (λ n. with_load n (λ b. cond (no_more (word 2 rest)) (command_of_two kind a b) None)) second ∙ cond-true (no_more (word 2 rest)) _ _ (ap no_more none)))

one_number : (kind : List ℕ) (a : ℕ) → a < 2 ^ 16 → command_of kind (32 ∷ decimal a) ≡ command_of_one kind a
one_number kind a small =
    loads_one kind (32 ∷ decimal a) a (ap number (last_word a small) ∙ number_decimal a small) (no_word a small)

two_numbers : (kind : List ℕ) (a b : ℕ) → a < 2 ^ 16 → b < 2 ^ 16 → command_of kind (32 ∷ (decimal a ++ (32 ∷ decimal b))) ≡ command_of_two kind a b
two_numbers kind a b small-a small_b =
    let rest = 32 ∷ (decimal a ++ (32 ∷ decimal b)) in
    let first = word_digits (decimal a) (32 ∷ decimal b) (some_digits a small-a) (all_digits a small-a) refl in
    let after = after_digits (decimal a) (32 ∷ decimal b) (some_digits a small-a) (all_digits a small-a) in
    let second = ap (word 0) after ∙ last_word b small_b in
    let none = ap (word 1) after ∙ no_word b small_b in
    loads_two kind rest a b (ap number first ∙ number_decimal a small-a)
    (ap no_more second ∙ more_digits (decimal b) (some_digits b small_b) (all_digits b small_b))
    (ap number second ∙ number_decimal b small_b)
    none

abbrev last : List ℕ → ℕ
last l = get_or l (length l - 1) 0

last_append : (xs ys : List ℕ) → 0 < length ys → last (xs ++ ys) ≡ last ys
last_append xs ys some =
    let long = length-append xs ys in
    get_or-append_right xs ys (length xs) (length (xs ++ ys) - 1) 0 refl (omega arith) ∙ ap (λ k. get_or ys k 0) (omega arith)

last_digit : (n : ℕ) → n < 2 ^ 16 → 48 ≤ last (decimal n)
last_digit n small =
    (digit_at (decimal n) (length (decimal n) - 1) (decimal_is_IsNumeral n (omega arith)).0.1 (omega (arith, some_digits n small))).0

-- a line that ends with a number, and begins with a word that is no comment
meaning_is : (line front : List ℕ) (n : ℕ) (c : Command) → n < 2 ^ 16 → line ≡ front ++ decimal n → no_more (word 0 line) ≡ false → command_of (word 0 line) (past blank (unspaced line)) ≡ Some c → meaning line ≡ Ok (Some c)
meaning_is line front n c small ends more is =
    let digit : 48 ≤ last line = omega (arith, ap last ends, last_append front (decimal n) (some_digits n small), last_digit n small) in
    let same : line_without_return line ≡ line = cond-false (eqb (last line) 13) _ _ (ne_eqb (last line) 13 (λ return. omega arith)) in
    ap (λ text. cond (no_more (word 0 text)) (Ok None) (required (command_of (word 0 text) (past blank (unspaced text))))) same
    ∙ (cond-false (no_more (word 0 line)) _ _ more ∙ ap required is)

two_end : (kind : List ℕ) (a b : ℕ) → kind ++ (decimal a ++ (codes " " ++ decimal b)) ≡ (kind ++ (decimal a ++ codes " ")) ++ decimal b
two_end kind a b = simp append_assoc

one_number_line : (a : ℕ) → a < 2 ^ 16 → front (λ c. eqb c 10) (decimal a) ≡ decimal a
one_number_line a small =
    ap (front (λ c. eqb c 10)) (sym (append-nil (decimal a))) ∙ (front_digits (λ c. eqb c 10) not_feed (decimal a) [] (all_digits a small) ∙ append-nil (decimal a))

two_numbers_line : (a b : ℕ) → a < 2 ^ 16 → b < 2 ^ 16 → front (λ c. eqb c 10) (decimal a ++ (32 ∷ decimal b)) ≡ decimal a ++ (32 ∷ decimal b)
two_numbers_line a b small-a small_b =
    front_digits (λ c. eqb c 10) not_feed (decimal a) (32 ∷ decimal b) (all_digits a small-a) ∙ ap (λ l. decimal a ++ (32 ∷ l)) (one_number_line b small_b)

pub means_link : (a b : ℕ) → a < 2 ^ 16 → b < 2 ^ 16 → Means (line_of (Link a b)) (Link a b)
means_link a b small-a small_b =
    record {
      one_line = ap (λ l. codes "link " ++ l) (two_numbers_line a b small-a small_b);
      means = meaning_is (line_of (Link a b)) (codes "link " ++ (decimal a ++ codes " ")) b (Link a b) small_b (two_end (codes "link ") a b) refl (two_numbers (codes "link") a b small-a small_b);
    }

pub means_unlink : (a b : ℕ) → a < 2 ^ 16 → b < 2 ^ 16 → Means (line_of (Unlink a b)) (Unlink a b)
means_unlink a b small-a small_b =
    record {
      one_line = ap (λ l. codes "unlink " ++ l) (two_numbers_line a b small-a small_b);
      means = meaning_is (line_of (Unlink a b)) (codes "unlink " ++ (decimal a ++ codes " ")) b (Unlink a b) small_b (two_end (codes "unlink ") a b) refl (two_numbers (codes "unlink") a b small-a small_b);
    }

pub means_withdraw : (a : ℕ) → a < 2 ^ 16 → Means (line_of (Withdraw a)) (Withdraw a)
means_withdraw a small =
    record {
      one_line = ap (λ l. codes "withdraw " ++ l) (one_number_line a small);
      means = meaning_is (line_of (Withdraw a)) (codes "withdraw ") a (Withdraw a) small refl refl (one_number (codes "withdraw") a small);
    }

pub means_depart : (a : ℕ) → a < 2 ^ 16 → Means (line_of (Depart a)) (Depart a)
means_depart a small =
    record {
      one_line = ap (λ l. codes "depart " ++ l) (one_number_line a small);
      means = meaning_is (line_of (Depart a)) (codes "depart ") a (Depart a) small refl refl (one_number (codes "depart") a small);
    }

pub means_partner : (a : ℕ) → a < 2 ^ 16 → Means (line_of (Partner a)) (Partner a)
means_partner a small =
    record {
      one_line = ap (λ l. codes "partner " ++ l) (one_number_line a small);
      means = meaning_is (line_of (Partner a)) (codes "partner ") a (Partner a) small refl refl (one_number (codes "partner") a small);
    }

-- what holds a command holds loads of 16 bits, so each command has the line that means it
pub means_command : (command : Command) (vs : List Val) → Is (row the_type) command vs → Means (line_of command) command
means_command (Link a b) vs is =
    let loads = owed the_type the_laws (Link a b) vs is in means_link a b loads.0.1 loads.1.0.1
means_command (Unlink a b) vs is =
    let loads = owed the_type the_laws (Unlink a b) vs is in means_unlink a b loads.0.1 loads.1.0.1
means_command (Withdraw a) vs is = means_withdraw a (owed the_type the_laws (Withdraw a) vs is).0.1
means_command (Depart a) vs is = means_depart a (owed the_type the_laws (Depart a) vs is).0.1
means_command (Partner a) vs is = means_partner a (owed the_type the_laws (Partner a) vs is).0.1
