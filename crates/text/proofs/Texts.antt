-- Whole texts line by line, and streams command by command.
use Rattle.std.proofs.Common.{◌≡◌, ℕ, zero, suc, ◌+◌, ◌-◌, ◌<◌, ◌≤◌, true, false, eqb, leb, List, [], ◌∷◌, ◌++◌, map, length, get_or, take, is_ok, None, Err, sym, refl, ap, ◌∙◌, ⊎_elim, append_assoc, arith, take-add, below_more}
use Rattle.std.specs.List.{between, flat_map, onto_first, AllByRecursion}
use Rattle.std.proofs.slice.Lists.{all_by_recursion_push}
use Rattle.std.proofs.lemmas.List.{take_more, take_all, flat_map_more}
use Rattle.std.proofs.lemmas.Bool.{leb-true, cases_Bool, cond-true, cond-false}
use Rattle.std.proofs.lemmas.Bool.Decides.{nat_tests}
use Rattle.commands.specs.Commands.{bytes, line_of, reading, read_at}
use Rattle.commands.specs.declared.Command.{Command}
use Rattle.text.specs.Words.{front}
use Rattle.text.specs.Lines.{meaning, Means}
use Rattle.text.specs.Conversion.{lines, answer_bytes, line_bytes, first_bytes, Good, FirstBad, TooMany, StandsFor, full_line, Spelled, Appends, Encodes}
use Rattle.text.specs.declared.conversion.BadText.{BadText}
use Rattle.text.specs.declared.conversion.BadText.TheVariants.{Line, TooLong, NoMemory}

-- the first k lines of a text are good, and gave this stream
pub record Sofar (text : List ℕ) (k : ℕ) (stream : List ℕ) : Type 0 where
  pub good : Good text k
  pub bytes_are : stream ≡ first_bytes text k
  pub short : length stream ≤ 65536

module _ {text : List ℕ} {k : ℕ} {stream : List ℕ} (so_far : Sofar text k stream) where
  pub sofar_all : length (lines text) ≤ k → StandsFor text stream
  sofar_all all =
      record {
        good = λ i below. so_far.good i (omega arith);
        bytes_are = so_far.bytes_are ∙ ap (flat_map line_bytes) (take_all k (lines text) all);
      }

  -- the next line
  module _ (line : List ℕ) (inside : k < length (lines text)) (is : line ≡ get_or (lines text) k []) where
    first_bad : is_ok (meaning line) ≡ false → FirstBad text (k + 1) line
    first_bad bad =
        record {
          index = k;
          counted = refl;
          inside = inside;
          line_is = is;
          bad = bad;
          before = so_far.good;
          short = omega (arith, ap length so_far.bytes_are, so_far.short);
        }

    pub refused : (number : ℕ) (after : List ℕ) (e : BadText) → number ≡ k + 1 → Appends line number stream (Err e) after → Encodes text (Err e)
    refused number after (Line n told) counted is = rw (is.0, counted, is.1) (first_bad is.2)
    refused number after TooLong counted told = absurd told
    refused number after NoMemory counted told = tt

    module _ (after : List ℕ) (follows : after ≡ stream ++ line_bytes line) where
      bytes_more : after ≡ first_bytes text (k + 1)
      bytes_more =
          follows
          ∙ (ap (λ bs. bs ++ line_bytes line) so_far.bytes_are
          ∙ (ap (λ l. flat_map line_bytes (take k (lines text)) ++ line_bytes l) is
          ∙ (flat_map_more line_bytes [] (take k (lines text)) (get_or (lines text) k [])
          ∙ ap (flat_map line_bytes) (sym (take_more (lines text) k [] inside)))))

      module _ (good : is_ok (meaning line) ≡ true) where
        good_more : Good text (k + 1)
        good_more = below_more _ _ so_far.good (ap (λ l. is_ok (meaning l)) (sym is) ∙ good)

        pub too_many : 65536 < length after → TooMany text
        too_many long =
            record {
              count = k + 1;
              inside = omega arith;
              good = good_more;
              more = omega (arith, ap length bytes_more);
            }

        pub sofar_more : length after ≤ 65536 → Sofar text (k + 1) after
        sofar_more fits = record { good = good_more; bytes_are = bytes_more; short = fits }

take_between : (place next : ℕ) (stream : List ℕ) → place ≤ next → next ≤ length stream → take next stream ≡ take place stream ++ between place next stream
take_between place next stream ahead within = ap (λ k. take k stream) (omega arith) ∙ take-add place (next - place) stream

-- the commands before this place are those of the text; a stream that is too long is not begun
pub record Reached (stream : List ℕ) (place : ℕ) (text : List ℕ) : Type 0 where
  pub spelled : Spelled (take place stream) text
  pub at_once : 65536 < length stream → place ≡ 0

pub spelled_more : (place next : ℕ) (stream text : List ℕ) (c : Command) → Spelled (take place stream) text → place < next → next ≤ length stream → between place next stream ≡ bytes c → Means (line_of c) c → Spelled (take next stream) (text ++ full_line c)
spelled_more place next stream text c so_far ahead within written is =
    record {
      commands = so_far.commands ++ c ∷ [];
      bytes_are = sym (flat_map_more bytes [] so_far.commands c) ∙ (ap (λ bs. bs ++ bytes c) so_far.bytes_are ∙ (ap (λ bs. take place stream ++ bs) (sym written) ∙ sym (take_between place next stream (omega arith) within)));
      text_is = ap (λ t. t ++ full_line c) so_far.text_is ∙ flat_map_more full_line [] so_far.commands c;
      each_means = all_by_recursion_push (λ c. Means (line_of c) c) so_far.commands c so_far.each_means is;
    }

-- a stream that is read from is short
pub read_short : (stream : List ℕ) (place : ℕ) → reading stream place ≡ None → length stream ≤ 65536
read_short stream place none = grind (arith, nat_tests)

pub ended : (stream : List ℕ) (place : ℕ) → None ≡ read_at stream place → length stream ≤ place
ended stream place none =
    ⊎_elim
    (λ (over : leb (length stream) place ≡ true). leb-true (length stream) place over)
    (λ (inside : leb (length stream) place ≡ false).
    let some = none ∙ cond-false (leb (length stream) place) _ _ inside in let never : ◌≡◌ {A = ℕ} 0 1 = cc in absurd (omega arith))
    (cases_Bool (leb (length stream) place))

-- a line with its line feed is the first line
lines_full : (l rest : List ℕ) → front (λ b. eqb b 10) l ≡ l → lines (l ++ (10 ∷ rest)) ≡ l ∷ lines rest
lines_full [] rest one = refl
lines_full (b ∷ bs) rest one =
    ⊎_elim
    (λ (feed : eqb b 10 ≡ true).
    let none = sym (cond-true (eqb b 10) [] (b ∷ front (λ b. eqb b 10) bs) feed) ∙ one in let longer = ap length none in absurd (omega arith))
    (λ (other : eqb b 10 ≡ false).
    let same = sym (cond-false (eqb b 10) [] (b ∷ front (λ b. eqb b 10) bs) other) ∙ one in
    let more : front (λ b. eqb b 10) bs ≡ bs = cc in
    cond-false (eqb b 10) _ _ other ∙ ap (onto_first b) (lines_full bs rest more))
    (cases_Bool (eqb b 10))

abbrev all_lines : List Command → List (List ℕ)
all_lines cs = map line_of cs ++ ([] ∷ [])

lines_spelled : (cs : List Command) → AllByRecursion (λ c. Means (line_of c) c) cs → lines (flat_map full_line cs) ≡ all_lines cs
lines_spelled [] each = refl
lines_spelled (c ∷ cs) each =
    ap lines (append_assoc (line_of c) (10 ∷ []) (flat_map full_line cs))
    ∙ (lines_full (line_of c) (flat_map full_line cs) each.0.one_line ∙ ap (λ ls. line_of c ∷ ls) (lines_spelled cs each.1))

good_spelled : (cs : List Command) → AllByRecursion (λ c. Means (line_of c) c) cs → (i : ℕ) → i < length (all_lines cs) → is_ok (meaning (get_or (all_lines cs) i [])) ≡ true
good_spelled [] each zero below = refl
good_spelled [] each (suc i) below = absurd (omega arith)
good_spelled (c ∷ cs) each zero below = ap is_ok each.0.means
good_spelled (c ∷ cs) each (suc i) below = good_spelled cs each.1 i (omega arith)

bytes_spelled : (cs : List Command) → AllByRecursion (λ c. Means (line_of c) c) cs → flat_map bytes cs ≡ flat_map line_bytes (all_lines cs)
bytes_spelled [] each = refl
bytes_spelled (c ∷ cs) each =
    ap (λ bs. bs ++ flat_map bytes cs) (sym (ap answer_bytes each.0.means)) ∙ ap (λ bs. line_bytes (line_of c) ++ bs) (bytes_spelled cs each.1)

pub spelled_stands : {stream text : List ℕ} → Spelled stream text → StandsFor text stream
spelled_stands {stream} {text} spelled =
    let cs = spelled.commands in
    let are : lines text ≡ all_lines cs = ap lines spelled.text_is ∙ lines_spelled cs spelled.each_means in
    record {
      good = λ i below. ap (λ ls. is_ok (meaning (get_or ls i []))) are ∙ good_spelled cs spelled.each_means i (omega (arith, ap length are));
      bytes_are = sym spelled.bytes_are ∙ (bytes_spelled cs spelled.each_means ∙ sym (ap (flat_map line_bytes) are));
    }
