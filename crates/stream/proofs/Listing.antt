-- The lines of pairs, written one after the other.
use Rattle.std.proofs.Common.{◌≡◌, ℕ, ◌+◌, ◌*◌, ◌≤◌, Bool, true, false, cond, ltb, List, ◌++◌, length, take, drop, Some, None, Ok, Err, Option, Result, sym, refl, ap, ◌∙◌, subst, append_assoc, add-one, arith, length-append}
use borrow.Rule.Slice.PartMut.{put_mid}
use Rattle.std.proofs.lemmas.Bool.{cond-false, le-ltb}
use Rattle.std.proofs.lemmas.Bool.Decides.{nat_tests}
use Rattle.std.proofs.lemmas.List.{take_at, drop_at, length-take-le}
use Rattle.std.proofs.lemmas.Option.{none-some}
use Rattle.graph.specs.Graph.{Graph, Simple, count}
use Rattle.graph.specs.Matching.{Partners, Matching}
use Rattle.graph.specs.Pairs.{is_lower, pairs}
use Rattle.graph.proofs.Pairs.{at_lower}
use Rattle.outputs.specs.Outputs.{Writes}
use Rattle.links.specs.Refusals.{Reason, told}
use Rattle.links.specs.declared.refusal.Refused.{Refused}
use Rattle.rules.specs.Calls.{Position, pairs_of}
use Rattle.stream.proofs.Stepping.{fits}
use Rattle.stream.specs.Pairs.{lower_line, pair_lines, lines_of, too_short, Lists}

-- the first n bytes are the lines of the pairs whose lower load is below a
pub record Listed (a : ℕ) (p : Partners) (lines : List ℕ) (n : ℕ) : Type 0 where
  pub lines_are : take n lines ≡ pair_lines a p
  pub few : n ≤ 8 * count a (is_lower p)

eight_times : (b : Bool) → cond b 8 0 ≡ 8 * cond b 1 0
eight_times true = refl
eight_times false = refl

pub at_most_eight : (b : Bool) (n : ℕ) → n ≤ cond b 8 0 → n ≤ 8
at_most_eight true n h = h
at_most_eight false n h = omega arith

-- more text after the first k bytes
taken_more : (lines part text rest : List ℕ) (k n m : ℕ) → k ≤ length lines → part ≡ text ++ rest → n ≡ length text →
    take (k + n) (put_mid k m lines part) ≡ take k lines ++ text
taken_more lines part text rest k n m inside is size =
    let tail = drop m (drop k lines) in
    let whole : put_mid k m lines part ≡ (take k lines ++ text) ++ (rest ++ tail) =
    ap (λ q. take k lines ++ (q ++ tail)) is ∙ ap (λ q. take k lines ++ q) (append_assoc text rest tail) ∙ sym (append_assoc (take k lines) text (rest ++ tail)) in
    let long : length (take k lines ++ text) ≡ k + n = omega (arith, length-append (take k lines) text, length-take-le k lines inside, size) in
    ap (take (k + n)) whole ∙ take_at (take k lines ++ text) (rest ++ tail) (k + n) long

pub listed_more : (p : Partners) (lines part text rest : List ℕ) (a k n m : ℕ) → Listed a p lines k → k ≤ length lines → text ≡ lower_line a (p a) → n ≡ length text →
    length text ≤ cond (is_lower p a) 8 0 → part ≡ text ++ rest → Listed (a + 1) p (put_mid k m lines part) (k + n)
listed_more p lines part text rest a k n m listed inside is size short written =
    let counted = ap (λ c. count c (is_lower p)) (add-one a) in
    record {
      lines_are =
          taken_more lines part text rest k n m inside written size
          ∙ (λ i. listed.lines_are i ++ is i) ∙ sym (ap (λ c. pair_lines c p) (add-one a));
      few = let few = listed.few in let eight = eight_times (is_lower p a) in omega arith;
    }

some_reason : (b : Bool) (o : Option Reason) (r : Reason) → cond b o None ≡ Some r → o ≡ Some r
some_reason true o r e = e
some_reason false o r e = absurd (none-some r e)

-- all lines written at the start of the output
pub lists_written : (Standing : Type 0) (x : Position) (text from out : List ℕ) (r : Result ℕ Refused) → Writes text from r out →
    (Standing → text ≡ lines_of x) → (Standing → 8 * pairs_of x ≤ length from) → (Standing → length text ≤ 8 * pairs_of x) → Lists Standing x from r out
lists_written Standing x text from out (Ok n) writes lines enough few =
    let (size, is) = writes.answers.1 in
    record {
      kept = tt;
      refused = tt;
      granted = (grind (arith, nat_tests, writes.answers.0, size), ap (drop n) is ∙ drop_at text (drop n from) n (sym size));
      answers = λ stood. (cond-false (ltb (length from) (8 * pairs_of x)) _ _ (le-ltb (length from) (8 * pairs_of x) (enough stood)), (size ∙ ap length (lines stood), is ∙ ap (λ l. l ++ drop n from) (lines stood)));
    }
lists_written Standing x text from out (Err e) writes lines enough few = record {
  kept = writes.kept;
  refused = some_reason (ltb (length from) (length text)) too_short (told e) writes.answers;
  granted = tt;
  answers = λ stood. absurd (fits text from e (omega (arith, few stood, enough stood)) writes.answers);
}

-- the lines of all pairs have at most 8 bytes for each
pub all_fit : (g : Graph) (p : Partners) → Simple g → Matching g p → (lines : List ℕ) (k : ℕ) → k ≤ length lines → k ≤ 8 * count g.size (is_lower p) → length (take k lines) ≤ 8 * pairs g.size p
all_fit g p simple matching lines k inside few = omega (arith, length-take-le k lines inside, (at_lower g simple p matching).once)

-- the number of loads of a board's book
pub book_size : {B : Type 0} (graph : B → Graph) (made : B → Type 0) (lent book : B) → lent ≡ book → (size : ℕ) → (made lent → size ≡ (graph lent).size) → made book → size ≡ (graph book).size
book_size graph made lent book same size value = subst (λ b. made b → size ≡ (graph b).size) same value
