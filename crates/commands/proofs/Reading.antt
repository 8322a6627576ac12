-- What is read inside a stream, and that a command that was written reads back.
use Rattle.std.proofs.Common.{◌≡◌, ℕ, ◌<◌, ◌≤◌, List, ◌++◌, length, drop, Some, None, Ok, Err, Result, sym, refl, ap, ◌∙◌, arith}
use Rattle.std.proofs.lemmas.Nat.{div-add-mod'}
use Rattle.std.proofs.lemmas.List.{drop_at, length-append}
use Rattle.std.proofs.lemmas.Bool.Decides.{nat_tests}
use Rattle.outputs.specs.Outputs.{Writes}
use Rattle.links.specs.declared.refusal.Refused.{Refused}
use Rattle.commands.specs.Commands.{bytes, decoding, decoded, reading, read_at, followed, ReadsBack}
use Rattle.commands.specs.declared.Command.{Command}
use Rattle.commands.specs.declared.Command.TheVariants.{Link, Unlink, Withdraw, Depart, Partner}

pub reading_inside : (stream : List ℕ) (place : ℕ) → length stream ≤ 65536 → place < length stream → reading stream place ≡ decoding (drop place stream)
reading_inside stream place short inside = grind (arith, nat_tests)

read_at_inside : (stream : List ℕ) (place : ℕ) → place < length stream → read_at stream place ≡ Some (followed place (decoded (drop place stream)))
read_at_inside stream place inside = grind (arith, nat_tests)

-- two bytes give back the load that they were made of
decoded_back : (command : Command) (after : List ℕ) → (decoding (bytes command ++ after) ≡ None) × (decoded (bytes command ++ after) ≡ command)
decoded_back (Link a b) after = (grind (arith, nat_tests), rw (div-add-mod' a 256, div-add-mod' b 256))
decoded_back (Unlink a b) after = (grind (arith, nat_tests), rw (div-add-mod' a 256, div-add-mod' b 256))
decoded_back (Withdraw a) after = (grind (arith, nat_tests), rw (div-add-mod' a 256))
decoded_back (Depart a) after = (grind (arith, nat_tests), rw (div-add-mod' a 256))
decoded_back (Partner a) after = (grind (arith, nat_tests), rw (div-add-mod' a 256))

some_bytes : (command : Command) (after : List ℕ) → 0 < length (bytes command ++ after)
some_bytes (Link a b) after = omega arith
some_bytes (Unlink a b) after = omega arith
some_bytes (Withdraw a) after = omega arith
some_bytes (Depart a) after = omega arith
some_bytes (Partner a) after = omega arith

pub reads_back : (command : Command) (from out : List ℕ) (r : Result ℕ Refused) → Writes (bytes command) from r out → ReadsBack command out r
reads_back command from out (Err e) writes = tt
reads_back command from out (Ok n) writes =
    let (size, is) = writes.answers.1 in
    let after = drop n from in
    rw (size, is)
    (λ before short.
    let (granted, same) = decoded_back command after in
    let inside : length before < length (before ++ (bytes command ++ after)) =
    omega (arith, length-append before (bytes command ++ after), some_bytes command after) in
    let rest = drop_at before (bytes command ++ after) (length before) refl in (
      reading_inside _ _ short inside ∙ (ap decoding rest ∙ granted),
      sym (read_at_inside _ _ inside ∙ ap (λ (l : List ℕ). Some (followed (length before) (decoded l))) rest ∙ ap (λ (c : Command). Some (followed (length before) c)) same),
    ))
