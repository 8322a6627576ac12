use Rattle.std.proofs.Common.{◌≡◌, ℕ, ◌^◌, ◌<◌, Ok, Err, Result, None, sym, ◌∙◌, arith}
use Rattle.std.specs.Result.{OkIff, result_ok}
use Rattle.std.proofs.lemmas.Bool.{eqb-false}
use Rattle.text.proofs.Numbers.{numbered_no_digit, numbered_too_large, numbered_all}
use Rattle.text.proofs.words.number.Goals as goal

pub returns-then-not-is_ascii_digit : goal.returns-then-not-is_ascii_digit
returns-then-not-is_ascii_digit c = numbered_no_digit _ _ _ c.loop-byte.invariant (omega arith) (sym c.if-not-is_ascii_digit.ensures.value)

no_fit : {E : Type 0} (r : Result ℕ E) (n : ℕ) → OkIff r (n < 2 ^ 16) n → None ≡ result_ok r → 65535 < n
no_fit (Ok m) n fits none = cc
no_fit (Err e) n fits none = omega (arith, fits)

pub returns-in_err-n : goal.returns-in_err-n
returns-in_err-n c =
    let large = no_fit c.try_from.result _ c.try_from.ensures (sym c.in_err-n.was ∙ c.ok.ensures.value) in
    c.from_residual.ensures ∙ numbered_too_large _ _ _ c.loop-byte.invariant (omega arith) (sym c.if-not-is_ascii_digit.ensures.value) (omega (arith, large))

pub returns : goal.returns
returns c = numbered_all _ _ _ c.loop-byte.invariant c.loop-byte-test.false (omega (arith, eqb-false _ 0 (sym c.if-is_empty.ensures)))
