use Rattle.replies.proofs.Digits.{digits_decimal, two_digits_decimal}
use Rattle.replies.proofs.digits_are_decimal.Goals as goal

pub returns : goal.returns
returns c = record { all = digits_decimal; two = two_digits_decimal }
