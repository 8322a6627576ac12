-- A table of zeros, over the front of which a list is copied.
use Rattle.std.proofs.Common.{◌≡◌, ℕ, ◌-◌, ◌<◌, min, List, ◌++◌, length, get_or, take, replicate, sym, ap, ◌∙◌, ⊎_elim, arith, length-take}
use borrow.Rule.Slice.PartMut.{post_of}
use Rattle.std.proofs.lemmas.List.{get_or_append_left, get_or-append_right, get_or-take, get_or-drop, get_or-replicate, get_or_past}
use Rattle.std.proofs.lemmas.Bool.{cases_lt}

pub table_read : (n given : ℕ) (front xs : List ℕ) → given ≡ min (length xs) n → front ≡ take (given - 0) xs → (a : ℕ) → a < n → get_or (front ++ post_of 0 (given - 0) (replicate n 0)) a 0 ≡ get_or xs a 0
table_read n given front xs is-min is_front a below =
    ⊎_elim
    (λ inside.
    get_or_append_left front _ 0 a (omega (arith, size))
    ∙ ap (λ (ys : List ℕ). get_or ys a 0) is_front
    ∙ get_or-take (given - 0) xs a 0 (omega arith))
    (λ past.
    get_or-append_right front _ given a 0 size past
    ∙ get_or-drop (given - 0) (replicate n 0) (a - given) 0
    ∙ get_or-replicate n _ 0 0 (omega arith)
    ∙ sym (get_or_past xs a 0 (omega arith)))
    (cases_lt a given)
  where
    size : length front ≡ given
    size = ap length is_front ∙ length-take (given - 0) xs ∙ omega arith
