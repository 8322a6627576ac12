-- Two memories that are the same past a place.
use Rattle.std.proofs.Common.{◌≡◌, ℕ, ◌+◌, ◌-◌, ◌≤◌, List, get_or, drop, sym, ap, ◌∙◌, arith}
use Rattle.std.proofs.lemmas.List.{get_or-drop}

pub same_past : (n k : ℕ) (xs ys : List ℕ) → drop n xs ≡ drop n ys → n ≤ k → get_or xs k 0 ≡ get_or ys k 0
same_past n k xs ys same l =
    let at : n + (k - n) ≡ k = omega arith in
    ap (λ (i : ℕ). get_or xs i 0) (sym at) ∙ sym (get_or-drop n xs (k - n) 0)
    ∙ ap (λ (zs : List ℕ). get_or zs (k - n) 0) same
    ∙ get_or-drop n ys (k - n) 0 ∙ ap (λ (i : ℕ). get_or ys i 0) at
