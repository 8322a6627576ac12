-- A row after a load was put in or taken out, as the code does it.
use Rattle.std.proofs.Common.{◌≡◌, ℕ, zero, suc, ◌+◌, ◌-◌, ◌<◌, List, [], ◌∷◌, ◌++◌, length, get_or, take, drop, set, ap, ◌∙◌, ap₂, arith}
use borrow.Rule.Slice.PartMut.{put_mid}
use Rattle.std.specs.List.{insert, remove}
use Rattle.std.proofs.lemmas.List.{take-take, drop-take, drop_more, set_at, length-take-le, append_assoc}
use Rattle.sorted_rows.specs.Row.{entries, place, row_with, row_without}

-- the part of m + 1 numbers from p on, turned by one to the right, then b over its first
inserts : (p c m : ℕ) (t : List ℕ) (b : ℕ) (turned : List ℕ) → c ≡ p + m → c < length t → turned ≡ drop m (take (m + 1) (drop p t)) ++ take m (take (m + 1) (drop p t)) → set (put_mid p (m + 1) t turned) p b ≡ insert (take c t) p b ++ drop (suc c) t
inserts zero c m t b turned e room turn =
    let last : drop m (take (m + 1) t) ≡ get_or t m 0 ∷ [] = drop-take m 1 t ∙ ap (take 1) (drop_more t m 0 (omega arith)) in
    let front : take m (take (m + 1) t) ≡ take m t = take-take m (m + 1) t (omega arith) in
    let turned-is : turned ≡ get_or t m 0 ∷ take m t = turn ∙ ap₂ (λ (xs ys : List ℕ). xs ++ ys) last front in
    let same : m ≡ c = omega arith in
    let next : m + 1 ≡ suc c = omega arith in
    ap (λ (ys : List ℕ). set (put_mid 0 (m + 1) t ys) 0 b) turned-is
    ∙ ap₂ (λ (i j : ℕ). b ∷ (take i t ++ drop j t)) same next
inserts (suc p) zero m t b turned e room turn = absurd (omega arith)
inserts (suc p) (suc c) m [] b turned e room turn = absurd (omega arith)
inserts (suc p) (suc c) m (x ∷ t) b turned e room turn =
    ap (λ (ys : List ℕ). x ∷ ys) (inserts p c m t b turned (omega arith) (omega arith) turn)

-- the part of m + 1 numbers from p on, turned by one to the left, then 0 over its last
removes : (p c m : ℕ) (t : List ℕ) (turned : List ℕ) → c ≡ p + m → c < length t → turned ≡ drop 1 (take (m + 1) (drop p t)) ++ take 1 (take (m + 1) (drop p t)) → set (put_mid p (m + 1) t turned) c 0 ≡ remove (take (suc c) t) p ++ 0 ∷ drop (suc c) t
removes zero c m [] turned e room turn = absurd (omega arith)
removes zero c m (x ∷ t) turned e room turn =
    let next : m + 1 ≡ suc c = omega arith in
    let turned-is : turned ≡ take c t ++ x ∷ [] = turn ∙ ap (λ (k : ℕ). drop 1 (take k (x ∷ t)) ++ take 1 (take k (x ∷ t))) next in
    ap₂ (λ (k : ℕ) (ys : List ℕ). set (put_mid 0 k (x ∷ t) ys) c 0) next turned-is
    ∙ ap (λ (ys : List ℕ). set ys c 0) (append_assoc (take c t) (x ∷ []) (drop c t))
    ∙ set_at (take c t) x (drop c t) 0 c (length-take-le c t (omega arith))
removes (suc p) zero m t turned e room turn = absurd (omega arith)
removes (suc p) (suc c) m [] turned e room turn = absurd (omega arith)
removes (suc p) (suc c) m (x ∷ t) turned e room turn =
    ap (λ (ys : List ℕ). x ∷ ys) (removes p c m t turned (omega arith) (omega arith) turn)

pub row_inserted : (row : List ℕ) (n i k p m b : ℕ) (turned : List ℕ) → n ≡ get_or row 0 0 → i ≡ suc p → k ≡ m + 1 → n ≡ p + m → n + 1 < length row → p ≡ place (entries row) b → turned ≡ drop m (take k (drop i row)) ++ take m (take k (drop i row)) → set (set (put_mid i k row turned) i b) 0 (n + 1) ≡ row_with row b
row_inserted [] n i k p m b turned en ei ek ec room first turn = absurd (omega arith)
row_inserted (c ∷ t) n i k p m b turned en ei ek ec room first turn =
    let turned-is : turned ≡ drop m (take (m + 1) (drop p t)) ++ take m (take (m + 1) (drop p t)) =
    turn ∙ ap₂ (λ (x y : ℕ). drop m (take x (drop y (c ∷ t))) ++ take m (take x (drop y (c ∷ t)))) ek ei in
    let past : suc (suc n) ≡ c + 2 = omega arith in
    ap₂ (λ (x y : ℕ). set (set (put_mid y x (c ∷ t) turned) y b) 0 (n + 1)) ek ei
    ∙ ap (λ (ys : List ℕ). (n + 1) ∷ ys) (inserts p n m t b turned ec (omega arith) turned-is)
    ∙ ap₂ (λ (x y : ℕ). (n + 1) ∷ (insert (take n t) x b ++ drop y (c ∷ t))) first past
    ∙ ap (λ (x : ℕ). (x + 1) ∷ (insert (take x t) (place (take c t) b) b ++ drop (c + 2) (c ∷ t))) en

pub row_removed : (row : List ℕ) (n i k p m b : ℕ) (turned : List ℕ) → n ≡ get_or row 0 0 → i ≡ suc p → k ≡ m + 1 → n ≡ p + m + 1 → n < length row → p ≡ place (entries row) b → turned ≡ drop 1 (take k (drop i row)) ++ take 1 (take k (drop i row)) → set (set (put_mid i k row turned) n 0) 0 (n - 1) ≡ row_without row b
row_removed [] n i k p m b turned en ei ek ec room first turn = absurd (omega arith)
row_removed (c ∷ t) zero i k p m b turned en ei ek ec room first turn = absurd (omega arith)
row_removed (c ∷ t) (suc n) i k p m b turned en ei ek ec room first turn =
    let turned-is : turned ≡ drop 1 (take (m + 1) (drop p t)) ++ take 1 (take (m + 1) (drop p t)) =
    turn ∙ ap₂ (λ (x y : ℕ). drop 1 (take x (drop y (c ∷ t))) ++ take 1 (take x (drop y (c ∷ t)))) ek ei in
    let past : suc (suc n) ≡ c + 1 = omega arith in
    ap₂ (λ (x y : ℕ). set (set (put_mid y x (c ∷ t) turned) (suc n) 0) 0 (suc n - 1)) ek ei
    ∙ ap (λ (ys : List ℕ). (suc n - 1) ∷ ys) (removes p n m t turned (omega arith) (omega arith) turned-is)
    ∙ ap₂ (λ (x y : ℕ). (suc n - 1) ∷ (remove (take (suc n) t) x ++ 0 ∷ drop y (c ∷ t))) first past
    ∙ ap (λ (x : ℕ). (x - 1) ∷ (remove (take x t) (place (take c t) b) ++ 0 ∷ drop (c + 1) (c ∷ t))) en
