-- The detour between the places of two loads.
use Rattle.std.specs.Prelude.{◌≡◌, ℕ, ◌+◌, Bool, true, List, [], ◌∷◌, pos, negsuc, ◌-ℤ◌}
use Rattle.std.specs.Prelude.{slice_index_or, unsigned_abs}
use Rattle.ranking.specs.declared.detour.Place.{Place}
use Rattle.ranking.specs.Order.{by_key}

-- how far two places lie apart, along the two axes
abbrev pub distance : Place → Place → ℕ
distance p q = unsigned_abs (p.x -ℤ q.x) + unsigned_abs (p.y -ℤ q.y)

-- the place of a load: 0, 0 where it was given none
abbrev pub place_of : List Place → ℕ → Place
place_of places load = slice_index_or places load (record { x = pos 0; y = pos 0 })

abbrev pub detour : List Place → ℕ → ℕ → ℕ
detour places a b = distance (place_of places a) (place_of places b)

-- for the load a, x comes before y: by the smaller detour, then by the lower number
abbrev pub nearer : List Place → ℕ → ℕ → ℕ → Bool
nearer places a = by_key (detour places a)

-- loads 0 to 3 at 0, 0, at −3, 4, at 5, 1 and at −5, 4
abbrev pub four_places : List Place
four_places =
    record { x = pos 0; y = pos 0 } ∷ record { x = negsuc 2; y = pos 4 }
    ∷ record { x = pos 5; y = pos 1 } ∷ record { x = negsuc 4; y = pos 4 } ∷ []

-- the nearer load comes first, though it has the higher number; nearer to the load that is asked
pub record NearerFirst : Type 0 where
  pub detours_from_0 : (detour four_places 0 1 ≡ 7) × (detour four_places 0 2 ≡ 6)
  pub order_for_0 : nearer four_places 0 2 1 ≡ true
  pub detours_from_1 : (detour four_places 1 2 ≡ 11) × (detour four_places 1 3 ≡ 2)
  pub order_for_1 : nearer four_places 1 3 2 ≡ true
