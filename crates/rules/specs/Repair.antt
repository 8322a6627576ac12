-- How a matching is repaired at a set of loads.
use Rattle.std.specs.Prelude.{ℕ, zero, suc, Bool, false, not, ◌&&◌, ◌||◌, List, [], ◌∷◌, Some}
use Rattle.std.specs.Prelude.{None, Option, ◌==◌, nat_le, nat_lt, if◌then◌else◌}
use Rattle.graph.specs.Graph.{Graph, degree}
use Rattle.graph.specs.Matching.{Partners}
use Rattle.graph.specs.Pairs.{is_free}
use Rattle.rules.specs.First.{first}

-- for the load a, x comes before y
abbrev pub Ranking : Type 0
Ranking = ℕ → ℕ → ℕ → Bool

-- a and b are partners
abbrev pub paired : ℕ → ℕ → Partners → Partners
paired a b p x = if x == a then Some b else (if x == b then Some a else p x)

-- a has no partner
abbrev pub freed : ℕ → Partners → Partners
freed a p x = if x == a then None else p x

-- a and the load that was found, if any, are partners
abbrev pub paired_found : ℕ → Option ℕ → Partners → Partners
paired_found a None p = p
paired_found a (Some b) p = paired a b p

abbrev pub any_below : ℕ → (ℕ → Bool) → Bool
any_below zero test = false
any_below (suc n) test = any_below n test || test n

-- a step at each load of a list, in its order
abbrev pub each : (ℕ → Partners → Partners) → List ℕ → Partners → Partners
each step [] p = p
each step (a ∷ rest) p = each step rest (step a p)

module _ (g : Graph) where
  -- z is free, and linked to a
  abbrev pub free_link : Partners → ℕ → ℕ → Bool
  free_link p a z = g.linked a z && is_free p z

  -- z ends an augmenting path a, x, y, z, where y is the partner of x, if it has one
  abbrev pub ends_path : Partners → ℕ → Option ℕ → ℕ → Bool
  ends_path p a None z = false
  ends_path p a (Some y) z = free_link p y z && not (z == a)

  -- an augmenting path of three links begins with a, x
  abbrev pub begins_path : Partners → ℕ → ℕ → Bool
  begins_path p a x = g.linked a x && any_below g.size (ends_path p a (p x))

  -- there is a partner, and it has at most t links
  abbrev pub light_partner : ℕ → Option ℕ → Bool
  light_partner t None = false
  light_partner t (Some y) = nat_le (degree g y) t

module _ (before : Ranking) (g : Graph) where
  -- a free load takes the first of the free loads that it is linked to
  abbrev pub match_free : ℕ → Partners → Partners
  match_free a p =
      if is_free p a then paired_found a (first (before a) g.size (free_link g p a)) p else p

  -- the first x such that an augmenting path of three links begins with a, x
  abbrev pub path_start_of : Partners → ℕ → Option ℕ
  path_start_of p a = first (before a) g.size (begins_path g p a)

  -- the pairs a, x and y, z in place of x, y, where z is the first that ends a path
  abbrev pub exchanged : Partners → ℕ → ℕ → Option ℕ → Partners
  exchanged p a x None = p
  exchanged p a x (Some y) =
      paired_found y (first (before y) g.size (ends_path g p a (Some y))) (paired a x p)

  abbrev pub augmented_from : Partners → ℕ → Option ℕ → Partners
  augmented_from p a None = p
  augmented_from p a (Some x) = exchanged p a x (p x)

  -- the first augmenting path of three links that begins at a, if there is one, is taken
  abbrev pub augment : ℕ → Partners → Partners
  augment a p = augmented_from p a (path_start_of p a)

module _ (before : Ranking) (t : ℕ) (g : Graph) where
  -- a takes x from its partner y, and then a path that begins at y is taken
  abbrev pub displaced : Partners → ℕ → ℕ → Option ℕ → Partners
  displaced p a x None = p
  displaced p a x (Some y) = augment before g y (freed y (paired a x p))

  abbrev pub displaced_from : Partners → ℕ → Option ℕ → Partners
  displaced_from p a None = p
  displaced_from p a (Some x) = displaced p a x (p x)

  -- the first load linked to a whose partner has at most t links
  abbrev pub light_start_of : Partners → ℕ → Option ℕ
  light_start_of p a = first (before a) g.size (λ x. g.linked a x && light_partner g t (p x))

  -- a load of more than t links displaces a light one
  abbrev pub displace : ℕ → Partners → Partners
  displace a p = if nat_lt t (degree g a) then displaced_from p a (light_start_of p a) else p

  -- an augmenting path is taken where one begins, or else a light load is displaced
  abbrev pub improved : Partners → ℕ → Option ℕ → Partners
  improved p a None = displace a p
  improved p a (Some x) = exchanged before g p a x (p x)

  abbrev pub improve : ℕ → Partners → Partners
  improve a p = if is_free p a then improved p a (path_start_of before g p a) else p

  -- first each load of the set is matched with a free one, then each that is still free is improved
  abbrev pub repair : List ℕ → Partners → Partners
  repair s p = each improve s (each (match_free before g) s p)
