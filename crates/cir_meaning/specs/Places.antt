-- Places of an array's elements in row order, and which of them indices mean. An index that isn't
-- known may mean each place of its dimension.
use Rattle.std.specs.Prelude.{ℕ, zero, suc, ◌+◌, ◌*◌, Bool, true, ◌&&◌, nat_lt, List, [], ◌∷◌, ◌++◌}
use Rattle.std.specs.Prelude.{map, flat_map, Option, Some, None}
use Rattle.std.specs.Fmt.{decimal}

-- how many elements an array has
abbrev pub elements : List ℕ → ℕ
elements [] = 1
elements (d ∷ ds) = d * elements ds

-- each number in brackets of its own, in decimal
abbrev pub brackets : List ℕ → List ℕ
brackets [] = []
brackets (n ∷ ns) = 91 ∷ (decimal n ++ (93 ∷ brackets ns))

-- the dimensions that are left behind the indices; there are none where there are too many indices
abbrev pub left_of : List ℕ → List (Option ℕ) → Option (List ℕ)
left_of dims [] = Some dims
left_of [] (i ∷ is) = None
left_of (d ∷ ds) (i ∷ is) = left_of ds is

-- each known index is below its dimension
abbrev pub is_inside : List ℕ → List (Option ℕ) → Bool
is_inside dims [] = true
is_inside [] (i ∷ is) = true
is_inside (d ∷ ds) (Some i ∷ is) = nat_lt i d && is_inside ds is
is_inside (d ∷ ds) (None ∷ is) = is_inside ds is

-- the indices, where all of them are known
abbrev pub followed : ℕ → Option (List ℕ) → Option (List ℕ)
followed i None = None
followed i (Some is) = Some (i ∷ is)

abbrev pub all_known : List (Option ℕ) → Option (List ℕ)
all_known [] = Some []
all_known (None ∷ is) = None
all_known (Some i ∷ is) = followed i (all_known is)

-- as many numbers, from the first on
abbrev pub numbers_from : ℕ → ℕ → List ℕ
numbers_from first zero = []
numbers_from first (suc count) = first ∷ numbers_from (first + 1) count

-- the places that indices mean, rising: an index counts whole rows
abbrev pub places_of : List ℕ → List (Option ℕ) → List ℕ
places_of dims [] = numbers_from 0 (elements dims)
places_of [] (i ∷ is) = []
places_of (d ∷ ds) (Some i ∷ is) = map (λ k. i * elements ds + k) (places_of ds is)
places_of (d ∷ ds) (None ∷ is) =
    flat_map (λ i. map (λ k. i * elements ds + k) (places_of ds is)) (numbers_from 0 d)
