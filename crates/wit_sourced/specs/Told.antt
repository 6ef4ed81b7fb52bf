-- Where cells stand in a list, as a map tells.
use Rattle.std.specs.Prelude.{◌≡◌, ℕ, suc, ◌==◌, if◌then◌else◌, List, [], ◌∷◌, Option, Some, None}
use Rattle.std.specs.Prelude.{option_map}
use Rattle.std.specs.BTreeMap.{BTreeMap, get}
use Rattle.std.specs.Ordering.{nat_cmp}

abbrev pub place_in : List ℕ → (cell : ℕ) → Option ℕ
place_in [] c = None
place_in (d ∷ ds) c = if d == c then Some 0 else option_map (λ n. suc n) (place_in ds c)

abbrev pub AreTold : BTreeMap ℕ ℕ → List ℕ → Type 0
AreTold places cells = (c : ℕ) → get nat_cmp places c ≡ place_in cells c
