-- Where keys stand last in a list, as a map tells.
use Rattle.std.specs.Prelude.{◌≡◌, ℕ, false, ◌≤◌, List, Option, Some, None, slice_get}
use Rattle.std.specs.BTreeMap.{get}
use Rattle.std.specs.Ordering.{is_eq}
use Rattle.std.specs.declared.cmp.Ordering.{Ordering}
use Rattle.wit_sourced.specs.declared.ends.Ends.{Ends}
use Rattle.wit_sourced.specs.declared.ends.TheConstants.{FEW}

abbrev pub or_few : Option ℕ → ℕ
or_few None = FEW
or_few (Some n) = n

-- a place that all items of a key stand before
abbrev pub end_of : {K : Type 0} → (K → K → Ordering) → Ends K → K → ℕ
end_of cmp ends q = or_few (get cmp ends.places q)

pub record AreEnds {K : Type 0} (cmp : K → K → Ordering) (ends : Ends K) (keys : List K)
    : Type 0 where
  pub few : (q : K) → FEW ≤ end_of cmp ends q
  pub before : (q x : K) (i : ℕ) → end_of cmp ends q ≤ i → slice_get keys i ≡ Some x
      → is_eq (cmp x q) ≡ false
