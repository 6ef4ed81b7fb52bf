-- What the code's parts of arrays stand for.
use Rattle.std.specs.Prelude.{◌≡◌, ℕ, ◌+◌, ◌*◌, Bool, true, false, if◌then◌else◌, List, [], ◌∷◌}
use Rattle.std.specs.Prelude.{map, length, Option, Some, None, unwrap_or, is_some, nat_lt, Result}
use Rattle.std.specs.Prelude.{Ok, Err}
use Rattle.std.specs.declared.vec.Vec.{Vec}
use Rattle.std.specs.declared.alloc.Global.{Global}
use Rattle.cir_arrays.specs.declared.reach.Want.{Want as CodeWant}
use Rattle.cir_arrays.specs.declared.reach.Want.TheVariants as want
use Rattle.cir_arrays.specs.declared.reach.Part.{Part}
use Rattle.cir_arrays.specs.declared.reach.Part.TheVariants as part
use Rattle.cir_arrays.specs.declared.reach.Reach.{Reach as CodeReach}
use Rattle.cir_arrays.specs.declared.stop.Fault.{Fault}
use Rattle.cir_arrays.specs.Stopped.{IsRefusal}
use Rattle.cir_meaning.specs.Tried.{Tried}
use Rattle.cir_meaning.specs.Places.{elements, is_inside, all_known, numbers_from, places_of}
use Rattle.cir_meaning.specs.Limits.{standing, is_too_large}
use Rattle.cir_meaning.specs.Arrays.{Want, Scalar, Whole, Reach}

abbrev pub want_of : CodeWant → Want
want_of want.Scalar = Scalar
want_of want.Whole = Whole

abbrev pub is_sure : Part → Bool
is_sure (part.Known first count) = true
is_sure part.Unknown = false
is_sure part.Outside = false

-- the places of the elements that can be meant by the indices
abbrev pub places_in : List ℕ → List (Option ℕ) → Part → List ℕ
places_in dims indices (part.Known first count) = numbers_from first count
places_in dims indices part.Unknown = places_of dims indices
places_in dims indices part.Outside = []

-- a known index is below its dimension
abbrev pub is_under : ℕ → Option ℕ → Bool
is_under d None = true
is_under d (Some i) = nat_lt i d

-- the place of the first element of the part that known indices mean
abbrev pub first_of : List ℕ → List (Option ℕ) → ℕ
first_of dims [] = 0
first_of [] (i ∷ is) = 0
first_of (d ∷ ds) (i ∷ is) = unwrap_or i 0 * elements ds + first_of ds is

-- the first places of the parts that one index more means, of as many elements each
abbrev pub parts_at : (dimension : ℕ) → Option ℕ → (rest first : ℕ) → List ℕ
parts_at dimension (Some i) rest first = (first + i * rest) ∷ []
parts_at dimension None rest first = map (λ i. first + i * rest) (numbers_from 0 dimension)

-- all places that the indices can mean, also within an array that is too large
abbrev pub places_within : List ℕ → List (Option ℕ) → List ℕ
places_within dims indices = if is_inside dims indices then places_of dims indices else []

-- how many elements stand in the part, where it is known which it is
abbrev pub IsCount : List ℕ → Part → Type 0
IsCount places (part.Known first count) = count ≡ standing (length places)
IsCount places part.Unknown = Unit {0}
IsCount places part.Outside = Unit {0}

-- which part it is
abbrev pub IsKind : List ℕ → List (Option ℕ) → Part → Type 0
IsKind dims indices (part.Known first count) = is_inside dims indices ≡ true
IsKind dims indices part.Unknown =
    (is_inside dims indices ≡ true) × (is_some (all_known indices) ≡ false)
IsKind dims indices part.Outside = is_inside dims indices ≡ false

-- what the meaning reaches, where there aren't too many indices
abbrev pub reached : List ℕ → List (Option ℕ) → List ℕ → Reach
reached dims indices left =
    if is_inside dims indices
    then record {
      left = left;
      is_sure = is_some (all_known indices);
      places = places_of dims indices;
    }
    else record { left = left; is_sure = false; places = [] }

pub record IsPart (dims : List ℕ) (indices : List (Option ℕ)) (p : Part) (m : Reach)
    : Type 0 where
  pub sure : is_sure p ≡ m.is_sure
  pub places : is_too_large dims ≡ false → places_in dims indices p ≡ m.places
  pub all : places_within dims indices ≡ m.places
  pub count : IsCount m.places p
  pub whole : m.is_sure ≡ true → length m.places ≡ elements m.left
  pub kind : IsKind dims indices p

-- within an array that is too large the first place isn't told
pub record IsReach (dims : List ℕ) (indices : List (Option ℕ)) (r : CodeReach) (m : Reach)
    : Type 0 where
  pub left : r.left.items ≡ m.left
  pub sure : is_sure r.part ≡ m.is_sure
  pub places : is_too_large dims ≡ false → places_in dims indices r.part ≡ m.places
  pub all : places_within dims indices ≡ m.places
  pub count : IsCount m.places r.part
  pub whole : m.is_sure ≡ true → length m.places ≡ elements m.left
  pub kind : IsKind dims indices r.part

abbrev pub Reaches : List ℕ → List (Option ℕ) → Result CodeReach Fault → Tried Reach → Type 0
Reaches dims indices (Ok r) m = (x : Reach) × (m ≡ Ok x) × IsReach dims indices r x
Reaches dims indices (Err f) m = IsRefusal f m

abbrev pub items_of : Option (Vec ℕ Global) → Option (List ℕ)
items_of None = None
items_of (Some v) = Some v.items
