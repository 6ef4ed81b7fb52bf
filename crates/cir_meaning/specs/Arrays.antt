-- Numbers and arrays: dimensions, and items in row order. A number has no dimension and one item.
use Rattle.std.specs.Prelude.{ℕ, Bool, true, false, ◌||◌, if◌then◌else◌, is_some, List, [], ◌∷◌}
use Rattle.std.specs.Prelude.{map, replicate, Option, Ok, slice_get, slice_set, unwrap_or, bytes_eq}
use Rattle.std.specs.List.{list_all}
use Rattle.cir_ast.specs.declared.refusal.Kind.TheVariants.{OutOfBounds, ShapeDiffers}
use Rattle.cir_meaning.specs.Tried.{Where, Tried, next, needed, found}
use Rattle.cir_meaning.specs.Places.{elements, left_of, is_inside, all_known, places_of}
use Rattle.cir_meaning.specs.Limits.{is_too_large}
use Rattle.cir_meaning.specs.Values.{Value, Known, Linear, Quadratic, Opaque}

pub record Shaped (A : Type 0) : Type 0 where
  pub dims : List ℕ
  pub items : List A

abbrev pub Datum : Type 0
Datum = Shaped Value

abbrev pub single : {A : Type 0} → A → Shaped A
single a = record { dims = []; items = a ∷ [] }

-- an array that is too large is never made: it has no items
abbrev pub made : {A : Type 0} → List ℕ → List A → Shaped A
made dims items = record { dims = dims; items = if is_too_large dims then [] else items }

abbrev pub filled : {A : Type 0} → List ℕ → A → Shaped A
filled dims a =
    record { dims = dims; items = if is_too_large dims then [] else replicate (elements dims) a }

-- and elements that were not made read as 0
abbrev pub item_at : List Value → ℕ → Value
item_at items k = unwrap_or (slice_get items k) (Known 0)

abbrev pub the_item : Datum → Value
the_item d = item_at d.items 0

abbrev pub is_known : Value → Bool
is_known (Known k) = true
is_known (Linear f) = false
is_known (Quadratic a b c) = false
is_known Opaque = false

abbrev pub is_all_known : Datum → Bool
is_all_known d = list_all is_known d.items

-- whether a number is wanted, or an array will do
pub data Want : Type 0 where
  Scalar : Want
  Whole : Want

abbrev pub fits : Want → List ℕ → Bool
fits Whole dims = true
fits Scalar [] = true
fits Scalar (d ∷ ds) = false

-- the part of an array that indices mean: its dimensions, whether it is known which it is, and the
-- places of the elements that can be meant
pub record Reach : Type 0 where
  pub left : List ℕ
  pub is_sure : Bool
  pub places : List ℕ

-- first the number of indices is tested, then each known index, then whether a number is wanted; in
-- a shaded expression an index that is out of bounds means no element
abbrev pub reach : Where → (shaded : Bool) → Want → List ℕ → List (Option ℕ) → Tried Reach
reach w shaded want dims indices =
    next (found w ShapeDiffers (left_of dims indices)) (λ left.
    needed (is_inside dims indices || shaded) w OutOfBounds
    (needed (fits want left) w ShapeDiffers
    (Ok (if is_inside dims indices
    then record {
      left = left;
      is_sure = is_some (all_known indices);
      places = places_of dims
          indices;
    }
    else record { left = left; is_sure = false; places = [] }))))

-- what stands in a part; it is opaque where it isn't known which part is meant
abbrev pub read_part : Reach → (ℕ → Value) → Datum
read_part r item = if r.is_sure then made r.left (map item r.places) else filled r.left Opaque

-- new items at places, in order
abbrev pub put_items : {A : Type 0} → List ℕ → List A → List A → List A
put_items [] new items = items
put_items (k ∷ ks) [] items = items
put_items (k ∷ ks) (a ∷ new) items = put_items ks new (slice_set items k a)

abbrev pub same_dims : List ℕ → List ℕ → Bool
same_dims dims others = bytes_eq dims others

-- every element is opaque
abbrev pub forgotten : Datum → Datum
forgotten d = record { dims = d.dims; items = map (λ v. Opaque) d.items }
