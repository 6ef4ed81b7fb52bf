-- The values in a JSON value. Arrays nest at will and stand for the values in them; everything else
-- is one value.
use Rattle.std.specs.Prelude.{List, [], ◌∷◌, ◌++◌, Option, Some, None}
use Rattle.serde_json.specs.Data.{Data, null, boolean, number, string, array, object, Items}
use Rattle.serde_json.specs.Data.{no_items, item}

abbrev mutual
  pub values_of : Data → List Data
  values_of (array ds) = values_in ds
  values_of null = null ∷ []
  values_of (boolean b) = boolean b ∷ []
  values_of (number n) = number n ∷ []
  values_of (string s) = string s ∷ []
  values_of (object ms) = object ms ∷ []

  pub values_in : Items → List Data
  values_in no_items = []
  values_in (item d ds) = values_of d ++ values_in ds

-- those of a value that may be missing
abbrev pub values_at : Option Data → List Data
values_at None = []
values_at (Some d) = values_of d
