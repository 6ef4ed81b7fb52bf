-- Public values, from the bytes of a JSON array and to them.
use Rattle.std.specs.Prelude.{ℕ, List, [], ◌∷◌, ◌++◌, option_and_then, ok_or, Result, decimal}
use Rattle.binary_format.specs.Reading.{◌>>=◌}
use Rattle.serde_json.specs.Find.{as_array}
use Rattle.wit_input.specs.Document.{json_of}
use Rattle.wit_input.specs.Input.{numbers_from}
use Rattle.wit_input.specs.Values.{values_in}
use Rattle.wit_input.specs.declared.fault.InputFault.{InputFault}
use Rattle.wit_input.specs.declared.fault.InputFault.TheVariants.{NotJson}

-- the numbers of the array's values; it counts as input 0
unfoldable pub publics_of : List ℕ → Result (List ℕ) InputFault
publics_of bytes = do
  items ← ok_or (option_and_then as_array (json_of bytes)) NotJson
  numbers_from 0 0 (values_in items)

-- a decimal string
abbrev pub quoted : ℕ → List ℕ
quoted n = 34 ∷ (decimal n ++ 34 ∷ [])

-- a comma and a decimal string for each number
abbrev pub others_text : List ℕ → List ℕ
others_text [] = []
others_text (n ∷ ns) = 44 ∷ (quoted n ++ others_text ns)

-- decimal strings with commas between them
abbrev pub items_text : List ℕ → List ℕ
items_text [] = []
items_text (n ∷ ns) = quoted n ++ others_text ns

-- `["33","3"]`, without spaces or a line feed
abbrev pub publics_text : List ℕ → List ℕ
publics_text ns = 91 ∷ (items_text ns ++ 93 ∷ [])
