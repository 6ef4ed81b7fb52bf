-- What the names of the code stand for, and what they are looked up by.
use Rattle.std.specs.Prelude.{ℕ, ◌+◌, ◌*◌, ◌%◌, List, [], ◌∷◌}
use Rattle.gold_field.specs.declared.gold.TheConstants.{P}
use Rattle.wit_lower.specs.Homes as L
use Rattle.wit_sourced.specs.declared.names.Key.{Key}
use Rattle.wit_sourced.specs.declared.names.Key.TheVariants as key
use Rattle.wit_sourced.specs.declared.names.Sought.{Sought}
use Rattle.wit_sourced.specs.declared.names.Sought.TheVariants as sought

abbrev pub sought_name : Sought → L.Name
sought_name (sought.Variable n) = L.Variable n
sought_name (sought.Signal n) = L.Signal n
sought_name (sought.Port n j text) = L.Port n j text.now

-- digits in base 256 behind a number, modulo the prime
abbrev pub number_of : ℕ → List ℕ → ℕ
number_of n [] = n
number_of n (b ∷ bs) = number_of ((n * 256 + b) % P) bs

abbrev pub key_of : L.Name → Key
key_of (L.Variable n) = key.Variable n
key_of (L.Signal n) = key.Signal n
key_of (L.Port n j text) = key.Port n j (number_of 0 text)
