-- Where the homes of names stand last, by the keys of the names.
use Rattle.std.specs.Prelude.{List, map}
use Rattle.std.specs.declared.cmp.Ordering.{Ordering}
use Rattle.wit_sourced.specs.contracts.names.KeyOrd.TheImpl as key_ord
use Rattle.wit_sourced.specs.declared.ends.Ends.{Ends}
use Rattle.wit_sourced.specs.declared.homes.Placed.{Placed}
use Rattle.wit_sourced.specs.declared.names.Key.{Key}
use Rattle.wit_sourced.specs.Ends.{AreEnds}
use Rattle.wit_sourced.specs.Named.{key_of, sought_name}

abbrev pub key_cmp : Key → Key → Ordering
key_cmp = key_ord.ghosts.cmp

abbrev pub placed_key : Placed → Key
placed_key p = key_of (sought_name p.name)

abbrev pub AreEndsOf : Ends Key → List Placed → Type 0
AreEndsOf ends homes = AreEnds key_cmp ends (map placed_key homes)
