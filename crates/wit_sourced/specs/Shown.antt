-- What the code's own types stand for.
use Rattle.std.specs.Prelude.{List, [], ◌∷◌}
use Rattle.wit_lower.specs.Homes as L
use Rattle.wit_sourced.specs.declared.homes.Home.{Home}
use Rattle.wit_sourced.specs.declared.homes.Placed.{Placed}
use Rattle.wit_sourced.specs.declared.homes.Scope.{Scope}
pub use Rattle.wit_sourced.specs.Named.{sought_name}

abbrev pub home_of : Home → L.Home
home_of h = record { base = h.base; dims = h.dims }

abbrev pub placed_of : Placed → L.Placed
placed_of p = record { name = sought_name p.name; home = home_of p.home }

-- the code's list has the newest last
abbrev pub homes_above : L.Homes → List Placed → L.Homes
homes_above homes [] = homes
homes_above homes (p ∷ ps) = homes_above (placed_of p ∷ homes) ps

abbrev pub homes_of : List Placed → L.Homes
homes_of ps = homes_above [] ps

abbrev pub scope_of : Scope → L.Scope
scope_of s = record { homes = homes_of s.homes.items; top = s.top }
