-- What stands in front of indices, as the code has it.
use Rattle.std.specs.Prelude.{ℕ, List, Option, None, option_map}
use Rattle.cir_meaning.specs.Places.{all_known}
use Rattle.cir_ast.specs.declared.program.Meant.TheVariants as meant
use Rattle.wit_lower.specs.Homes.{Name}
use Rattle.cir_emit.specs.Reads as E
use Rattle.wit_sourced.specs.Shown.{sought_name}
use Rattle.wit_sources.specs.declared.fronts.Front.{Front}
use Rattle.wit_sources.specs.declared.fronts.Front.TheVariants as front

abbrev pub front_of : Front → E.Front
front_of (front.Written m) = E.Written m
front_of (front.Reached name) = E.Reached (option_map sought_name name)

-- the port depends on the dimensions of components alone
abbrev pub port_by : (components : ℕ → List ℕ) → E.Front → List (Option ℕ) → (name : List ℕ)
    → Option Name
port_by components (E.Written (meant.Component n)) indices name =
    E.port_at n (components n) name (all_known indices)
port_by components _ indices name = None
