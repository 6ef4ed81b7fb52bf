-- What the code's ground and fronts stand for.
use Rattle.std.specs.Prelude.{ℕ, map, Option, None, option_map}
use Rattle.std.specs.Option.{option_copied}
use Rattle.cir_ast.specs.Tree.{Expr}
use Rattle.cir_ast.specs.declared.program.Meant.{Meant}
use Rattle.cir_meaning.specs.Texts.{literal_number}
use Rattle.cir_rules.specs.Shown.{made_of}
use Rattle.wit_lower.specs.Homes as L
use Rattle.wit_lower.specs.Known.{number_known}
use Rattle.wit_emit.specs.declared.ground.Front.{Front}
use Rattle.wit_emit.specs.declared.ground.Front.TheVariants as front
use Rattle.wit_emit.specs.declared.ground.Ground.{Ground}
use Rattle.wit_emit.specs.declared.ground.Knowing.{Knowing}
use Rattle.wit_emit.specs.declared.ground.Knowing.TheVariants as knowing
use Rattle.wit_sourced.specs.Loaded.{Calls, called_in, changed_in, components_in, loaded_sources}
use Rattle.wit_sourced.specs.Shown.{home_of}

abbrev pub known_by : Knowing → Expr Meant → Option ℕ
known_by knowing.Written e = literal_number e
known_by (knowing.Loaded l) e = number_known (loaded_sources l.now) (changed_in l.now) e

abbrev pub called_by : Knowing → Calls
called_by knowing.Written e = None
called_by (knowing.Loaded l) e = called_in l.now.calls.now e

abbrev pub ground_of : Ground → L.Ground
ground_of g = record {
  keys = map made_of g.keys.now.calls.items;
  known = known_by g.knowing;
  called = called_by g.knowing;
  components = components_in g.components.now;
}

abbrev pub front_of : Front → L.Front
front_of (front.Named m) = L.Named m
front_of (front.Found home) = L.Found (option_map home_of (option_copied home))
front_of front.Lost = L.Lost
