-- What the code has of a step's numbers, and of calls that have their values already.
use Rattle.std.specs.Prelude.{◌≡◌, ℕ, ◌||◌, Bool, false, if◌then◌else◌, List, [], ◌∷◌, ◌++◌}
use Rattle.std.specs.Prelude.{map, Option, Some, None, option_map, slice_get}
use Rattle.std.specs.List.{AllByRecursion}
use Rattle.std.specs.Option.{option_copied}
use Rattle.cir_ast.specs.declared.program.Meant.{Meant}
use Rattle.cir_ast.specs.Tree.{Expr, bare}
use Rattle.cir_frame.specs.declared.frame.ComponentEntry.{ComponentEntry}
use Rattle.cir_known.specs.declared.variables.Touched.{Touched}
use Rattle.cir_meaning.specs.RunValues.{Numbers}
use Rattle.wit_lower.specs.Homes as L
use Rattle.wit_lower.specs.Sources as R
use Rattle.wit_sourced.specs.declared.loaded.Called.{Called}
use Rattle.wit_sourced.specs.declared.loaded.CallValue.{CallValue}
use Rattle.wit_sourced.specs.declared.loaded.Loaded.{Loaded}
use Rattle.wit_sourced.specs.declared.sources.Sources.{Sources}
use Rattle.wit_sourced.specs.Loads.{shape_of, source_of}
use Rattle.wit_sourced.specs.Same.{same_expr}

abbrev pub dims_of : Option (Option ComponentEntry) → List ℕ
dims_of (Some (Some c)) = c.dims.items
dims_of (Some None) = []
dims_of None = []

-- the dimensions of a component
abbrev pub components_in : List (Option ComponentEntry) → ℕ → List ℕ
components_in cs n = dims_of (slice_get cs n)

abbrev pub called_of : Called → Numbers
called_of c = record { dims = c.dims; items = c.items }

abbrev pub Calls : Type 0
Calls = Expr Meant → Option Numbers

abbrev pub called_in : List CallValue → Calls
called_in [] e = None
called_in (c ∷ cs) e =
    if same_expr (bare c.call.now) e then option_map called_of c.value else called_in cs e

abbrev pub has_call : List CallValue → Expr Meant → Bool
has_call [] e = false
has_call (c ∷ cs) e = same_expr (bare c.call.now) e || has_call cs e

-- the values of calls are those that they have
abbrev pub AreTold : Calls → List CallValue → Type 0
AreTold called calls =
    AllByRecursion (λ c. called (bare c.call.now) ≡ option_map called_of c.value) calls

abbrev pub changed_of : Option Touched → List ℕ
changed_of None = []
changed_of (Some t) = t.written.items ++ t.declared.items

abbrev pub loaded_sources : Loaded → R.Sources
loaded_sources l = record {
  shapes = map shape_of l.sources.now.named.now.shapes;
  components = components_in l.components.now;
  called = called_in l.calls.now;
  list = map source_of l.sources.now.list;
}

abbrev pub changed_in : Loaded → List ℕ
changed_in l = changed_of (option_copied l.changed)

abbrev pub sources_in : L.Ground → Sources → R.Sources
sources_in g s = record {
  shapes = map shape_of s.named.now.shapes;
  components = g.components;
  called = g.called;
  list = map source_of s.list;
}
