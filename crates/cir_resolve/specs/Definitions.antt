-- The definitions of a program in the order of loading, with the meaning of each name; or the first
-- place where a name is defined or declared a second time. First comes a definition's own name,
-- then those in its blocks.
use Rattle.std.specs.Prelude.{ℕ, ◌+◌, ◌==◌, List, [], ◌∷◌, ◌++◌, Bool, false, if◌then◌else◌}
use Rattle.std.specs.Prelude.{Option, Some, is_some, Result, Ok, Err}
use Rattle.std.specs.Map.{update}
use Rattle.std.specs.Str.{bytes_eq}
use Rattle.cir_ast.specs.declared.program.Spot.{Spot}
use Rattle.cir_ast.specs.declared.program.Meant.{Meant}
use Rattle.cir_ast.specs.declared.program.Meant.TheVariants as meant
use Rattle.cir_ast.specs.Tree as tree
use Rattle.cir_ast.specs.Tree.{Statements, Item, File}
use Rattle.cir_ast.specs.Program.{Template, Function, Main, bare_template, bare_function, bare_main}
use Rattle.cir_resolve.specs.declared.definition.Definition.{Definition as CodeDefinition}
use Rattle.cir_resolve.specs.declared.definition.Definition.TheVariants as code
use Rattle.cir_resolve.specs.declared.stop.Found.{Found}
use Rattle.cir_resolve.specs.Steps.{Step, behind, made, in_turn}
use Rattle.cir_resolve.specs.Scope.{Lookup, nothing, State, opening, called_at, Naming, declared}
use Rattle.cir_resolve.specs.Naming.{named_exprs, named_statements}

pub data Definition : Type 0 where
  IsTemplate : Template → Definition
  IsFunction : Function → Definition
  IsMain : Main → Definition

abbrev pub bare_definition : CodeDefinition → Definition
bare_definition (code.Template t) = IsTemplate (bare_template t)
bare_definition (code.Function f) = IsFunction (bare_function f)
bare_definition (code.Main m) = IsMain (bare_main m)

-- the definitions of a file, which has the place n among the files; nothing is counted in them yet
abbrev pub definitions_in : ℕ → Item Spot Meant → List Definition
definitions_in n (tree.Pragma spot major minor patch) = []
definitions_in n (tree.Include spot name) = []
definitions_in n (tree.Template spot parallel name parameters ss) =
    IsTemplate record {
      file = n;
      spot = spot;
      parallel = parallel;
      name = name;
      parameters = parameters;
      variables = 0;
      signals = 0;
      components = 0;
      body = ss;
    } ∷ []
definitions_in n (tree.Function spot name parameters ss) =
    IsFunction record {
      file = n;
      spot = spot;
      name = name;
      parameters = parameters;
      variables = 0;
      body = ss;
    } ∷ []
definitions_in n (tree.Main spot names template m arguments) =
    IsMain record {
      file = n;
      spot = spot;
      public_names = names;
      template = template;
      meant = m;
      arguments = arguments;
    } ∷ []

abbrev pub definitions_of : ℕ → File Spot Meant → List Definition
definitions_of n [] = []
definitions_of n (i ∷ is) = definitions_in n i ++ definitions_of n is

-- how many templates and functions come before
pub record Numbers : Type 0 where
  pub templates : ℕ
  pub functions : ℕ

abbrev pub first_numbers : Numbers
first_numbers = record { templates = 0; functions = 0 }

-- the first definition of a name counts
abbrev pub with_new : Lookup → List ℕ → Meant → Lookup
with_new defined name m =
    if is_some (defined name) then defined else update bytes_eq defined name (Some m)

abbrev pub with_definition : Lookup → Numbers → Definition → Lookup
with_definition defined n (IsTemplate t) = with_new defined t.name (meant.Template n.templates)
with_definition defined n (IsFunction f) = with_new defined f.name (meant.Function n.functions)
with_definition defined n (IsMain m) = defined

abbrev pub behind_definition : Numbers → Definition → Numbers
behind_definition n (IsTemplate t) = record n { templates = n.templates + 1 }
behind_definition n (IsFunction f) = record n { functions = n.functions + 1 }
behind_definition n (IsMain m) = n

abbrev pub defined_by : Lookup → Numbers → List Definition → Lookup
defined_by defined n [] = defined
defined_by defined n (d ∷ ds) = defined_by (with_definition defined n d) (behind_definition n d) ds

-- the parameters are the first variables, and stand in the body's outermost block
abbrev pub named_parameter : Spot → State → List ℕ → Naming (List ℕ)
named_parameter spot st name =
    made (λ m. name) (declared spot st name (meant.Variable st.variables))

abbrev pub named_body : {N : Type 0} → Lookup → Spot → List (List ℕ) → Statements Spot N
    → Naming (Statements Spot Meant)
named_body defined spot parameters body =
    behind (in_turn (named_parameter spot) (opening defined) parameters)
    (λ names st. named_statements st body)

abbrev pub template_of : Template → Naming (Statements Spot Meant) → Result Template Spot
template_of t (Ok given) = Ok record t {
  variables = given.1.variables;
  signals = given.1.signals;
  components = given.1.components;
  body = given.0;
}
template_of t (Err spot) = Err spot

abbrev pub function_of : Function → Naming (Statements Spot Meant) → Result Function Spot
function_of f (Ok given) = Ok record f { variables = given.1.variables; body = given.0 }
function_of f (Err spot) = Err spot

abbrev pub named_template : Lookup → Template → Result Template Spot
named_template defined t = template_of t (named_body defined t.spot t.parameters t.body)

abbrev pub named_function : Lookup → Function → Result Function Spot
named_function defined f = function_of f (named_body defined f.spot f.parameters f.body)

abbrev pub named_main : Lookup → Main → Main
named_main defined m = record m {
  meant = called_at (opening defined) m.template;
  arguments = named_exprs (opening defined) m.arguments;
}

-- whether a name means the template, or the function, of this number
abbrev pub is_template : ℕ → Option Meant → Bool
is_template n (Some (meant.Template k)) = k == n
is_template n _ = false

abbrev pub is_function : ℕ → Option Meant → Bool
is_function n (Some (meant.Function k)) = k == n
is_function n _ = false

-- a definition, or the place in its file where it stops
abbrev pub named_in : {A : Type 0} → ℕ → (A → Definition) → Result A Spot → Result Definition Found
named_in file kind (Ok d) = Ok (kind d)
named_in file kind (Err spot) = Err record { file = file; spot = spot }

abbrev pub named_definition : Lookup → Numbers → Definition → Result Definition Found
named_definition defined n (IsTemplate t) =
    named_in t.file IsTemplate (if is_template n.templates (defined t.name)
    then named_template defined t else Err t.spot)
named_definition defined n (IsFunction f) =
    named_in f.file IsFunction (if is_function n.functions (defined f.name)
    then named_function defined f else Err f.spot)
named_definition defined n (IsMain m) = Ok (IsMain (named_main defined m))

-- a definition, and how many come before the next one
abbrev pub counted_behind : Numbers → Result Definition Found → Step Numbers Found Definition
counted_behind n (Ok d) = Ok (d, n)
counted_behind n (Err found) = Err found

abbrev pub named_next : Lookup → Numbers → Definition → Step Numbers Found Definition
named_next defined n d = counted_behind (behind_definition n d) (named_definition defined n d)

abbrev pub given_by : {X E A : Type 0} → Step X E A → Result A E
given_by (Ok given) = Ok given.0
given_by (Err stop) = Err stop

abbrev pub named_all : List Definition → Step Numbers Found (List Definition)
named_all ds = in_turn (named_next (defined_by nothing first_numbers ds)) first_numbers ds

-- the definitions, each name with its meaning; or the first place of a second name
abbrev pub resolved : List Definition → Result (List Definition) Found
resolved ds = given_by (named_all ds)
