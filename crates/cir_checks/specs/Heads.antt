-- What a call has to know of a definition.
use Rattle.std.specs.Prelude.{ℕ, List, [], ◌∷◌, ◌++◌, map, length, option_map, unwrap_or}
use Rattle.std.specs.Prelude.{slice_get}
use Rattle.cir_ast.specs.declared.operators.Direction.{Direction}
use Rattle.cir_ast.specs.declared.operators.Direction.TheVariants as direction
use Rattle.cir_ast.specs.declared.program.Spot.{Spot}
use Rattle.cir_ast.specs.declared.program.Meant.{Meant}
use Rattle.cir_ast.specs.declared.program.Meant.TheVariants as meant
use Rattle.cir_ast.specs.Tree.{Signal, Signals, Statement, Ended, Statements, empty, then_more}
use Rattle.cir_ast.specs.Program.{Template, Function}
use Rattle.cir_resolve.specs.Definitions.{Definition, IsTemplate, IsFunction}
use Rattle.cir_checks.specs.Faults.{Names, no_names, and_names}

-- how many parameters a template has, which names are its inputs, and how many inputs and outputs
-- it has
pub record Head : Type 0 where
  pub parameters : ℕ
  pub is_input : Names
  pub inputs : ℕ
  pub outputs : ℕ

-- the signals of a direction that a statement declares
abbrev pub declared : Direction → Statement Spot Meant → List (Signal Meant)
declared direction.Input (Ended spot (Signals direction.Input signals)) = signals
declared direction.Output (Ended spot (Signals direction.Output signals)) = signals
declared _ _ = []

-- a template's inputs and outputs are those that its outermost block declares
abbrev pub all_declared : Direction → Statements Spot Meant → List (Signal Meant)
all_declared d empty = []
all_declared d (then_more s ss) = declared d s ++ all_declared d ss

abbrev pub head_of : Template → Head
head_of t = record {
  parameters = length t.parameters;
  is_input = and_names no_names (map (λ s. s.name) (all_declared direction.Input t.body));
  inputs = length (all_declared direction.Input t.body);
  outputs = length (all_declared direction.Output t.body);
}

-- the templates, and how many parameters each function has
pub record Table : Type 0 where
  pub templates : List Head
  pub functions : List ℕ

abbrev pub templates_among : List Definition → List Template
templates_among [] = []
templates_among (IsTemplate t ∷ ds) = t ∷ templates_among ds
templates_among (_ ∷ ds) = templates_among ds

abbrev pub functions_among : List Definition → List Function
functions_among [] = []
functions_among (IsFunction f ∷ ds) = f ∷ functions_among ds
functions_among (_ ∷ ds) = functions_among ds

abbrev pub table_of : List Template → List Function → Table
table_of templates functions =
    record {
      templates = map head_of templates;
      functions = map (λ f. length f.parameters) functions;
    }

-- what a called name is
pub data Callee : Type 0 where
  TemplateOf : Head → Callee
  FunctionOf : (parameters : ℕ) → Callee
  -- a variable, a signal or a component
  OnlyDeclared : Callee
  Unknown : Callee

abbrev pub callee : Table → Meant → Callee
callee t meant.Other = Unknown
callee t (meant.Template n) = unwrap_or (option_map TemplateOf (slice_get t.templates n)) Unknown
callee t (meant.Function n) = unwrap_or (option_map FunctionOf (slice_get t.functions n)) Unknown
callee t _ = OnlyDeclared
