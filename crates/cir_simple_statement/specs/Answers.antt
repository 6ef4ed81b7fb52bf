-- What is read, as its tokens say.
use Rattle.std.specs.Prelude.{◌≡◌, Option, Some, Result, Ok, Err}
use Rattle.cir_ast.specs.declared.marked.Expr.{Expr as CodeExpr}
use Rattle.cir_ast.specs.declared.marked.DeclaredVariable.{DeclaredVariable as CodeVariable}
use Rattle.cir_ast.specs.declared.marked.SignalValue.{SignalValue as CodeValue}
use Rattle.cir_ast.specs.declared.marked.Assign.{Assign as CodeAssign}
use Rattle.cir_ast.specs.declared.marked.Target.{Target as CodeTarget}
use Rattle.cir_ast.specs.declared.marked.Source.{Source as CodeSource}
use Rattle.cir_ast.specs.declared.marked.Simple.{Simple as CodeSimple}
use Rattle.cir_ast.specs.Tree.{bare_value, bare_variable, bare_signal_value, bare_assign}
use Rattle.cir_ast.specs.Tree.{bare_target, bare_source, bare_simple}
use Rattle.cir_ast.specs.Plain.{PlainExpr as Expr, PlainVariable, PlainSignalValue, PlainAssign}
use Rattle.cir_ast.specs.Plain.{PlainTarget, PlainSource, PlainSimple, plain_value, plain_variable}
use Rattle.cir_ast.specs.Plain.{plain_signal_value, plain_assign, plain_target, plain_source}
use Rattle.cir_ast.specs.Plain.{plain_simple}
use Rattle.cir_expression.specs.declared.reader.Stop.{Stop}
use Rattle.cir_expression.specs.Answers.{Stops}

-- trees as their tokens say: their names carry no meaning yet
abbrev pub seen_value : {N : Type 0} → Option (CodeExpr N) → Option Expr
seen_value x = plain_value (bare_value x)

abbrev pub seen_variable : {N : Type 0} → CodeVariable N → PlainVariable
seen_variable x = plain_variable (bare_variable x)

abbrev pub seen_signal_value : {N : Type 0} → CodeValue N → PlainSignalValue
seen_signal_value x = plain_signal_value (bare_signal_value x)

abbrev pub seen_assign : {N : Type 0} → CodeAssign N → PlainAssign
seen_assign x = plain_assign (bare_assign x)

abbrev pub seen_target : {N : Type 0} → CodeTarget N → PlainTarget
seen_target x = plain_target (bare_target x)

abbrev pub seen_source : {N : Type 0} → CodeSource N → PlainSource
seen_source x = plain_source (bare_source x)

abbrev pub seen_simple : {N : Type 0} → CodeSimple N → PlainSimple
seen_simple x = plain_simple (bare_simple x)

-- this, as it is seen, if there is such
abbrev pub Are : {X Y : Type 0} → (X → Y) → Option Y → Result X Stop → Type 0
Are view found (Ok x) = found ≡ Some (view x)
Are view found (Err stop) = Stops stop found
