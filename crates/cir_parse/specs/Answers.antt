-- What the calls of the parser answer.
use Rattle.std.specs.Prelude.{ℕ, List}
use Rattle.cir_ast.specs.declared.marked.Function.{Function as CodeFunction}
use Rattle.cir_ast.specs.declared.marked.Item.{Item as CodeItem}
use Rattle.cir_ast.specs.declared.marked.FirstForm.{FirstForm as CodeFirst}
use Rattle.cir_ast.specs.declared.marked.LogArgument.{LogArgument as CodeArgument}
use Rattle.cir_ast.specs.declared.marked.Statement.{Statement as CodeStatement}
use Rattle.cir_ast.specs.Tree.{bare_first, bare_argument, bare_statement, bare_block, bare_item}
use Rattle.cir_ast.specs.Plain.{PlainExpr as Expr, PlainAssign, PlainFirst, PlainLogArgument}
use Rattle.cir_ast.specs.Plain.{PlainStatement, PlainStatements, PlainItem, plain_first}
use Rattle.cir_ast.specs.Plain.{plain_argument, plain_statement, plain_statements, plain_item}
use Rattle.cir_expression.specs.Answers.{seen}
use Rattle.cir_simple_statement.specs.Answers.{seen_assign}
use Rattle.cir_parse.specs.declared.making.Head.{Head as CodeHead}

-- trees as their tokens say: their names carry no meaning yet
abbrev pub seen_first : {N : Type 0} → CodeFirst N → PlainFirst
seen_first x = plain_first (bare_first x)

abbrev pub seen_argument : {N : Type 0} → CodeArgument N → PlainLogArgument
seen_argument x = plain_argument (bare_argument x)

abbrev pub seen_statement : {S N : Type 0} → CodeStatement S N → PlainStatement S
seen_statement x = plain_statement (bare_statement x)

-- a name, parameters and a block
abbrev pub seen_definition : {S N : Type 0} → CodeFunction S N
    → List ℕ × List (List ℕ) × PlainStatements S
seen_definition f = (f.name, f.parameters, plain_statements (bare_block f.body))

abbrev pub seen_item : {S N : Type 0} → CodeItem S N → PlainItem S
seen_item x = plain_item (bare_item x)

-- the head of a `for`
abbrev pub seen_head : {S N : Type 0} → CodeHead S N → (S × PlainFirst) × Expr × (S × PlainAssign)
seen_head h = (
  (h.first.spot, seen_first h.first.form),
  seen h.condition,
  (h.step.spot, seen_assign h.step.assign),
)
