-- What stands in the text of statements: the expressions, each with what is wanted of it, the
-- calls, and the variables that are declared. `x += e` is `x = x + (e)`.
use Rattle.std.specs.Prelude.{ℕ, ◌%◌, List, [], ◌∷◌, ◌++◌, map, flat_map, Option, Some, None}
use Rattle.gold_field.specs.declared.gold.TheConstants.{P}
use Rattle.cir_ast.specs.declared.program.Spot.{Spot}
use Rattle.cir_ast.specs.declared.program.Meant.{Meant}
use Rattle.cir_ast.specs.declared.program.Meant.TheVariants as meant
use Rattle.cir_ast.specs.Tree.{Expr, Number, Place, Call, Anonymous, Parentheses, Array, Unary}
use Rattle.cir_ast.specs.Tree.{Binary, Choice, Exprs, none, more, Accessors, done, index, member}
use Rattle.cir_ast.specs.Tree.{Variable, Assign, Set, First, FirstVars, FirstAssign, Simple, Vars}
use Rattle.cir_ast.specs.Tree.{Assigned, Statement, Block, If, IfElse, While, For, Return, Assert}
use Rattle.cir_ast.specs.Tree.{Log, Ended, Statements, empty, then_more}
use Rattle.cir_meaning.specs.Arrays.{Want, Scalar, Whole}
use Rattle.cir_meaning.specs.Writing.{plain}

pub record Wanted : Type 0 where
  pub want : Want
  pub expr : Expr Meant

abbrev pub wanted : Want → Expr Meant → List Wanted
wanted want e = record { want = want; expr = e } ∷ []

abbrev pub list_of : Exprs Meant → List (Expr Meant)
list_of none = []
list_of (more e es) = e ∷ list_of es

abbrev pub indices_of : Accessors Meant → List (Expr Meant)
indices_of done = []
indices_of (index e rest) = e ∷ indices_of rest
indices_of (member name rest) = indices_of rest

abbrev pub numbers_wanted : List (Expr Meant) → List Wanted
numbers_wanted es = map (λ e. record { want = Scalar; expr = e }) es

abbrev pub value_wanted : Option (Expr Meant) → List Wanted
value_wanted None = []
value_wanted (Some e) = wanted Whole e

abbrev pub variable_wanted : Variable Meant → List Wanted
variable_wanted v = numbers_wanted (list_of v.dimensions) ++ value_wanted v.value

abbrev pub plain_wanted : Assign Meant → List Wanted
plain_wanted (Set name m accessors e) = wanted Whole e ++ numbers_wanted (indices_of accessors)
plain_wanted _ = []

abbrev pub assign_wanted : Assign Meant → List Wanted
assign_wanted a = plain_wanted (plain a)

abbrev pub first_wanted : First Meant → List Wanted
first_wanted (FirstVars vs) = flat_map variable_wanted vs
first_wanted (FirstAssign a) = assign_wanted a

abbrev pub simple_wanted : Simple Meant → List Wanted
simple_wanted (Vars vs) = flat_map variable_wanted vs
simple_wanted (Assigned a) = assign_wanted a
simple_wanted _ = []

-- in the order of execution
abbrev mutual
  pub wanted_in : Statement Spot Meant → List Wanted
  wanted_in (Block spot ss) = all_wanted ss
  wanted_in (If spot c a) = wanted Scalar c ++ wanted_in a
  wanted_in (IfElse spot c a b) = wanted Scalar c ++ (wanted_in a ++ wanted_in b)
  wanted_in (While spot c a) = wanted Scalar c ++ wanted_in a
  wanted_in (For spot first_spot f c step_spot a body) =
      first_wanted f ++ (wanted Scalar c ++ (wanted_in body ++ assign_wanted a))
  wanted_in (Return spot e) = wanted Whole e
  wanted_in (Assert spot e) = wanted Scalar e
  wanted_in (Log spot arguments) = []
  wanted_in (Ended spot x) = simple_wanted x

  pub all_wanted : Statements Spot Meant → List Wanted
  all_wanted empty = []
  all_wanted (then_more a rest) = wanted_in a ++ all_wanted rest

-- what is returned
abbrev mutual
  pub returned_in : Statement Spot Meant → List (Expr Meant)
  returned_in (Block spot ss) = all_returned ss
  returned_in (If spot c a) = returned_in a
  returned_in (IfElse spot c a b) = returned_in a ++ returned_in b
  returned_in (While spot c a) = returned_in a
  returned_in (For spot first_spot f c step_spot a body) = returned_in body
  returned_in (Return spot e) = e ∷ []
  returned_in (Assert spot e) = []
  returned_in (Log spot arguments) = []
  returned_in (Ended spot x) = []

  pub all_returned : Statements Spot Meant → List (Expr Meant)
  all_returned empty = []
  all_returned (then_more a rest) = returned_in a ++ all_returned rest

-- the variables that are declared
abbrev pub first_variables : First Meant → List (Variable Meant)
first_variables (FirstVars vs) = vs
first_variables (FirstAssign a) = []

abbrev pub simple_variables : Simple Meant → List (Variable Meant)
simple_variables (Vars vs) = vs
simple_variables _ = []

abbrev mutual
  pub variables_in : Statement Spot Meant → List (Variable Meant)
  variables_in (Block spot ss) = all_variables ss
  variables_in (If spot c a) = variables_in a
  variables_in (IfElse spot c a b) = variables_in a ++ variables_in b
  variables_in (While spot c a) = variables_in a
  variables_in (For spot first_spot f c step_spot a body) = first_variables f ++ variables_in body
  variables_in (Return spot e) = []
  variables_in (Assert spot e) = []
  variables_in (Log spot arguments) = []
  variables_in (Ended spot x) = simple_variables x

  pub all_variables : Statements Spot Meant → List (Variable Meant)
  all_variables empty = []
  all_variables (then_more a rest) = variables_in a ++ all_variables rest

-- the assignments to places
abbrev pub simple_assigns : Simple Meant → List (Assign Meant)
simple_assigns (Assigned a) = plain a ∷ []
simple_assigns _ = []

abbrev pub first_assigns : First Meant → List (Assign Meant)
first_assigns (FirstVars vs) = []
first_assigns (FirstAssign a) = plain a ∷ []

abbrev mutual
  pub assigns_in : Statement Spot Meant → List (Assign Meant)
  assigns_in (Block spot ss) = all_assigns ss
  assigns_in (If spot c a) = assigns_in a
  assigns_in (IfElse spot c a b) = assigns_in a ++ assigns_in b
  assigns_in (While spot c a) = assigns_in a
  assigns_in (For spot first_spot f c step_spot a body) =
      first_assigns f ++ (assigns_in body ++ plain a ∷ [])
  assigns_in (Return spot e) = []
  assigns_in (Assert spot e) = []
  assigns_in (Log spot arguments) = []
  assigns_in (Ended spot x) = simple_assigns x

  pub all_assigns : Statements Spot Meant → List (Assign Meant)
  all_assigns empty = []
  all_assigns (then_more a rest) = assigns_in a ++ all_assigns rest

-- the calls of functions in an expression
pub record Called : Type 0 where
  pub function : ℕ
  pub arguments : List (Expr Meant)

abbrev pub call_of : Meant → Exprs Meant → List Called
call_of (meant.Function f) arguments = record { function = f; arguments = list_of arguments } ∷ []
call_of _ arguments = []

abbrev mutual
  pub calls_of : Expr Meant → List Called
  calls_of (Number n) = []
  calls_of (Place name m accessors) = place_calls accessors
  calls_of (Call parallel name m arguments) = all_calls arguments ++ call_of m arguments
  calls_of (Anonymous parallel name m arguments inputs) = []
  calls_of (Parentheses e) = calls_of e
  calls_of (Array elements) = all_calls elements
  calls_of (Unary op a) = calls_of a
  calls_of (Binary op a b) = calls_of a ++ calls_of b
  calls_of (Choice c a b) = calls_of c ++ (calls_of a ++ calls_of b)

  pub all_calls : Exprs Meant → List Called
  all_calls none = []
  all_calls (more e es) = calls_of e ++ all_calls es

  pub place_calls : Accessors Meant → List Called
  place_calls done = []
  place_calls (index e rest) = calls_of e ++ place_calls rest
  place_calls (member name rest) = place_calls rest

abbrev pub calls_in : Statements Spot Meant → List Called
calls_in ss = flat_map (λ x. calls_of x.expr) (all_wanted ss)

-- a number as it is written
abbrev pub literal_number : Expr Meant → Option ℕ
literal_number (Parentheses e) = literal_number e
literal_number (Number n) = Some (n % P)
literal_number _ = None
