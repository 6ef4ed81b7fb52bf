-- The run-time statements, each a step: what each costs is counted, and the functions that it calls
-- are tested, here and here alone.
use Rattle.std.specs.Prelude.{ℕ, ◌+◌, ◌==◌, Bool, true, false, not, ◌&&◌, ◌||◌, if◌then◌else◌, List}
use Rattle.std.specs.Prelude.{[], ◌∷◌, ◌++◌, filter, flat_map, sum_by, count_by, Option, Some, None}
use Rattle.std.specs.Prelude.{Ok}
use Rattle.std.specs.List.{list_any}
use Rattle.cir_ast.specs.declared.program.Spot.{Spot}
use Rattle.cir_ast.specs.declared.program.Meant.{Meant}
use Rattle.cir_ast.specs.declared.refusal.Kind.{Kind}
use Rattle.cir_ast.specs.Tree.{Expr, Accessors, Variable, Assign, Set, Compound, Left, Increment}
use Rattle.cir_ast.specs.Tree.{Decrement, First, FirstVars, FirstAssign, LogArgument, Words}
use Rattle.cir_ast.specs.Tree.{LogValue, Simple, Vars, Assigned, Statement, Block, If, IfElse}
use Rattle.cir_ast.specs.Tree.{While, For, Return, Assert, Log, Ended, Statements, empty, then_more}
use Rattle.cir_meaning.specs.Tried.{Where, Tried, refused}
use Rattle.cir_meaning.specs.Places.{elements, numbers_from}
use Rattle.cir_meaning.specs.Limits.{Counts, standing, count_sum}
use Rattle.cir_meaning.specs.Arrays.{is_known}
use Rattle.cir_meaning.specs.Frame.{State, Context, variable_at, adding}
use Rattle.cir_meaning.specs.Writing.{VariableAssignment}
use Rattle.cir_meaning.specs.Unknown.{writes, declares, outer_assigned}
use Rattle.cir_meaning.specs.Costs.{Cell, Element, Wire, Cost, node, both, cost_of, indices_cost}
use Rattle.cir_meaning.specs.Costs.{unknown_at}
use Rattle.cir_meaning.specs.Texts.{wanted_in, list_of}
use Rattle.cir_meaning.specs.Functions.{function_fault, function_elements}

-- each cell that may be read is read once
abbrev pub same_cell : Cell → Cell → Bool
same_cell (Element n k) (Element m j) = (n == m) && (k == j)
same_cell (Element n k) (Wire j) = false
same_cell (Wire k) (Element m j) = false
same_cell (Wire k) (Wire j) = k == j

abbrev pub distinct : List Cell → ℕ
distinct [] = 0
distinct (c ∷ cs) = if list_any (same_cell c) cs then distinct cs else 1 + distinct cs

abbrev pub with_step : Cost → (cells too_many : ℕ) → Counts → Counts
with_step cost cells too_many c = record c {
  cells = count_sum c.cells cells;
  steps = count_sum c.steps 1;
  nodes = count_sum c.nodes cost.nodes;
  reads = count_sum c.reads (distinct cost.reads);
  elements = if c.elements == 0 then standing too_many else c.elements;
}

abbrev pub unless_faulty : Where → Option Kind → Tried State → Tried State
unless_faulty w (Some kind) go = refused w kind
unless_faulty w None go = go

-- a step that writes as many cells of variables and of logs
abbrev pub stepped : Context → Where → Cost → (cells : ℕ) → State → Tried State
stepped k w cost cells s =
    unless_faulty w (function_fault k.program cost.calls)
    (Ok (adding (with_step cost cells (function_elements k.program cost.calls)) s))

-- an assignment: its nodes as it is written, and what it reads as it is executed
abbrev pub assign_nodes : Context → Where → Bool → Assign Meant → State → ℕ
assign_nodes k w dark (Set name m accessors e) s =
    1 + ((indices_cost k w dark accessors s).nodes + (cost_of k w dark e s).nodes)
assign_nodes k w dark (Compound name m accessors op e) s =
    1 + ((indices_cost k w dark accessors s).nodes + (cost_of k w dark e s).nodes)
assign_nodes k w dark (Left name m accessors arrow e) s =
    1 + ((indices_cost k w dark accessors s).nodes + (cost_of k w dark e s).nodes)
assign_nodes k w dark (Increment name m accessors) s = 1 + (indices_cost k w dark accessors s).nodes
assign_nodes k w dark (Decrement name m accessors) s = 1 + (indices_cost k w dark accessors s).nodes

abbrev pub value_cost : Context → Where → Accessors Meant → Expr Meant → State → Cost
value_cost k w accessors e s = both (cost_of k w false e s) (indices_cost k w false accessors s)

-- old elements stay where it isn't known which part is written
abbrev pub old_reads : ℕ → VariableAssignment → List Cell
old_reads n a =
    if a.reach.is_sure then [] else unknown_at n (variable_at a.state.frame n)
    (numbers_from 0 (elements (variable_at a.state.frame n).dims))

abbrev pub new_cells : ℕ → VariableAssignment → ℕ
new_cells n a =
    if a.reach.is_sure then count_by (λ v. not (is_known v)) a.value.items else elements
    (variable_at a.state.frame n).dims

abbrev pub variable_cost : Context → Where → (written : Assign Meant) → ℕ → Accessors Meant
    → Expr Meant → VariableAssignment → State → Cost
variable_cost k w written n accessors e a s = record (value_cost k w accessors e s) {
  nodes = 1 + assign_nodes k w false written s;
  reads = (value_cost k w accessors e s).reads ++ old_reads n a;
}

abbrev pub signal_cost : Context → Where → (written : Assign Meant) → Accessors Meant → Expr Meant
    → State → Cost
signal_cost k w written accessors e s =
    record (value_cost k w accessors e s) { nodes = 1 + assign_nodes k w false written s }

abbrev pub equal_cost : Context → Where → Expr Meant → Expr Meant → State → Cost
equal_cost k w a b s = both (node 1) (both (cost_of k w false a s) (cost_of k w false b s))

abbrev pub assert_cost : Context → Where → Expr Meant → State → Cost
assert_cost k w e s = both (node 1) (cost_of k w false e s)

-- a string is one node
abbrev pub argument_cost : Context → Where → LogArgument Meant → State → Cost
argument_cost k w (Words text) s = node 1
argument_cost k w (LogValue e) s = cost_of k w false e s

abbrev pub arguments_cost : Context → Where → List (LogArgument Meant) → State → Cost
arguments_cost k w [] s = node 0
arguments_cost k w (a ∷ as') s = both (argument_cost k w a s) (arguments_cost k w as' s)

abbrev pub log_cost : Context → Where → List (LogArgument Meant) → State → Cost
log_cost k w arguments s = both (node 1) (arguments_cost k w arguments s)

abbrev pub is_value : LogArgument Meant → Bool
is_value (Words text) = false
is_value (LogValue e) = true

abbrev pub logged_cells : List (LogArgument Meant) → ℕ
logged_cells arguments = count_by is_value arguments

-- a statement whose condition isn't known, in the state behind its scan
abbrev pub expr_nodes : Context → Where → List (Expr Meant) → State → ℕ
expr_nodes k w es s = sum_by (λ e. (cost_of k w true e s).nodes) es

abbrev pub value_nodes : Context → Where → Option (Expr Meant) → State → ℕ
value_nodes k w None s = 0
value_nodes k w (Some e) s = (cost_of k w true e s).nodes

abbrev pub variables_nodes : Context → Where → List (Variable Meant) → State → ℕ
variables_nodes k w vs s =
    sum_by (λ v. expr_nodes k w (list_of v.dimensions) s + value_nodes k w v.value s) vs

abbrev pub first_nodes : Context → Where → First Meant → State → ℕ
first_nodes k w (FirstVars vs) s = variables_nodes k w vs s
first_nodes k w (FirstAssign a) s = assign_nodes k w true a s

abbrev pub simple_nodes : Context → Where → Simple Meant → State → ℕ
simple_nodes k w (Vars vs) s = variables_nodes k w vs s
simple_nodes k w (Assigned a) s = assign_nodes k w true a s
simple_nodes k w _ s = 0

abbrev mutual
  pub statement_nodes : Context → Where → Statement Spot Meant → State → ℕ
  statement_nodes k w (Block spot ss) s = 1 + statements_nodes k w ss s
  statement_nodes k w (If spot c a) s = 1 + ((cost_of k w true c s).nodes + statement_nodes k w a s)
  statement_nodes k w (IfElse spot c a b) s =
      1 + ((cost_of k w true c s).nodes + (statement_nodes k w a s + statement_nodes k w b s))
  statement_nodes k w (While spot c a) s =
      1 + ((cost_of k w true c s).nodes + statement_nodes k w a s)
  statement_nodes k w (For spot first_spot f c step_spot a body) s =
      1 + (first_nodes k w f s + ((cost_of k w true c s).nodes +
      (assign_nodes k w true a s + statement_nodes k w body s)))
  statement_nodes k w (Return spot e) s = 1
  statement_nodes k w (Assert spot e) s = 1 + (cost_of k w true e s).nodes
  statement_nodes k w (Log spot arguments) s = 1
  statement_nodes k w (Ended spot x) s = 1 + simple_nodes k w x s

  pub statements_nodes : Context → Where → Statements Spot Meant → State → ℕ
  statements_nodes k w empty s = 0
  statements_nodes k w (then_more a rest) s = statement_nodes k w a s + statements_nodes k w rest s

-- of its own variables nothing is read; an outer variable that it may assign is read as it stands
-- before
abbrev pub is_outer : Statement Spot Meant → Cell → Bool
is_outer a (Wire k) = true
is_outer a (Element n k) =
    not (list_any (λ m. m == n) (writes a) || list_any (λ m. m == n) (declares a))

abbrev pub start_reads : List ℕ → State → List Cell
start_reads ns s =
    flat_map (λ n. unknown_at n (variable_at s.frame n)
    (numbers_from 0 (elements (variable_at s.frame n).dims))) ns

abbrev pub undecided_cost : Context → Where → Statement Spot Meant → (before behind : State) → Cost
undecided_cost k w a before behind = record {
  nodes = statement_nodes k w a behind;
  reads =
      start_reads (outer_assigned a) before ++ filter (is_outer a)
      (flat_map (λ x. (cost_of k w true x.expr behind).reads) (wanted_in a));
  calls = flat_map (λ x. (cost_of k w true x.expr behind).calls) (wanted_in a);
}

abbrev pub undecided_cells : Statement Spot Meant → State → ℕ
undecided_cells a s = sum_by (λ n. elements (variable_at s.frame n).dims) (outer_assigned a)
