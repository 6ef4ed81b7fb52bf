-- What is left of a statement where its condition isn't known.
use Rattle.std.specs.Prelude.{◌≡◌, ℕ, true, List, flat_map, Option, Some, None}
use Rattle.std.proofs.Common.{Bor}
use Rattle.cir_ast.specs.declared.program.Spot.{Spot}
use Rattle.cir_ast.specs.declared.program.Meant.{Meant}
use Rattle.cir_ast.specs.declared.marked.Step.{Step}
use Rattle.cir_ast.specs.Tree.{Variable, Assign, First, Statement, Assigned, bare, bare_assign}
use Rattle.cir_ast.specs.Tree.{bare_statement}
use Rattle.cir_meaning.specs.Tried.{Where, Tried, next}
use Rattle.cir_meaning.specs.Frame.{State, Context, at, counted}
use Rattle.cir_meaning.specs.Unknown as U
use Rattle.cir_meaning.specs.Texts.{Wanted, variable_wanted, assign_wanted, first_wanted, wanted_in}
use Rattle.cir_meaning.specs.Costs.{Cost, cost_of}
use Rattle.cir_meaning.specs.Steps.{assign_nodes, variables_nodes, first_nodes, statement_nodes}
use Rattle.cir_meaning.specs.Simple.{simple}
use Rattle.cir_meaning.specs.Statement.{Flow, exec, going, goes, loop_of}
use Rattle.cir_known.specs.declared.variables.Touched.{Touched}
use Rattle.cir_execute.specs.declared.undecided.Rest.{Rest}
use Rattle.cir_execute.specs.declared.undecided.Rest.TheVariants as rest

-- as a statement
abbrev pub rest_by : Spot → Rest → Statement Spot Meant
rest_by spot (rest.Whole s) = bare_statement s.now
rest_by spot (rest.Loop l) =
    loop_of spot (bare l.condition.now) (bare_statement l.body.now) l.step.now.spot
    (bare_assign l.step.now.assign)

-- the first statement in it that may not stand there: the step of a loop stands before its body
abbrev pub loop_fault : Statement Spot Meant → Spot → Assign Meant → Option U.Fault
loop_fault body step_spot a = U.first_of (U.assign_fault step_spot a) (U.fault_of body)

abbrev pub rest_fault : Rest → Option U.Fault
rest_fault (rest.Whole s) = U.fault_of (bare_statement s.now)
rest_fault (rest.Loop l) =
    loop_fault (bare_statement l.body.now) l.step.now.spot (bare_assign l.step.now.assign)

-- a turn of a `for`: a block of the body and the step
abbrev pub loop_turn : Context → Spot → Statement Spot Meant → Spot → Assign Meant → State
    → Tried Flow
loop_turn k spot body step_spot a s =
    next (counted (at k spot) s) (λ s1. next (exec k body s1) (λ f.
    going f (λ s2. goes (simple k step_spot (Assigned a) s2))))

-- a turn of a `while`, or of a `for`, which has a step
abbrev pub turn_of : Context → Spot → Statement Spot Meant → Option (Bor (Step Spot Meant))
    → State → Tried Flow
turn_of k spot body None = exec k body
turn_of k spot body (Some step) =
    loop_turn k spot body step.now.spot (bare_assign step.now.assign)

-- the variables that a statement touches
pub record IsTouched (a : Statement Spot Meant) (t : Touched) : Type 0 where
  pub assigned : t.assigned.items ≡ U.outer_assigned a
  pub written : t.written.items ≡ U.writes a
  pub declared : t.declared.items ≡ U.declares a

-- as many nodes, and what these expressions read and call
abbrev pub standing_in : Context → Where → (nodes : ℕ) → List Wanted → State → Cost
standing_in k w nodes xs s = record {
  nodes = nodes;
  reads = flat_map (λ x. (cost_of k w true x.expr s).reads) xs;
  calls = flat_map (λ x. (cost_of k w true x.expr s).calls) xs;
}

-- what stands in a statement, and in its parts
abbrev pub inside : Context → Where → Statement Spot Meant → State → Cost
inside k w a s = standing_in k w (statement_nodes k w a s) (wanted_in a) s

abbrev pub assign_inside : Context → Where → Assign Meant → State → Cost
assign_inside k w a s = standing_in k w (assign_nodes k w true a s) (assign_wanted a) s

abbrev pub first_inside : Context → Where → First Meant → State → Cost
first_inside k w f s = standing_in k w (first_nodes k w f s) (first_wanted f) s

abbrev pub variables_inside : Context → Where → List (Variable Meant) → State → Cost
variables_inside k w vs s =
    standing_in k w (variables_nodes k w vs s) (flat_map variable_wanted vs) s
