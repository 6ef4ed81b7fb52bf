-- The execution of a statement when it runs, with numbers, and of the functions that it calls. A
-- turn and a call cost a unit each.
use Rattle.std.specs.Prelude.{ℕ, zero, suc, ◌-◌, ◌==◌, if◌then◌else◌, List, [], ◌∷◌, ◌++◌, length}
use Rattle.std.specs.Prelude.{replicate, Option, Some, None, Err, slice_get, slice_set}
use Rattle.cir_ast.specs.declared.program.Spot.{Spot}
use Rattle.cir_ast.specs.declared.program.Meant.{Meant}
use Rattle.cir_ast.specs.declared.program.Meant.TheVariants as meant
use Rattle.cir_ast.specs.Program.{Program, Function}
use Rattle.cir_ast.specs.Tree.{Expr, Accessors, done, Variable, Assign, Set, First, FirstVars}
use Rattle.cir_ast.specs.Tree.{FirstAssign, Simple, Vars, Assigned, Statement, Block, If, IfElse}
use Rattle.cir_ast.specs.Tree.{While, For, Return, Assert, Log, Ended, Statements, empty, then_more}
use Rattle.cir_meaning.specs.Tried.{next}
use Rattle.cir_meaning.specs.Arrays.{single, filled, put_items}
use Rattle.cir_meaning.specs.Writing.{plain}
use Rattle.cir_meaning.specs.RunValues.{Ran, Numbers, Environment, Store, stored, gives, number}
use Rattle.cir_meaning.specs.RunValues.{number_in, index_numbers, dims_numbers, bounded, the_number}
use Rattle.cir_meaning.specs.RunValues.{missing, assert_fails, fuel_spent, too_deep}

-- a statement goes on to the next, or returns from its function
pub data StepFlow : Type 0 where
  StepGoing : Store → StepFlow
  StepReturned : Numbers → StepFlow

abbrev pub step_goes : Ran Store → Ran StepFlow
step_goes m = next m (λ (store, units). gives (StepGoing store) units)

abbrev pub step_going : StepFlow → ℕ → (Store → ℕ → Ran StepFlow) → Ran StepFlow
step_going (StepGoing store) units go = go store units
step_going (StepReturned d) units go = gives (StepReturned d) units

abbrev pub spend : {A : Type 0} → ℕ → (ℕ → Ran A) → Ran A
spend zero go = Err fuel_spent
spend (suc units) go = go units

-- the value, the indices, then their bounds
abbrev pub step_set : Environment → Meant → Accessors Meant → Expr Meant → Store → ℕ → Ran Store
step_set env (meant.Variable n) accessors e store units =
    next (number_in env store e units) (λ (d, u1). index_numbers env store [] accessors u1
    (λ indices u2.
    bounded (stored store n).dims indices (λ left places.
    gives (slice_set store n record {
      dims = (stored store n).dims;
      items = put_items places d.items
          (stored store n).items;
    }) u2)))
step_set env _ accessors e store units = Err missing

abbrev pub step_plain : Environment → Assign Meant → Store → ℕ → Ran Store
step_plain env (Set name m accessors e) store units = step_set env m accessors e store units
step_plain env _ store units = Err missing

abbrev pub step_assign : Environment → Assign Meant → Store → ℕ → Ran Store
step_assign env a store units = step_plain env (plain a) store units

abbrev pub step_value : Environment → Meant → Option (Expr Meant) → Store → ℕ → Ran Store
step_value env m None store units = gives store units
step_value env m (Some e) store units = step_set env m done e store units

-- a variable begins with 0 in each element
abbrev pub declared : Meant → List ℕ → Store → Store
declared (meant.Variable n) dims store = slice_set store n (filled dims 0)
declared _ dims store = store

abbrev pub step_variable : Environment → Variable Meant → Store → ℕ → Ran Store
step_variable env v store units =
    next (dims_numbers env store v.dimensions units) (λ (dims, u1). step_value env v.meant v.value
    (declared v.meant dims store) u1)

abbrev pub step_variables : Environment → List (Variable Meant) → Store → ℕ → Ran Store
step_variables env [] store units = gives store units
step_variables env (v ∷ vs) store units =
    next (step_variable env v store units) (λ (store1, u1). step_variables env vs store1 u1)

abbrev pub step_first : Environment → First Meant → Store → ℕ → Ran Store
step_first env (FirstVars vs) store units = step_variables env vs store units
step_first env (FirstAssign a) store units = step_assign env a store units

abbrev pub step_simple : Environment → Simple Meant → Store → ℕ → Ran Store
step_simple env (Vars vs) store units = step_variables env vs store units
step_simple env (Assigned a) store units = step_assign env a store units
step_simple env _ store units = Err missing

-- a turn costs a unit, so there are at most as many turns as units; `most` is above that number
abbrev pub step_turns : (most : ℕ) → Environment → Expr Meant → (Store → ℕ → Ran StepFlow) → Store
    → ℕ → Ran StepFlow
step_turns zero env c body store units = Err fuel_spent
step_turns (suc most) env c body store units =
    number (number_in env store c units) (λ m u1. if m == 0 then gives (StepGoing store) u1
    else spend u1 (λ u2. next (body store u2) (λ (flow, u3). step_going flow u3
    (step_turns most env c body))))

abbrev mutual
  pub step_statement : Environment → Statement Spot Meant → Store → ℕ → Ran StepFlow
  step_statement env (Block spot ss) store units = step_statements env ss store units
  step_statement env (If spot c a) store units =
      number (number_in env store c units) (λ m u1. if m == 0 then gives (StepGoing store) u1
      else step_statement env a store u1)
  step_statement env (IfElse spot c a b) store units =
      number (number_in env store c units) (λ m u1. if m == 0 then step_statement env b store u1
      else step_statement env a store u1)
  step_statement env (While spot c a) store units =
      step_turns (suc units) env c (step_statement env a) store units
  step_statement env (For spot first_spot f c step_spot a body) store units =
      next (step_first env f store units) (λ (store1, u1).
      step_turns (suc u1) env c (λ store2 u2. next (step_statement env body store2 u2)
      (λ (flow, u3). step_going flow u3 (λ store3 u4. step_goes (step_assign env a store3 u4))))
      store1 u1)
  step_statement env (Return spot e) store units =
      next (number_in env store e units) (λ (d, u1). gives (StepReturned d) u1)
  step_statement env (Assert spot e) store units =
      number (number_in env store e units) (λ m u1. if m == 0 then Err assert_fails else gives
      (StepGoing store) u1)
  step_statement env (Log spot arguments) store units = Err missing
  step_statement env (Ended spot x) store units = step_goes (step_simple env x store units)

  pub step_statements : Environment → Statements Spot Meant → Store → ℕ → Ran StepFlow
  step_statements env empty store units = gives (StepGoing store) units
  step_statements env (then_more a rest) store units =
      next (step_statement env a store units)
      (λ (flow, u1). step_going flow u1 (step_statements env rest))

-- a call gives a number. In a function there are variables alone, and every call is made
abbrev pub in_function : (ℕ → List Numbers → ℕ → Ran Numbers) → Environment
in_function call =
    record {
      signal = λ n. None;
      part = λ n indices name. Err missing;
      known = λ e. None;
      call = call;
    }

abbrev pub returned_number : StepFlow → Numbers
returned_number (StepGoing store) = single 0
returned_number (StepReturned d) = single (the_number d)

abbrev pub run_function : (ℕ → List Numbers → ℕ → Ran Numbers) → Option Function → List Numbers → ℕ
    → Ran Numbers
run_function call None arguments units = Err missing
run_function call (Some f) arguments units =
    next (step_statements (in_function call) f.body (arguments ++ replicate
    (f.variables - length arguments) (single 0)) units)
    (λ (flow, u1). gives (returned_number flow) u1)

-- with room for as many open calls; the unit is paid first
abbrev pub run_call : Program → (room : ℕ) → ℕ → List Numbers → ℕ → Ran Numbers
run_call p zero n arguments units = spend units (λ u1. Err too_deep)
run_call p (suc room) n arguments units =
    spend units (λ u1. run_function (run_call p room) (slice_get p.functions n) arguments u1)
