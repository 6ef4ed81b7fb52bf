-- The run of simple statements: each is executed at compile time too, and what isn't known there is
-- a step.
use Rattle.std.specs.Prelude.{ℕ, ◌==◌, Bool, false, not, ◌&&◌, if◌then◌else◌, List, [], ◌∷◌, ◌++◌}
use Rattle.std.specs.Prelude.{length, Option, Some, None, Ok, Err, slice_get, slice_set}
use Rattle.cir_ast.specs.declared.program.Spot.{Spot}
use Rattle.cir_ast.specs.declared.program.Meant.{Meant}
use Rattle.cir_ast.specs.declared.program.Meant.TheVariants as meant
use Rattle.cir_ast.specs.declared.operators.Arrow.{Arrow}
use Rattle.cir_ast.specs.declared.operators.Direction.{Direction}
use Rattle.cir_ast.specs.declared.refusal.Kind.TheVariants.{WrongKind}
use Rattle.cir_ast.specs.Tree.{Expr, Accessors, done, Variable, SignalValue, Nothing, Given, Signal}
use Rattle.cir_ast.specs.Tree.{Assign, Set, Left, Slot, SlotPlace, SlotDiscard, Target, Discard}
use Rattle.cir_ast.specs.Tree.{Slots, Simple, Vars, Signals, Declared, Created, Assigned, Constrain}
use Rattle.cir_ast.specs.Tree.{TargetLeft}
use Rattle.cir_meaning.specs.Tried.{Where, Tried, next, refused}
use Rattle.cir_meaning.specs.Arrays.{Datum}
use Rattle.cir_meaning.specs.Frame.{Part, World, State, Context, at, is_fed, counted}
use Rattle.cir_meaning.specs.Evaluate.{dims_in}
use Rattle.cir_meaning.specs.Anonymous.{Lifted, lift_simple}
use Rattle.cir_meaning.specs.Writing.{plain, variable_assignment, is_unknown, signals_of}
use Rattle.cir_meaning.specs.Writing.{SignalAssignment, signal_assignment}
use Rattle.cir_meaning.specs.Declaring.{declare_variable, declare_signal, declare_component}
use Rattle.cir_meaning.specs.Declaring.{Creation, creation, create, path_of}
use Rattle.cir_meaning.specs.Simple.{set_variable, set_signal, equal, component_declaration}
use Rattle.cir_meaning.specs.Simple.{dropped, values_of}
use Rattle.cir_meaning.specs.RunValues.{Ran, Numbers, Environment, Store, number, number_in}
use Rattle.cir_meaning.specs.RunValues.{constraint_fails, stored}
use Rattle.cir_meaning.specs.RunStatements.{step_set}
use Rattle.cir_meaning.specs.Run.{put_numbers, write_wires, RunTried, refusing, Wires, Table}
use Rattle.cir_meaning.specs.Run.{RunPart, Run, store_of, environment, stepping}

-- what a body's run gives: the numbers of its own signals, and of those in it; and the log lines
pub record Outcome : Type 0 where
  pub own : Wires
  pub inside : List Table
  pub log : List (List ℕ)

-- a body is a function of its inputs; it begins in the world in which it was created
abbrev pub Runner : Type 0
Runner = Where → ℕ → List Datum → List ℕ → World → Wires → List (List ℕ) → RunTried Outcome

-- what stays the same while a body runs: the units of a step, and how functions and bodies run
pub record Running : Type 0 where
  pub context : Context
  pub fuel : ℕ
  pub call : ℕ → List Numbers → ℕ → Ran Numbers
  pub body : Runner

abbrev pub with_known : State → Run → Run
with_known s r = record r { known = s }

-- a step that gives the variables new numbers; `s` tells which calls are known
abbrev pub variable_step : Running → Where → State → Meant → Accessors Meant → Expr Meant → Run
    → RunTried Store
variable_step q w s m accessors e r =
    stepping w r (step_set (environment q.context w q.call s r) m accessors e (store_of s r.numbers)
    q.fuel)

-- an assignment to a variable is a step where an element that it writes isn't known afterwards.
-- What is assigned, and the state behind the statement, are both asked for in the state before it;
-- so it is with signals and components.
abbrev pub run_set_variable : Running → Where → (written : Assign Meant) → ℕ → Accessors Meant
    → Expr Meant → Run → RunTried Run
run_set_variable q w written n accessors e r =
    next (refusing (variable_assignment q.context w n accessors e r.known)) (λ a.
    next (refusing (set_variable q.context w written n accessors e r.known)) (λ s.
    if is_unknown n a then next (variable_step q w r.known (meant.Variable n) accessors e r)
    (λ store. Ok record r { known = s; numbers = put_numbers n (stored store n) r.numbers })
    else Ok (with_known s r)))

-- after the write of its last input a component's body runs
abbrev pub with_outcome : ℕ → Outcome → RunPart → Run → Run
with_outcome j o p r =
    record r {
      parts = slice_set r.parts j (record p { ports = o.own; inside = o.inside });
      log = o.log;
    }

abbrev pub run_part : Running → ℕ → Option RunPart → Run → RunTried Run
run_part q j None r = Ok r
run_part q j (Some p) r =
    next (q.body p.where_made p.template p.arguments p.path p.before p.ports r.log)
    (λ o. Ok (with_outcome j o p r))

abbrev pub started : Running → ℕ → (was_fed : Bool) → Option Part → Run → RunTried Run
started q j was_fed None r = Ok r
started q j was_fed (Some p) r =
    if not was_fed && is_fed p.signals then run_part q j (slice_get r.parts j) r else Ok r

abbrev pub started_at : Running → Option ℕ → (was_fed : Bool) → Run → RunTried Run
started_at q None was_fed r = Ok r
started_at q (Some j) was_fed r = started q j was_fed (slice_get r.known.frame.parts j) r

-- a write of signals is a step, unless it writes none
abbrev pub signal_step : Running → Where → Expr Meant → SignalAssignment → State → List ℕ → Run
    → RunTried Run
signal_step q w e a s [] r = Ok (with_known s r)
signal_step q w e a s (place ∷ places) r =
    next (stepping w r (number_in (environment q.context w q.call r.known r)
    (store_of r.known r.numbers) e q.fuel)) (λ d.
    started_at q a.target.part (is_fed (signals_of a.target.part r.known.frame)) (with_known s
    (write_wires a.target.part a.target.number a.target.reach.places d.items r)))

abbrev pub run_set_signal : Running → Where → (written : Assign Meant) → Meant → Accessors Meant
    → Arrow → Expr Meant → Run → RunTried Run
run_set_signal q w written m accessors arrow e r =
    next (refusing (signal_assignment q.context w m accessors e r.known)) (λ a.
    next (refusing (set_signal q.context w written m accessors arrow e r.known)) (λ s.
    signal_step q w e a s a.target.reach.places r))

-- a created component waits for its inputs
abbrev pub waiting : Context → Where → Creation → RunPart
waiting k w c = record {
  where_made = w;
  template = c.template;
  arguments = c.arguments;
  path = path_of k c.entry c.indices;
  before = c.state.world;
  ports = λ n k. None;
  inside = [];
}

abbrev pub run_created : Running → Where → Creation → List ℕ → State → Run → RunTried Run
run_created q w c [] s r = Ok (with_known s r)
run_created q w c (place ∷ places) s r =
    started_at q (Some (length r.parts)) false record r {
      known = s;
      parts = r.parts ++ waiting q.context
          w c ∷ [];
    }

abbrev pub run_create : Running → Where → ℕ → Accessors Meant → Expr Meant → Run → RunTried Run
run_create q w n accessors e r =
    next (refusing (creation q.context w n accessors e r.known)) (λ c.
    next (refusing (create q.context w c)) (λ s. run_created q w c c.places s r))

abbrev pub run_set_place : Running → Where → (written : Assign Meant) → Meant → Accessors Meant
    → Expr Meant → Run → RunTried Run
run_set_place q w written (meant.Variable n) accessors e r =
    run_set_variable q w written n accessors e r
run_set_place q w written (meant.Component n) accessors e r = run_create q w n accessors e r
run_set_place q w written _ accessors e r = refusing (refused w WrongKind)

abbrev pub run_assigned : Running → Where → (written : Assign Meant) → Assign Meant → Run
    → RunTried Run
run_assigned q w written (Set name m accessors e) r = run_set_place q w written m accessors e r
run_assigned q w written (Left name m accessors arrow e) r =
    run_set_signal q w written m accessors arrow e r
run_assigned q w written _ r = refusing (refused w WrongKind)

-- declarations
abbrev pub run_initial : Running → Where → Meant → Option (Expr Meant) → Run → RunTried Run
run_initial q w m None r = Ok r
run_initial q w m (Some e) r = run_set_place q w (Set [] m done e) m done e r

abbrev pub run_number : Where → Meant → (ℕ → RunTried Run) → RunTried Run
run_number w (meant.Variable n) go = go n
run_number w (meant.Signal direction n) go = go n
run_number w (meant.Component n) go = go n
run_number w _ go = refusing (refused w WrongKind)

abbrev pub run_variable : Running → Where → Variable Meant → Run → RunTried Run
run_variable q w v r =
    run_number w v.meant (λ n. next (refusing (dims_in q.context w false v.dimensions r.known))
    (λ (dims, s).
    run_initial q w v.meant v.value (with_known (declare_variable n dims s) r)))

abbrev pub run_initial_signal : Running → Where → Meant → SignalValue Meant → Run → RunTried Run
run_initial_signal q w m Nothing r = Ok r
run_initial_signal q w m (Given arrow e) r =
    run_set_signal q w (Left [] m done arrow e) m done arrow e r

abbrev pub run_signal : Running → Spot → Direction → Signal Meant → Run → RunTried Run
run_signal q spot direction d r =
    run_number (at q.context spot) d.meant (λ n. next
    (refusing (dims_in q.context (at q.context spot) false d.dimensions r.known)) (λ (dims, s).
    run_initial_signal q (at q.context spot) d.meant d.value
    (with_known (declare_signal q.context spot direction n d.name dims s) r)))

-- what is known at compile time alone
abbrev pub run_known : (State → Tried State) → Run → RunTried Run
run_known go r = next (refusing (go r.known)) (λ s. Ok (with_known s r))

abbrev pub run_each : {A : Type 0} → (A → Run → RunTried Run) → List A → Run → RunTried Run
run_each f [] r = Ok r
run_each f (x ∷ xs) r = next (f x r) (run_each f xs)

abbrev pub run_slot : Running → Where → Arrow → Slot Meant → Expr Meant → Run → RunTried Run
run_slot q w arrow (SlotPlace name m accessors) e r =
    run_set_signal q w (Left name m accessors arrow e) m accessors arrow e r
run_slot q w arrow SlotDiscard e r = run_known (dropped q.context w e) r

abbrev pub run_slots : Running → Where → Arrow → List (Slot Meant) → List (Expr Meant) → Run
    → RunTried Run
run_slots q w arrow [] es r = Ok r
run_slots q w arrow (x ∷ xs) [] r = Ok r
run_slots q w arrow (x ∷ xs) (e ∷ es) r =
    next (run_slot q w arrow x e r) (run_slots q w arrow xs es)

abbrev pub run_tuple : Running → Where → Arrow → Target Meant → List (Expr Meant) → Run
    → RunTried Run
run_tuple q w arrow Discard es r = run_each (λ e. run_known (dropped q.context w e)) es r
run_tuple q w arrow (Slots xs) es r = run_slots q w arrow xs es r

-- two sides that differ stop
abbrev pub sides : Environment → Store → Expr Meant → Expr Meant → ℕ → Ran (Unit {0})
sides env store a b units =
    number (number_in env store a units) (λ m u1. number (number_in env store b u1) (λ n u2.
    if m == n then Ok (tt, u2) else Err constraint_fails))

abbrev pub run_equal : Running → Where → Expr Meant → Expr Meant → Run → RunTried Run
run_equal q w a b r =
    next (refusing (equal q.context w a b r.known)) (λ s.
    next (stepping w r (sides (environment q.context w q.call r.known r)
    (store_of r.known r.numbers) a b q.fuel)) (λ u. Ok (with_known s r)))

abbrev pub run_execute : Running → Spot → Simple Meant → Run → RunTried Run
run_execute q spot (Vars vs) r = run_each (run_variable q (at q.context spot)) vs r
run_execute q spot (Signals direction ds) r = run_each (run_signal q spot direction) ds r
run_execute q spot (Declared cs) r =
    run_each (λ c. run_known (component_declaration q.context (at q.context spot) c)) cs r
run_execute q spot (Created name m e) r =
    run_number (at q.context spot) m (λ n. run_create q (at q.context spot) n done e
    (with_known (declare_component n name [] r.known) r))
run_execute q spot (Assigned a) r = run_assigned q (at q.context spot) a (plain a) r
run_execute q spot (Constrain a b) r = run_equal q (at q.context spot) a b r
run_execute q spot (TargetLeft target arrow source) r =
    run_tuple q (at q.context spot) arrow target (values_of source) r
run_execute q spot _ r = refusing (refused (at q.context spot) WrongKind)

abbrev pub run_counted : Running → Spot → Run → RunTried Run
run_counted q spot r = run_known (counted (at q.context spot)) r

abbrev pub run_execute_counted : Running → Spot → Simple Meant → Run → RunTried Run
run_execute_counted q spot x r = next (run_execute q spot x r) (run_counted q spot)

-- anonymous components as at compile time
abbrev pub run_lifted : Running → Spot → Lifted (Simple Meant) → Run → RunTried Run
run_lifted q spot l r =
    next (run_each (run_execute_counted q spot) l.before r) (run_execute_counted q spot l.value)

abbrev pub run_simple : Running → Spot → Simple Meant → Run → RunTried Run
run_simple q spot x r =
    run_lifted q spot (lift_simple q.context.program q.context.named_components x
    (length r.known.frame.components)) r
