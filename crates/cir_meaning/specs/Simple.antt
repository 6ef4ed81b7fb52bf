-- The execution of simple statements. Limits are tested at the end of each, with all that it adds.
use Rattle.std.specs.Prelude.{ℕ, false, if◌then◌else◌, List, [], ◌∷◌, length, Option, Some, None}
use Rattle.std.specs.Prelude.{Ok}
use Rattle.cir_ast.specs.declared.program.Spot.{Spot}
use Rattle.cir_ast.specs.declared.program.Meant.{Meant}
use Rattle.cir_ast.specs.declared.program.Meant.TheVariants as meant
use Rattle.cir_ast.specs.declared.operators.Arrow.{Arrow}
use Rattle.cir_ast.specs.declared.operators.Direction.{Direction}
use Rattle.cir_ast.specs.declared.refusal.Kind.TheVariants.{WrongKind}
use Rattle.cir_ast.specs.Tree.{Expr, Accessors, done, Variable, SignalValue, Nothing, Given, Signal}
use Rattle.cir_ast.specs.Tree.{Component, Assign, Set, Left, Slot, SlotPlace, SlotDiscard, Target}
use Rattle.cir_ast.specs.Tree.{Discard, Slots, Source, One, Values, Simple, Vars, Signals, Declared}
use Rattle.cir_ast.specs.Tree.{Created, Assigned, Constrain, TargetLeft}
use Rattle.cir_meaning.specs.Tried.{Where, Tried, next, refused}
use Rattle.cir_meaning.specs.Arrays.{Scalar, Whole}
use Rattle.cir_meaning.specs.Frame.{State, Context, at, counted}
use Rattle.cir_meaning.specs.Evaluate.{scalar, value_in, dims_in}
use Rattle.cir_meaning.specs.Anonymous.{Lifted, lift_simple}
use Rattle.cir_meaning.specs.Writing.{plain, variable_assignment, is_unknown, write_variable}
use Rattle.cir_meaning.specs.Writing.{signal_assignment, write_signal, constrained}
use Rattle.cir_meaning.specs.Declaring.{declare_variable, declare_signal, declare_component}
use Rattle.cir_meaning.specs.Declaring.{creation, create}
use Rattle.cir_meaning.specs.Costs.{Cost}
use Rattle.cir_meaning.specs.Steps.{stepped, variable_cost, signal_cost, equal_cost, new_cells}

-- `=` writes a variable, and creates a component. `written` is the assignment as it is written.
abbrev pub set_variable : Context → Where → (written : Assign Meant) → ℕ → Accessors Meant
    → Expr Meant → State → Tried State
set_variable k w written n accessors e s =
    next (variable_assignment k w n accessors e s) (λ a.
    if is_unknown n a then stepped k w (variable_cost k w written n accessors e a s) (new_cells n a)
    (write_variable n a)
    else Ok (write_variable n a))

abbrev pub set : Context → Where → (written : Assign Meant) → Meant → Accessors Meant → Expr Meant
    → State → Tried State
set k w written (meant.Variable n) accessors e s = set_variable k w written n accessors e s
set k w written (meant.Component n) accessors e s = next (creation k w n accessors e s) (create k w)
set k w written _ accessors e s = refused w WrongKind

-- a write of no signal is no step
abbrev pub wired : Context → Where → Cost → List ℕ → State → Tried State
wired k w cost [] s = Ok s
wired k w cost (place ∷ places) s = stepped k w cost 0 s

abbrev pub set_signal : Context → Where → (written : Assign Meant) → Meant → Accessors Meant → Arrow
    → Expr Meant → State → Tried State
set_signal k w written m accessors arrow e s =
    next (signal_assignment k w m accessors e s) (λ a.
    next (write_signal k w arrow a) (wired k w (signal_cost k w written accessors e s)
    a.target.reach.places))

abbrev pub assigned : Context → Where → (written : Assign Meant) → Assign Meant → State
    → Tried State
assigned k w written (Set name m accessors e) s = set k w written m accessors e s
assigned k w written (Left name m accessors arrow e) s =
    set_signal k w written m accessors arrow e s
assigned k w written _ s = refused w WrongKind

abbrev pub assign : Context → Where → Assign Meant → State → Tried State
assign k w a s = assigned k w a (plain a) s

-- a declaration comes first, and its name is seen in its value
abbrev pub declared_number : Where → Meant → (ℕ → Tried State) → Tried State
declared_number w (meant.Variable n) go = go n
declared_number w (meant.Signal direction n) go = go n
declared_number w (meant.Component n) go = go n
declared_number w _ go = refused w WrongKind

abbrev pub initial : Context → Where → Meant → Option (Expr Meant) → State → Tried State
initial k w m None s = Ok s
initial k w m (Some e) s = set k w (Set [] m done e) m done e s

abbrev pub variable_declaration : Context → Where → Variable Meant → State → Tried State
variable_declaration k w v s =
    declared_number w v.meant (λ n. next (dims_in k w false v.dimensions s) (λ (dims, s1).
    initial k w v.meant v.value (declare_variable n dims s1)))

abbrev pub initial_signal : Context → Where → Meant → SignalValue Meant → State → Tried State
initial_signal k w m Nothing s = Ok s
initial_signal k w m (Given arrow e) s = set_signal k w (Left [] m done arrow e) m done arrow e s

abbrev pub signal_declaration : Context → Spot → Direction → Signal Meant → State → Tried State
signal_declaration k spot direction d s =
    declared_number (at k spot) d.meant (λ n. next (dims_in k (at k spot) false d.dimensions s)
    (λ (dims, s1).
    initial_signal k (at k spot) d.meant d.value (declare_signal k spot direction n d.name dims
    s1)))

abbrev pub component_declaration : Context → Where → Component Meant → State → Tried State
component_declaration k w c s =
    declared_number w c.meant (λ n. next (dims_in k w false c.dimensions s) (λ (dims, s1).
    Ok (declare_component n c.name dims s1)))

abbrev pub each : {A : Type 0} → (A → State → Tried State) → List A → State → Tried State
each f [] s = Ok s
each f (x ∷ xs) s = next (f x s) (each f xs)

-- a value that `_` receives is evaluated, without a constraint
abbrev pub dropped : Context → Where → Expr Meant → State → Tried State
dropped k w e s = next (value_in k w false Whole e s) (λ (d, s1). Ok s1)

-- slot by slot, each with its value
abbrev pub slot : Context → Where → Arrow → Slot Meant → Expr Meant → State → Tried State
slot k w arrow (SlotPlace name m accessors) e s =
    set_signal k w (Left name m accessors arrow e) m accessors arrow e s
slot k w arrow SlotDiscard e s = dropped k w e s

abbrev pub slots : Context → Where → Arrow → List (Slot Meant) → List (Expr Meant) → State
    → Tried State
slots k w arrow [] es s = Ok s
slots k w arrow (x ∷ xs) [] s = Ok s
slots k w arrow (x ∷ xs) (e ∷ es) s = next (slot k w arrow x e s) (slots k w arrow xs es)

abbrev pub values_of : Source Meant → List (Expr Meant)
values_of (One e) = e ∷ []
values_of (Values es) = es

abbrev pub tuple : Context → Where → Arrow → Target Meant → List (Expr Meant) → State → Tried State
tuple k w arrow Discard es s = each (dropped k w) es s
tuple k w arrow (Slots xs) es s = slots k w arrow xs es s

abbrev pub equal : Context → Where → Expr Meant → Expr Meant → State → Tried State
equal k w a b s =
    scalar (value_in k w false Scalar a s) (λ x s1. scalar (value_in k w false Scalar b s1) (λ y s2.
    next (constrained k w x y s2) (λ s3. stepped k w (equal_cost k w a b s) 0 s3)))

-- a statement without anonymous components
abbrev pub execute : Context → Spot → Simple Meant → State → Tried State
execute k spot (Vars vs) s = each (variable_declaration k (at k spot)) vs s
execute k spot (Signals direction ds) s = each (signal_declaration k spot direction) ds s
execute k spot (Declared cs) s = each (component_declaration k (at k spot)) cs s
execute k spot (Created name m e) s =
    declared_number (at k spot) m (λ n. next (creation k (at k spot) n done e
    (declare_component n name [] s)) (create k (at k spot)))
execute k spot (Assigned a) s = assign k (at k spot) a s
execute k spot (Constrain a b) s = equal k (at k spot) a b s
execute k spot (TargetLeft target arrow source) s =
    tuple k (at k spot) arrow target (values_of source) s
execute k spot _ s = refused (at k spot) WrongKind

abbrev pub execute_counted : Context → Spot → Simple Meant → State → Tried State
execute_counted k spot x s = next (execute k spot x s) (counted (at k spot))

-- first the statements for its anonymous components, at its own place
abbrev pub lifted : Context → Spot → Lifted (Simple Meant) → State → Tried State
lifted k spot l s = next (each (execute_counted k spot) l.before s) (execute_counted k spot l.value)

abbrev pub simple : Context → Spot → Simple Meant → State → Tried State
simple k spot x s =
    lifted k spot (lift_simple k.program k.named_components x (length s.frame.components)) s
