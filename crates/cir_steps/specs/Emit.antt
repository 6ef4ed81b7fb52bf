-- The steps of simple statements: each is executed as at compile time, and what isn't known there
-- is a step.
use Rattle.std.specs.Prelude.{ℕ, false, if◌then◌else◌, List, [], ◌∷◌, length, Option, Some, None}
use Rattle.cir_ast.specs.declared.program.Spot.{Spot}
use Rattle.cir_ast.specs.declared.program.Meant.{Meant}
use Rattle.cir_ast.specs.declared.program.Meant.TheVariants as meant
use Rattle.cir_ast.specs.declared.operators.Arrow.{Arrow}
use Rattle.cir_ast.specs.declared.operators.Direction.{Direction}
use Rattle.cir_ast.specs.declared.refusal.Kind.TheVariants.{WrongKind}
use Rattle.cir_ast.specs.Tree.{Expr, Accessors, done, Variable, SignalValue, Nothing, Given, Signal}
use Rattle.cir_ast.specs.Tree.{Assign, Set, Left, Slot, SlotPlace, SlotDiscard, Target, Discard}
use Rattle.cir_ast.specs.Tree.{Slots, Simple, Vars, Signals, Declared, Created, Assigned, Constrain}
use Rattle.cir_ast.specs.Tree.{TargetLeft}
use Rattle.cir_meaning.specs.Tried.{Where, Tried, next, refused}
use Rattle.cir_meaning.specs.Frame.{State, at, is_fed, counted}
use Rattle.cir_meaning.specs.Evaluate.{dims_in}
use Rattle.cir_meaning.specs.Anonymous.{Lifted, lift_simple}
use Rattle.cir_meaning.specs.Writing.{plain, variable_assignment, is_unknown, signals_of}
use Rattle.cir_meaning.specs.Writing.{SignalAssignment, signal_assignment}
use Rattle.cir_meaning.specs.Declaring.{declare_variable, declare_signal, declare_component}
use Rattle.cir_meaning.specs.Declaring.{Creation, creation, create, path_of}
use Rattle.cir_meaning.specs.Simple.{set_variable, set_signal, equal, component_declaration}
use Rattle.cir_meaning.specs.Simple.{dropped, values_of}
use Rattle.cir_steps.specs.Emission.{Emission, Emitted, quiet, behind, then_emit, known_in}
use Rattle.cir_steps.specs.Emission.{with_state, emit_known, made_elements, with_signal}
use Rattle.cir_steps.specs.Making.{Emitting, make_assignment, wiring, freed_at, with_cast}
use Rattle.cir_steps.specs.Making.{make_comparison}

abbrev pub emit_set_variable : Emitting → Where → (written : Assign Meant) → ℕ → Accessors Meant
    → Expr Meant → Emission → Tried Emitted
emit_set_variable q w written n accessors e x =
    next (variable_assignment q.context w n accessors e (known_in x)) (λ a.
    next (set_variable q.context w written n accessors e (known_in x)) (λ s.
    if is_unknown n a then make_assignment q.context w written n accessors e a s x
    else quiet (with_state s x)))

-- a write of no signal is no step
abbrev pub make_wiring : Emitting → Where → (written : Assign Meant) → Accessors Meant → Expr Meant
    → SignalAssignment → State → List ℕ → Emission → Tried Emitted
make_wiring q w written accessors e a s [] x = quiet (with_state s x)
make_wiring q w written accessors e a s (place ∷ places) x =
    behind (wiring q.context w written accessors e a x ∷ freed_at a.target.part
    (is_fed (signals_of a.target.part (known_in x).frame)) (with_state s x))
    (quiet (with_state s x))

abbrev pub emit_set_signal : Emitting → Where → (written : Assign Meant) → Meant → Accessors Meant
    → Arrow → Expr Meant → Emission → Tried Emitted
emit_set_signal q w written m accessors arrow e x =
    next (signal_assignment q.context w m accessors e (known_in x)) (λ a.
    next (set_signal q.context w written m accessors arrow e (known_in x)) (λ s.
    make_wiring q w written accessors e a s a.target.reach.places x))

-- a created component's steps are made, and wait
abbrev pub emit_created : Emitting → Where → Creation → List ℕ → State → Emission → Tried Emitted
emit_created q w c [] s x = quiet (with_state s x)
emit_created q w c (place ∷ places) s x =
    next (q.cast w c.template c.arguments (path_of q.context c.entry c.indices) c.state.world
    x.next) (λ o.
    behind (freed_at (Some (length x.bodies)) false (with_cast q.context w c o s x))
    (quiet (with_cast q.context w c o s x)))

abbrev pub emit_create : Emitting → Where → ℕ → Accessors Meant → Expr Meant → Emission
    → Tried Emitted
emit_create q w n accessors e x =
    next (creation q.context w n accessors e (known_in x)) (λ c.
    next (create q.context w c) (λ s. emit_created q w c c.places s x))

abbrev pub emit_set_place : Emitting → Where → (written : Assign Meant) → Meant → Accessors Meant
    → Expr Meant → Emission → Tried Emitted
emit_set_place q w written (meant.Variable n) accessors e x =
    emit_set_variable q w written n accessors e x
emit_set_place q w written (meant.Component n) accessors e x = emit_create q w n accessors e x
emit_set_place q w written _ accessors e x = refused w WrongKind

abbrev pub emit_assigned : Emitting → Where → (written : Assign Meant) → Assign Meant → Emission
    → Tried Emitted
emit_assigned q w written (Set name m accessors e) x = emit_set_place q w written m accessors e x
emit_assigned q w written (Left name m accessors arrow e) x =
    emit_set_signal q w written m accessors arrow e x
emit_assigned q w written _ x = refused w WrongKind

-- declarations
abbrev pub emit_initial : Emitting → Where → Meant → Option (Expr Meant) → Emission → Tried Emitted
emit_initial q w m None x = quiet x
emit_initial q w m (Some e) x = emit_set_place q w (Set [] m done e) m done e x

abbrev pub emit_number : Where → Meant → (ℕ → Tried Emitted) → Tried Emitted
emit_number w (meant.Variable n) go = go n
emit_number w (meant.Signal direction n) go = go n
emit_number w (meant.Component n) go = go n
emit_number w _ go = refused w WrongKind

abbrev pub emit_variable : Emitting → Where → Variable Meant → Emission → Tried Emitted
emit_variable q w v x =
    emit_number w v.meant (λ n. next (dims_in q.context w false v.dimensions (known_in x))
    (λ (dims, s).
    emit_initial q w v.meant v.value (with_state (declare_variable n dims s) x)))

abbrev pub emit_initial_signal : Emitting → Where → Meant → SignalValue Meant → Emission
    → Tried Emitted
emit_initial_signal q w m Nothing x = quiet x
emit_initial_signal q w m (Given arrow e) x =
    emit_set_signal q w (Left [] m done arrow e) m done arrow e x

abbrev pub emit_signal : Emitting → Spot → Direction → Signal Meant → Emission → Tried Emitted
emit_signal q spot direction d x =
    emit_number (at q.context spot) d.meant (λ n. next
    (dims_in q.context (at q.context spot) false d.dimensions (known_in x)) (λ (dims, s).
    emit_initial_signal q (at q.context spot) d.meant d.value (with_signal n (made_elements dims)
    (with_state (declare_signal q.context spot direction n d.name dims s) x))))

abbrev pub emit_each : {A : Type 0} → (A → Emission → Tried Emitted) → List A → Emission
    → Tried Emitted
emit_each f [] x = quiet x
emit_each f (a ∷ as') x = then_emit (f a x) (emit_each f as')

abbrev pub emit_slot : Emitting → Where → Arrow → Slot Meant → Expr Meant → Emission
    → Tried Emitted
emit_slot q w arrow (SlotPlace name m accessors) e x =
    emit_set_signal q w (Left name m accessors arrow e) m accessors arrow e x
emit_slot q w arrow SlotDiscard e x = emit_known (dropped q.context w e) x

abbrev pub emit_slots : Emitting → Where → Arrow → List (Slot Meant) → List (Expr Meant) → Emission
    → Tried Emitted
emit_slots q w arrow [] es x = quiet x
emit_slots q w arrow (t ∷ ts) [] x = quiet x
emit_slots q w arrow (t ∷ ts) (e ∷ es) x =
    then_emit (emit_slot q w arrow t e x) (emit_slots q w arrow ts es)

abbrev pub emit_tuple : Emitting → Where → Arrow → Target Meant → List (Expr Meant) → Emission
    → Tried Emitted
emit_tuple q w arrow Discard es x = emit_each (λ e. emit_known (dropped q.context w e)) es x
emit_tuple q w arrow (Slots ts) es x = emit_slots q w arrow ts es x

abbrev pub emit_equal : Emitting → Where → Expr Meant → Expr Meant → Emission → Tried Emitted
emit_equal q w a b x =
    next (equal q.context w a b (known_in x)) (λ s. make_comparison q.context w a b s x)

abbrev pub emit_execute : Emitting → Spot → Simple Meant → Emission → Tried Emitted
emit_execute q spot (Vars vs) x = emit_each (emit_variable q (at q.context spot)) vs x
emit_execute q spot (Signals direction ds) x = emit_each (emit_signal q spot direction) ds x
emit_execute q spot (Declared cs) x =
    emit_each (λ c. emit_known (component_declaration q.context (at q.context spot) c)) cs x
emit_execute q spot (Created name m e) x =
    emit_number (at q.context spot) m (λ n. emit_create q (at q.context spot) n done e
    (with_state (declare_component n name [] (known_in x)) x))
emit_execute q spot (Assigned a) x = emit_assigned q (at q.context spot) a (plain a) x
emit_execute q spot (Constrain a b) x = emit_equal q (at q.context spot) a b x
emit_execute q spot (TargetLeft target arrow source) x =
    emit_tuple q (at q.context spot) arrow target (values_of source) x
emit_execute q spot _ x = refused (at q.context spot) WrongKind

abbrev pub emit_counted : Emitting → Spot → Emission → Tried Emitted
emit_counted q spot x = emit_known (counted (at q.context spot)) x

abbrev pub emit_execute_counted : Emitting → Spot → Simple Meant → Emission → Tried Emitted
emit_execute_counted q spot a x = then_emit (emit_execute q spot a x) (emit_counted q spot)

-- anonymous components as at compile time
abbrev pub emit_lifted : Emitting → Spot → Lifted (Simple Meant) → Emission → Tried Emitted
emit_lifted q spot l x =
    then_emit (emit_each (emit_execute_counted q spot) l.before x)
    (emit_execute_counted q spot l.value)

abbrev pub emit_simple : Emitting → Spot → Simple Meant → Emission → Tried Emitted
emit_simple q spot a x =
    emit_lifted q spot (lift_simple q.context.program q.context.named_components a
    (length (known_in x).frame.components)) x
