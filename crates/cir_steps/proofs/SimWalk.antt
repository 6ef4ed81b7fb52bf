-- The run of statements beside the making of their steps, where those of an assignment, of a write
-- of signals, of a creation, of a declaration of signals, of a log line and under a condition that
-- isn't known are right.
use Rattle.std.proofs.Common.{◌≡◌, ℕ, zero, suc, false, List, [], ◌∷◌, length, Option, Some, None}
use Rattle.std.proofs.Common.{Ok, refl}
use Rattle.cir_ast.specs.declared.program.Spot.{Spot}
use Rattle.cir_ast.specs.declared.program.Meant.{Meant}
use Rattle.cir_ast.specs.declared.program.Meant.TheVariants as meant
use Rattle.cir_ast.specs.declared.operators.Arrow.{Arrow}
use Rattle.cir_ast.specs.declared.operators.Direction.{Direction}
use Rattle.cir_ast.specs.Tree.{Expr, Accessors, done, Variable, SignalValue, Nothing, Given, Signal}
use Rattle.cir_ast.specs.Tree.{Assign, Set, Compound, Left, Increment, Decrement, LogArgument, Slot}
use Rattle.cir_ast.specs.Tree.{SlotPlace, SlotDiscard, Target, Discard, Slots, Simple, Vars}
use Rattle.cir_ast.specs.Tree.{Signals, Declared, Created, Assigned, Constrain, Right, TargetLeft}
use Rattle.cir_ast.specs.Tree.{TargetRight, Alone, Statement, Block, If, IfElse, While, For, Return}
use Rattle.cir_ast.specs.Tree.{Assert, Log, Ended, Statements, empty, then_more}
use Rattle.cir_meaning.specs.Tried.{Where, Tried, next}
use Rattle.cir_meaning.specs.Arrays.{Scalar, the_item}
use Rattle.cir_meaning.specs.Values.{Value}
use Rattle.cir_meaning.specs.Frame.{State, Context, at, counted}
use Rattle.cir_meaning.specs.Evaluate.{value_in, dims_in}
use Rattle.cir_meaning.specs.Anonymous.{Lifted, lift_simple}
use Rattle.cir_meaning.specs.Writing.{plain}
use Rattle.cir_meaning.specs.Declaring.{declare_variable, declare_signal, declare_component}
use Rattle.cir_meaning.specs.Simple as simple
use Rattle.cir_meaning.specs.Unknown.{Fault, first_of, assign_fault, fault_of}
use Rattle.cir_meaning.specs.Statement.{condition, decided, most_turns, loop_of, first_simple}
use Rattle.cir_meaning.specs.Run.{RunTried, Run, refusing}
use Rattle.cir_meaning.specs.RunSimple as run
use Rattle.cir_meaning.specs.RunSimple.{Runner, with_known}
use Rattle.cir_meaning.specs.RunBodies as run'
use Rattle.cir_meaning.proofs.Good.{good_is}
use Rattle.cir_meaning.proofs.Likes.{CallKeeps, like_itself, value_like}
use Rattle.cir_meaning.specs.Scoped.{Scope, AreCallsMeant, IsSetMeant, IsAssignMeant}
use Rattle.cir_meaning.specs.Scoped.{IsSignalValueMeant}
use Rattle.cir_meaning.proofs.ScopeLaws.{set_meant}
use Rattle.cir_meaning.proofs.ScopedQuiet.{everything}
use Rattle.cir_meaning.proofs.LiftedStatements.{IsLifted, LiftsTo, IsWide, LiftedAs, simple_lifted}
use Rattle.cir_steps.proofs.Templates.{IsPlain, ArePlain}
use Rattle.std.specs.List.{AllByRecursion}
use Rattle.std.specs.Prelude.{⊤}
use Rattle.cir_steps.specs.RunSteps.{Calling}
use Rattle.cir_steps.specs.Emission.{Emission, Emitted, quiet, with_state, emit_known}
use Rattle.cir_steps.specs.Emission.{made_elements, with_signal}
use Rattle.cir_steps.specs.Making.{Caster, Emitting}
use Rattle.cir_steps.specs.Emit as emit
use Rattle.cir_steps.specs.Statements as emit'
use Rattle.cir_steps.proofs.Wide.{lifted_wide, values_meant}
use Rattle.cir_steps.proofs.Simulation.{Calm, calm_like, calm_then, running, emitting, Sim}
use Rattle.cir_steps.proofs.Simulation.{sim_quiet, sim_bad, sim_calm, sim_same, sim_known, sim_then}
use Rattle.cir_steps.proofs.Simulation.{sim_each, sim_number, sim_decided}
use Rattle.cir_steps.proofs.Calming.{calm_itself, calm_declared, counted_calm, condition_calm}
use Rattle.cir_steps.proofs.Calming.{dims_calm, dropped_calm, component_calm}

module _ (k : Context) (keeps : CallKeeps k.call) (fuel : ℕ) (call : Calling) (body : Runner)
    (cast : Caster) (functions : ℕ) where
  -- all variables are in scope
  abbrev pub All : Scope
  All = everything functions

  abbrev pub Wide : Simple Meant → Type 0
  Wide = IsWide All k.program k.named_components

  abbrev mutual
    pub Means : Statement Spot Meant → Type 0
    Means (Block spot ss) = AllMean ss
    Means (If spot c a) = Means a
    Means (IfElse spot c a b) = Means a × Means b
    Means (While spot c a) = Means a
    Means (For spot first_spot f c step_spot a body) =
        Wide (first_simple f) × Wide (Assigned a) × Means body
    Means (Ended spot x) = Wide x
    Means _ = ⊤

    pub AllMean : Statements Spot Meant → Type 0
    AllMean empty = ⊤
    AllMean (then_more a rest) = Means a × AllMean rest

  abbrev pub Beside' : Run → Emission → RunTried Run → Tried Emitted → Type 0
  Beside' = Sim k fuel call body cast

  abbrev q : run.Running
  q = running k fuel call body cast

  abbrev e : Emitting
  e = emitting k fuel call body cast

  pub record SimLeaves : Type 0 where
    pub assigned : (w : Where) (written : Assign Meant) (n : ℕ) (accessors : Accessors Meant)
        (a : Expr Meant) (r : Run) (x : Emission) → IsSetMeant All (meant.Variable n) accessors a
        → Beside' r x (run.run_set_variable q w written n accessors a r)
        (emit.emit_set_variable e w written n accessors a (with_state r.known x))
    pub wired : (w : Where) (written : Assign Meant) (m : Meant) (accessors : Accessors Meant)
        (arrow : Arrow) (a : Expr Meant) (r : Run) (x : Emission) → AreCallsMeant All a
        → Beside' r x (run.run_set_signal q w written m accessors arrow a r)
        (emit.emit_set_signal e w written m accessors arrow a (with_state r.known x))
    pub created : (w : Where) (n : ℕ) (accessors : Accessors Meant) (a : Expr Meant) (r : Run)
        (x : Emission) → Beside' r x (run.run_create q w n accessors a r)
        (emit.emit_create e w n accessors a (with_state r.known x))
    pub declared : (spot : Spot) (direction : Direction) (n : ℕ) (name dims : List ℕ)
        (s : State) (r : Run) (x : Emission) (m : RunTried Run) (y : Tried Emitted)
        → Calm r.known s
        → Beside' (with_known (declare_signal k spot direction n name dims s) r)
        (with_signal n (made_elements dims)
        (with_state (declare_signal k spot direction n name dims s) x)) m y
        → Beside' r x m y
    pub compared : (w : Where) (a b : Expr Meant) (r : Run) (x : Emission)
        → Beside' r x (run.run_equal q w a b r) (emit.emit_equal e w a b (with_state r.known x))
    pub asserted : (w : Where) (a : Expr Meant) (v : Value) (s : State) (r : Run) (x : Emission)
        → Calm r.known s → Beside' r x (run'.run_assert_value q w a v s r)
        (emit'.emit_assert_value e w a v s (with_state r.known x))
    pub logged : (w : Where) (arguments : List (LogArgument Meant)) (r : Run) (x : Emission)
        → Beside' r x (run'.run_log q w arguments r)
        (emit'.emit_log e w arguments (with_state r.known x))
    pub decided : (spot : Spot) (fault : Option Fault) (a : Statement Spot Meant) (r : Run)
        (x : Emission) → IsPlain a → Beside' r x (run'.run_undecided q spot fault a r)
        (emit'.emit_undecided e spot fault a (with_state r.known x))

  module _ (leaves : SimLeaves) where
    counted_sim : (spot : Spot) (r : Run) (x : Emission)
        → Beside' r x (run.run_counted q spot r) (emit.emit_counted e spot (with_state r.known x))
    counted_sim spot r x =
        sim_known k fuel call body cast r x (counted (at k spot)) (counted_calm (at k spot) r.known)

    set_sim : (w : Where) (written : Assign Meant) (m : Meant) (accessors : Accessors Meant)
        (a : Expr Meant) (r : Run) (x : Emission) → IsSetMeant All m accessors a
        → Beside' r x (run.run_set_place q w written m accessors a r)
        (emit.emit_set_place e w written m accessors a (with_state r.known x))
    set_sim w written (meant.Variable n) accessors a r x te =
        leaves.assigned w written n accessors a r x te
    set_sim w written (meant.Component n) accessors a r x te = leaves.created w n accessors a r x
    set_sim w written meant.Other accessors a r x te = sim_bad k fuel call body cast r x _ _
    set_sim w written (meant.Signal direction n) accessors a r x te =
        sim_bad k fuel call body cast r x _ _
    set_sim w written (meant.Template n) accessors a r x te = sim_bad k fuel call body cast r x _ _
    set_sim w written (meant.Function n) accessors a r x te = sim_bad k fuel call body cast r x _ _

    assigned_sim : (w : Where) (a : Assign Meant) (r : Run) (x : Emission) → IsAssignMeant All a
        → Beside' r x (run.run_assigned q w a (plain a) r)
        (emit.emit_assigned e w a (plain a) (with_state r.known x))
    assigned_sim w (Set name m accessors a) r x te =
        set_sim w (Set name m accessors a) m accessors a r x te
    assigned_sim w (Left name m accessors arrow a) r x te =
        leaves.wired w (Left name m accessors arrow a) m accessors arrow a r x te
    assigned_sim w (Compound name m accessors op a) r x te =
        set_sim w (Compound name m accessors op a) m accessors _ r x
        (set_meant All m accessors _ te.0 te.1 ((te.0, te.1), te.2))
    assigned_sim w (Increment name m accessors) r x te =
        set_sim w (Increment name m accessors) m accessors _ r x
        (set_meant All m accessors _ te.0 te.1 ((te.0, te.1), tt))
    assigned_sim w (Decrement name m accessors) r x te =
        set_sim w (Decrement name m accessors) m accessors _ r x
        (set_meant All m accessors _ te.0 te.1 ((te.0, te.1), tt))

    -- where something is told of each
    each_sim : {A : Type 0} (Q : A → Type 0) (f : A → Run → RunTried Run)
        (g : A → Emission → Tried Emitted) (as' : List A) (r : Run) (x : Emission)
        → AllByRecursion Q as' → ((a : A) (r' : Run) (x' : Emission) → Q a
        → Beside' r' x' (f a r') (g a (with_state r'.known x')))
        → Beside' r x (run.run_each f as' r) (emit.emit_each g as' (with_state r.known x))
    each_sim Q f g [] r x is h = sim_quiet k fuel call body cast r x r.known (calm_itself r.known)
    each_sim Q f g (a ∷ as') r x is h =
        sim_then k fuel call body cast r x (f a r) (g a (with_state r.known x))
        (run.run_each f as') (emit.emit_each g as') (h a r x is.0)
        (λ r' x'. each_sim Q f g as' r' x' is.1 h)

    initial_sim : (w : Where) (m : Meant) (o : Option (Expr Meant)) (r : Run) (x : Emission)
        → ((a : Expr Meant) → o ≡ Some a → IsSetMeant All m done a)
        → Beside' r x (run.run_initial q w m o r)
        (emit.emit_initial e w m o (with_state r.known x))
    initial_sim w m None r x te = sim_quiet k fuel call body cast r x r.known (calm_itself r.known)
    initial_sim w m (Some a) r x te = set_sim w (Set [] m done a) m done a r x (te a refl)

    variable_sim : (w : Where) (v : Variable Meant) (r : Run) (x : Emission)
        → ((a : Expr Meant) → v.value ≡ Some a → IsSetMeant All v.meant done a)
        → Beside' r x (run.run_variable q w v r)
        (emit.emit_variable e w v (with_state r.known x))
    variable_sim w v r x te =
        sim_number k fuel call body cast r x w v.meant _ _ (λ n.
        sim_same k fuel call body cast r x (dims_in k w false v.dimensions r.known) _ _
        (λ a is.
        sim_calm k fuel call body cast r x (declare_variable n a.0 a.1) _ _
        (both a n (good_is (λ a. Calm r.known a.1) (dims_in k w false v.dimensions r.known) a is
        (dims_calm k keeps w v.dimensions r.known)))
        (initial_sim w v.meant v.value (with_known (declare_variable n a.0 a.1) r)
        (with_state (declare_variable n a.0 a.1) x) te)))
      where
        both : (a : List ℕ × State) (n : ℕ) → Calm r.known a.1
            → Calm r.known (declare_variable n a.0 a.1)
        both a n c =
            calm_then r.known a.1 (declare_variable n a.0 a.1)
            c (calm_declared n a.0 a.1)

    initial_signal_sim : (w : Where) (m : Meant) (value : SignalValue Meant) (r : Run)
        (x : Emission) → IsSignalValueMeant All value
        → Beside' r x (run.run_initial_signal q w m value r)
        (emit.emit_initial_signal e w m value (with_state r.known x))
    initial_signal_sim w m Nothing r x te =
        sim_quiet k fuel call body cast r x r.known (calm_itself r.known)
    initial_signal_sim w m (Given arrow a) r x te =
        leaves.wired w (Left [] m done arrow a) m done arrow a r x te

    signal_sim : (spot : Spot) (direction : Direction) (d : Signal Meant) (r : Run)
        (x : Emission) → IsSignalValueMeant All d.value
        → Beside' r x (run.run_signal q spot direction d r)
        (emit.emit_signal e spot direction d (with_state r.known x))
    signal_sim spot direction d r x te =
        sim_number k fuel call body cast r x (at k spot) d.meant _ _ (λ n.
        sim_same k fuel call body cast r x (dims_in k (at k spot) false d.dimensions r.known) _ _
        (λ a is.
        leaves.declared spot direction n d.name a.0 a.1 r x _ _
        (good_is (λ a. Calm r.known a.1) (dims_in k (at k spot) false d.dimensions r.known) a is
        (dims_calm k keeps (at k spot) d.dimensions r.known))
        (initial_signal_sim (at k spot) d.meant d.value
        (with_known (declare_signal k spot direction n d.name a.0 a.1) r)
        (with_signal n (made_elements a.0)
        (with_state (declare_signal k spot direction n d.name a.0 a.1) x)) te)))

    dropped_sim : (w : Where) (a : Expr Meant) (r : Run) (x : Emission)
        → Beside' r x (run.run_known (simple.dropped k w a) r)
        (emit_known (simple.dropped k w a) (with_state r.known x))
    dropped_sim w a r x =
        sim_known k fuel call body cast r x (simple.dropped k w a)
        (dropped_calm k keeps w a r.known)

    slot_sim : (w : Where) (arrow : Arrow) (t : Slot Meant) (a : Expr Meant) (r : Run)
        (x : Emission) → AreCallsMeant All a → Beside' r x (run.run_slot q w arrow t a r)
        (emit.emit_slot e w arrow t a (with_state r.known x))
    slot_sim w arrow (SlotPlace name m accessors) a r x te =
        leaves.wired w (Left name m accessors arrow a) m accessors arrow a r x te
    slot_sim w arrow SlotDiscard a r x te = dropped_sim w a r x

    slots_sim : (w : Where) (arrow : Arrow) (ts : List (Slot Meant)) (es : List (Expr Meant))
        (r : Run) (x : Emission) → AllByRecursion (AreCallsMeant All) es
        → Beside' r x (run.run_slots q w arrow ts es r)
        (emit.emit_slots e w arrow ts es (with_state r.known x))
    slots_sim w arrow [] es r x te =
        sim_quiet k fuel call body cast r x r.known (calm_itself r.known)
    slots_sim w arrow (t ∷ ts) [] r x te =
        sim_quiet k fuel call body cast r x r.known (calm_itself r.known)
    slots_sim w arrow (t ∷ ts) (a ∷ es) r x te =
        sim_then k fuel call body cast r x (run.run_slot q w arrow t a r)
        (emit.emit_slot e w arrow t a (with_state r.known x)) (run.run_slots q w arrow ts es)
        (emit.emit_slots e w arrow ts es) (slot_sim w arrow t a r x te.0)
        (λ r1 x1. slots_sim w arrow ts es r1 x1 te.1)

    tuple_sim : (w : Where) (arrow : Arrow) (t : Target Meant) (es : List (Expr Meant)) (r : Run)
        (x : Emission) → AllByRecursion (AreCallsMeant All) es
        → Beside' r x (run.run_tuple q w arrow t es r)
        (emit.emit_tuple e w arrow t es (with_state r.known x))
    tuple_sim w arrow Discard es r x te =
        sim_each k fuel call body cast _ _ es r x (dropped_sim w)
    tuple_sim w arrow (Slots ts) es r x te = slots_sim w arrow ts es r x te

    execute_sim : (spot : Spot) (a : Simple Meant) (r : Run) (x : Emission) → Wide a
        → Beside' r x (run.run_execute q spot a r)
        (emit.emit_execute e spot a (with_state r.known x))
    execute_sim spot (Vars vs) r x te =
        each_sim _ _ _ vs r x te (variable_sim (at k spot))
    execute_sim spot (Signals direction ds) r x te =
        each_sim _ _ _ ds r x te (signal_sim spot direction)
    execute_sim spot (Declared cs) r x te =
        sim_each k fuel call body cast _ _ cs r x (λ c r' x'.
        sim_known k fuel call body cast r' x' (simple.component_declaration k (at k spot) c)
        (component_calm k keeps (at k spot) c r'.known))
    execute_sim spot (Created name m a) r x te =
        sim_number k fuel call body cast r x (at k spot) m _ _ (λ n.
        sim_calm k fuel call body cast r x (declare_component n name [] r.known) _ _
        (refl, refl, (λ numbers i. i), (λ i. i))
        (leaves.created (at k spot) n done a
        (with_known (declare_component n name [] r.known) r)
        (with_state (declare_component n name [] r.known) x)))
    execute_sim spot (Assigned a) r x te = assigned_sim (at k spot) a r x te
    execute_sim spot (Constrain a b) r x te = leaves.compared (at k spot) a b r x
    execute_sim spot (TargetLeft target arrow source) r x te =
        tuple_sim (at k spot) arrow target (simple.values_of source) r x
        (values_meant All source te)
    execute_sim spot (Right a arrow name m accessors) r x te = sim_bad k fuel call body cast r x _ _
    execute_sim spot (TargetRight source arrow target) r x te =
        sim_bad k fuel call body cast r x _ _
    execute_sim spot (Alone parallel name m arguments inputs) r x te =
        sim_bad k fuel call body cast r x _ _

    one_sim : (spot : Spot) (a : Simple Meant) (r : Run) (x : Emission) → Wide a
        → Beside' r x (run.run_execute_counted q spot a r)
        (emit.emit_execute_counted e spot a (with_state r.known x))
    one_sim spot a r x te =
        sim_then k fuel call body cast r x (run.run_execute q spot a r)
        (emit.emit_execute e spot a (with_state r.known x)) (run.run_counted q spot)
        (emit.emit_counted e spot) (execute_sim spot a r x te) (counted_sim spot)

    simple_sim : (spot : Spot) (a : Simple Meant) (r : Run) (x : Emission) → Wide a
        → Beside' r x (run.run_simple q spot a r)
        (emit.emit_simple e spot a (with_state r.known x))
    simple_sim spot a r x te =
        let n : ℕ = length r.known.frame.components in
        let l : Lifted (Simple Meant) = lift_simple k.program k.named_components a n in
        let its : LiftsTo All k.program k.named_components
        (LiftedAs All k.program k.named_components a) l =
        simple_lifted All k.program k.named_components a n te in
        sim_then k fuel call body cast r x _ _ (run.run_execute_counted q spot l.value)
        (emit.emit_execute_counted e spot l.value)
        (each_sim (IsLifted All) _ _ l.before r x its.0
        (λ y r1 x1 h. one_sim spot y r1 x1 (lifted_wide All k.program k.named_components y h)))
        (λ r1 x1. one_sim spot l.value r1 x1 its.1.0)

    condition_sim : (spot : Spot) (c : Expr Meant) (f t u : Run → RunTried Run)
        (g v w : Emission → Tried Emitted)
        → ((r : Run) (x : Emission) → Beside' r x (f r) (g (with_state r.known x)))
        → ((r : Run) (x : Emission) → Beside' r x (t r) (v (with_state r.known x)))
        → ((r : Run) (x : Emission) → Beside' r x (u r) (w (with_state r.known x)))
        → (r : Run) (x : Emission)
        → Beside' r x (next (refusing (condition k spot c r.known))
        (λ (a, s). decided a f t u (with_known s r)))
        (next (condition k spot c r.known) (λ (a, s). decided a g v w (with_state s x)))
    condition_sim spot c f t u g v w hf ht hu r x =
        sim_same k fuel call body cast r x (condition k spot c r.known) _ _ (λ a is.
        sim_calm k fuel call body cast r x a.1 _ _
        (good_is (λ a. Calm r.known a.1) (condition k spot c r.known) a is
        (condition_calm k keeps spot c r.known))
        (sim_decided k fuel call body cast (with_known a.1 r) (with_state a.1 x) a.0 f t u g v w
        hf ht hu))

    branch_sim : (spot : Spot) (c : Expr Meant) (f t u : Run → RunTried Run)
        (g v w : Emission → Tried Emitted)
        → ((r : Run) (x : Emission) → Beside' r x (f r) (g (with_state r.known x)))
        → ((r : Run) (x : Emission) → Beside' r x (t r) (v (with_state r.known x)))
        → ((r : Run) (x : Emission) → Beside' r x (u r) (w (with_state r.known x)))
        → (r : Run) (x : Emission)
        → Beside' r x (run'.run_branch q spot c f t u r)
        (emit'.emit_branch e spot c g v w (with_state r.known x))
    branch_sim spot c f t u g v w hf ht hu r x =
        sim_then k fuel call body cast r x (run.run_counted q spot r)
        (emit.emit_counted e spot (with_state r.known x)) _ _ (counted_sim spot r x)
        (condition_sim spot c f t u g v w hf ht hu)

    turns_sim : (n : ℕ) (spot : Spot) (c : Expr Meant) (t u : Run → RunTried Run)
        (v w : Emission → Tried Emitted)
        → ((r : Run) (x : Emission) → Beside' r x (t r) (v (with_state r.known x)))
        → ((r : Run) (x : Emission) → Beside' r x (u r) (w (with_state r.known x)))
        → (r : Run) (x : Emission)
        → Beside' r x (run'.run_turns n q spot c t u r)
        (emit'.emit_turns n e spot c v w (with_state r.known x))
    turns_sim zero spot c t u v w ht hu r x = sim_bad k fuel call body cast r x _ _
    turns_sim (suc n) spot c t u v w ht hu r x =
        condition_sim spot c (λ r1. Ok r1) _ u quiet _ w
        (λ r1 x1. sim_quiet k fuel call body cast r1 x1 r1.known (calm_itself r1.known))
        (λ r1 x1. sim_then k fuel call body cast r1 x1 (run.run_counted q spot r1)
        (emit.emit_counted e spot (with_state r1.known x1)) _ _ (counted_sim spot r1 x1)
        (λ r2 x2. sim_then k fuel call body cast r2 x2 (t r2) (v (with_state r2.known x2))
        (run'.run_turns n q spot c t u) (emit'.emit_turns n e spot c v w) (ht r2 x2)
        (turns_sim n spot c t u v w ht hu))) hu r x

    assert_sim : (spot : Spot) (a : Expr Meant) (r : Run) (x : Emission)
        → Beside' r x (run'.run_assert q (at k spot) a r)
        (emit'.emit_assert e (at k spot) a (with_state r.known x))
    assert_sim spot a r x =
        sim_same k fuel call body cast r x (value_in k (at k spot) false Scalar a r.known) _ _
        (λ b is. leaves.asserted (at k spot) a (the_item b.0) b.1 r x
        (calm_like r.known b.1 (good_is _ (value_in k (at k spot) false Scalar a r.known) b is
        (value_like r.known k keeps (at k spot) false Scalar a r.known (like_itself r.known)))))

    mutual
      pub statement_sim : (a : Statement Spot Meant) → Means a → IsPlain a → (r : Run)
          (x : Emission)
          → Beside' r x (run'.run q a r) (emit'.emit e a (with_state r.known x))
      statement_sim (Block spot ss) te pl r x =
          sim_then k fuel call body cast r x (run.run_counted q spot r)
          (emit.emit_counted e spot (with_state r.known x)) (run'.run_all q ss)
          (emit'.emit_all e ss) (counted_sim spot r x) (statements_sim ss te pl)
      statement_sim (If spot c a) te pl r x =
          branch_sim spot c (λ r1. Ok r1) (run'.run q a) _ quiet (emit'.emit e a) _
          (λ r1 x1. sim_quiet k fuel call body cast r1 x1 r1.known (calm_itself r1.known))
          (statement_sim a te pl)
          (λ r1 x1. leaves.decided spot (fault_of a) (If spot c a) r1 x1 pl) r x
      statement_sim (IfElse spot c a b) te pl r x =
          branch_sim spot c (run'.run q b) (run'.run q a) _ (emit'.emit e b) (emit'.emit e a) _
          (statement_sim b te.1 pl.1) (statement_sim a te.0 pl.0)
          (λ r1 x1. leaves.decided spot (first_of (fault_of a) (fault_of b)) (IfElse spot c a b) r1
          x1 pl) r x
      statement_sim (While spot c a) te pl r x =
          sim_then k fuel call body cast r x (run.run_counted q spot r)
          (emit.emit_counted e spot (with_state r.known x)) _ _ (counted_sim spot r x)
          (turns_sim most_turns spot c (run'.run q a) _ (emit'.emit e a) _
          (statement_sim a te pl.0)
          (λ r1 x1. leaves.decided spot (fault_of a) (While spot c a) r1 x1 pl))
      statement_sim (For spot first_spot f c step_spot a body') te pl r x =
          sim_then k fuel call body cast r x (run.run_counted q spot r)
          (emit.emit_counted e spot (with_state r.known x)) _ _ (counted_sim spot r x) (λ r1 x1.
          sim_then k fuel call body cast r1 x1 (run.run_simple q first_spot (first_simple f) r1)
          (emit.emit_simple e first_spot (first_simple f) (with_state r1.known x1)) _ _
          (simple_sim first_spot (first_simple f) r1 x1 te.0) (λ r2 x2.
          sim_then k fuel call body cast r2 x2 (run.run_counted q spot r2)
          (emit.emit_counted e spot (with_state r2.known x2)) _ _ (counted_sim spot r2 x2)
          (turns_sim most_turns spot c _ _ _ _ (λ r3 x3.
          sim_then k fuel call body cast r3 x3 (run.run_counted q spot r3)
          (emit.emit_counted e spot (with_state r3.known x3)) _ _ (counted_sim spot r3 x3)
          (λ r4 x4. sim_then k fuel call body cast r4 x4 (run'.run q body' r4)
          (emit'.emit e body' (with_state r4.known x4))
          (run.run_simple q step_spot (Assigned a)) (emit.emit_simple e step_spot (Assigned a))
          (statement_sim body' te.2 pl.0 r4 x4)
          (λ r5 x5. simple_sim step_spot (Assigned a) r5 x5 te.1)))
          (λ r3 x3. leaves.decided spot (first_of (assign_fault step_spot a) (fault_of body'))
          (loop_of spot c body' step_spot a) r3 x3 ((pl.0, (tt, tt)), pl.1)))))
      statement_sim (Return spot a) te pl r x = sim_bad k fuel call body cast r x _ _
      statement_sim (Assert spot a) te pl r x =
          sim_then k fuel call body cast r x (run'.run_assert q (at k spot) a r)
          (emit'.emit_assert e (at k spot) a (with_state r.known x)) (run.run_counted q spot)
          (emit.emit_counted e spot) (assert_sim spot a r x) (counted_sim spot)
      statement_sim (Log spot arguments) te pl r x =
          sim_then k fuel call body cast r x (run'.run_log q (at k spot) arguments r)
          (emit'.emit_log e (at k spot) arguments (with_state r.known x))
          (run.run_counted q spot) (emit.emit_counted e spot)
          (leaves.logged (at k spot) arguments r x) (counted_sim spot)
      statement_sim (Ended spot a) te pl r x = simple_sim spot a r x te

      pub statements_sim : (ss : Statements Spot Meant) → AllMean ss → ArePlain ss → (r : Run)
          (x : Emission)
          → Beside' r x (run'.run_all q ss r) (emit'.emit_all e ss (with_state r.known x))
      statements_sim empty te pl r x =
          sim_quiet k fuel call body cast r x r.known (calm_itself r.known)
      statements_sim (then_more a rest) te pl r x =
          sim_then k fuel call body cast r x (run'.run q a r)
          (emit'.emit e a (with_state r.known x)) (run'.run_all q rest) (emit'.emit_all e rest)
          (statement_sim a te.0 pl.0 r x) (statements_sim rest te.1 pl.1)
