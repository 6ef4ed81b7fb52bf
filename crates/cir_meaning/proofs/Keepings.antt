-- What each single step of a body keeps, its whole execution keeps; and what holds where a
-- statement is counted holds at the end.
use Rattle.std.proofs.Common.{ℕ, zero, suc, Bool, true, false, List, [], ◌∷◌, length, Option, Some}
use Rattle.std.proofs.Common.{None, Ok}
use Rattle.std.specs.Prelude.{◌==◌, ⊤}
use Rattle.cir_ast.specs.declared.program.Spot.{Spot}
use Rattle.cir_ast.specs.declared.program.Meant.{Meant}
use Rattle.cir_ast.specs.declared.program.Meant.TheVariants as meant
use Rattle.cir_ast.specs.declared.operators.Arrow.{Arrow}
use Rattle.cir_ast.specs.declared.operators.Direction.{Direction}
use Rattle.cir_ast.specs.Tree.{Expr, Accessors, done, Variable, SignalValue, Nothing, Given, Signal}
use Rattle.cir_ast.specs.Tree.{Component, Assign, Set, Compound, Left, Increment, Decrement}
use Rattle.cir_ast.specs.Tree.{LogArgument, Words, LogValue, Slot, SlotPlace, SlotDiscard, Target}
use Rattle.cir_ast.specs.Tree.{Discard, Slots, Simple, Vars, Signals, Declared, Created, Assigned}
use Rattle.cir_ast.specs.Tree.{Constrain, Right, TargetLeft, TargetRight, Alone, Statement, Block}
use Rattle.cir_ast.specs.Tree.{If, IfElse, While, For, Return, Assert, Log, Ended, Statements}
use Rattle.cir_ast.specs.Tree.{empty, then_more}
use Rattle.cir_meaning.specs.Tried.{Where, Tried, next}
use Rattle.cir_meaning.specs.Arrays.{Datum, Want, Whole}
use Rattle.cir_meaning.specs.Values.{Value, Known, Linear, Quadratic, Opaque}
use Rattle.cir_meaning.specs.Frame.{World, State, Context, at, adding, settle, counted}
use Rattle.cir_meaning.specs.Frame.{one_statement}
use Rattle.cir_meaning.specs.Evaluate.{value_in, dims_in}
use Rattle.cir_meaning.specs.Anonymous.{Lifted, lift_simple}
use Rattle.cir_meaning.specs.Writing.{plain}
use Rattle.cir_meaning.specs.Declaring.{declare_variable, declare_signal, declare_component}
use Rattle.cir_meaning.specs.Declaring.{creation, create}
use Rattle.cir_meaning.specs.Costs.{Cost}
use Rattle.cir_meaning.specs.Steps.{stepped, undecided_cost, undecided_cells, assert_cost, log_cost}
use Rattle.cir_meaning.specs.Steps.{logged_cells}
use Rattle.cir_meaning.specs.Unknown.{Fault, first_of, assign_fault, fault_of, outer_assigned}
use Rattle.cir_meaning.specs.Unknown.{declares}
use Rattle.cir_meaning.specs.Simple as simple
use Rattle.cir_meaning.specs.Scan.{forget_one, forget, scan_declared, scan, allowed, undecided}
use Rattle.cir_meaning.specs.Statement.{Flow, Going, Returned, going, goes, decided, condition}
use Rattle.cir_meaning.specs.Statement.{branch, most_turns, turns, loop_of, first_simple}
use Rattle.cir_meaning.specs.Statement.{assert_value, logged, log_values, exec, exec_all}
use Rattle.cir_meaning.proofs.Good.{OnGood, good_ok, good_bad, good_next, good_weaker, either}
use Rattle.cir_meaning.proofs.ValueKeepings.{Valued, scalar_kept, dims_kept}
use Rattle.cir_meaning.proofs.Scans.{scan_kept, may_any}

-- one of three
pub decided_as : {A : Type 0} (Q : A → Type 0) (v : Value) (x y z : A) → Q x → Q y → Q z
    → Q (decided v x y z)
decided_as Q (Known n) x y z h i j = either Q (n == 0) x y h i
decided_as Q (Linear f) x y z h i j = j
decided_as Q (Quadratic a b c) x y z h i j = j
decided_as Q Opaque x y z h i j = j

-- of a flow: what holds at the end of a statement, and of what is returned
abbrev pub FlowIs : (State → Type 0) → (Datum → World → Type 0) → Flow → Type 0
FlowIs Done Gone (Going s) = Done s
FlowIs Done Gone (Returned d world) = Gone d world

-- what holds within statements, what holds at their ends, and what holds of what is returned
pub record Keeping (k : Context) : Type 1 where
  pub Kept : State → Type 0
  pub Done : State → Type 0
  pub Gone : Datum → World → Type 0
  pub done : (s : State) → Done s → Kept s
  pub value : (w : Where) (shaded : Bool) (want : Want) (e : Expr Meant) (s : State) → Kept s
      → OnGood (λ x. Kept x.1) (value_in k w shaded want e s)
  pub settle : (w : Where) (s : State) → Kept s → OnGood Done (settle w s)
  pub statement : (s : State) → Kept s → Kept (adding one_statement s)
  pub step : (w : Where) (cost : Cost) (cells : ℕ) (s : State) → Kept s
      → OnGood Kept (stepped k w cost cells s)
  pub variable : (n : ℕ) (dims : List ℕ) (s : State) → Kept s → Kept (declare_variable n dims s)
  pub scanned : (n : ℕ) (dims : List ℕ) (s : State) → Kept s → Kept (scan_declared n dims s)
  pub forgotten : (n : ℕ) (s : State) → Kept s → Kept (forget_one n s)
  pub signal : (spot : Spot) (direction : Direction) (n : ℕ) (name dims : List ℕ) (s : State)
      → Kept s → Kept (declare_signal k spot direction n name dims s)
  pub component : (n : ℕ) (name dims : List ℕ) (s : State) → Kept s
      → Kept (declare_component n name dims s)
  pub set_variable : (w : Where) (written : Assign Meant) (n : ℕ) (accessors : Accessors Meant)
      (e : Expr Meant) (s : State) → Kept s
      → OnGood Kept (simple.set_variable k w written n accessors e s)
  pub set_signal : (w : Where) (written : Assign Meant) (m : Meant) (accessors : Accessors Meant)
      (arrow : Arrow) (e : Expr Meant) (s : State) → Kept s
      → OnGood Kept (simple.set_signal k w written m accessors arrow e s)
  pub equal : (w : Where) (a b : Expr Meant) (s : State) → Kept s
      → OnGood Kept (simple.equal k w a b s)
  pub create : (w : Where) (n : ℕ) (accessors : Accessors Meant) (e : Expr Meant) (s : State)
      → Kept s → OnGood Kept (next (creation k w n accessors e s) (create k w))
  pub returns : (w : Where) (e : Expr Meant) (s : State) → Kept s
      → OnGood (FlowIs Done Gone) (next (value_in k w false Whole e s)
      (λ (d, s1). next (counted w s1) (λ s2. Ok (Returned d s2.world))))

module _ (k : Context) (keeping : Keeping k) where
  abbrev pub Kept : State → Type 0
  Kept = keeping.Kept

  abbrev pub Done : State → Type 0
  Done = keeping.Done

  abbrev pub FlowKept : Flow → Type 0
  FlowKept = FlowIs keeping.Done keeping.Gone

  -- steps from state to state
  abbrev pub Keeps : (State → Tried State) → Type 0
  Keeps go = (s : State) → Kept s → OnGood Kept (go s)

  pub then_keeps : (m : Tried State) (go : State → Tried State) → OnGood Kept m → Keeps go
      → OnGood Kept (next m go)
  then_keeps m go h f = good_next Kept Kept m go h f

  pub each_keeps : {A : Type 0} (f : A → State → Tried State) (xs : List A)
      → ((x : A) → Keeps (f x))
      → Keeps (simple.each f xs)
  each_keeps f [] h s g = good_ok Kept s g
  each_keeps f (x ∷ xs) h s g = then_keeps (f x s) (simple.each f xs) (h x s g) (each_keeps f xs h)

  declared_keeps : (w : Where) (m : Meant) (go : ℕ → Tried State) → ((n : ℕ) → OnGood Kept (go n))
      → OnGood Kept (simple.declared_number w m go)
  declared_keeps w (meant.Variable n) go h = h n
  declared_keeps w (meant.Signal direction n) go h = h n
  declared_keeps w (meant.Component n) go h = h n
  declared_keeps w meant.Other go h = good_bad Kept _
  declared_keeps w (meant.Template n) go h = good_bad Kept _
  declared_keeps w (meant.Function n) go h = good_bad Kept _

  -- a value that isn't looked at further
  dropping : {A : Type 0} (P : A → Type 0) (m : Tried A) (go : A → Tried State) → OnGood P m
      → ((a : A) → P a → OnGood Kept (go a)) → OnGood Kept (next m go)
  dropping P m go h f = good_next P Kept m go h f

  -- statements
  abbrev pub Flows : (State → Tried Flow) → Type 0
  Flows go = (s : State) → Done s → OnGood FlowKept (go s)

  -- steps to the end of a statement
  abbrev pub Ends : (State → Tried State) → Type 0
  Ends go = (s : State) → Kept s → OnGood Done (go s)

  ends_keep : (go : State → Tried State) → Ends go → Keeps go
  ends_keep go h s g = good_weaker Done Kept (go s) (h s g) keeping.done

  goes_keeps : (m : Tried State) → OnGood Done m → OnGood FlowKept (goes m)
  goes_keeps m h = good_next Done FlowKept m _ h (λ s g. good_ok FlowKept (Going s) g)

  going_keeps : (f : Flow) (go : State → Tried Flow) → FlowKept f → Flows go
      → OnGood FlowKept (going f go)
  going_keeps (Going s) go h f = f s h
  going_keeps (Returned d world) go h f = good_ok FlowKept (Returned d world) h

  counted_keeps : (w : Where) (s : State) → Kept s → OnGood Done (counted w s)
  counted_keeps w s g = keeping.settle w (adding one_statement s) (keeping.statement s g)

  known : Valued k Kept false
  known w = keeping.value w false

  pub set_place_keeps : (w : Where) (written : Assign Meant) (m : Meant)
      (accessors : Accessors Meant) (e : Expr Meant)
      → Keeps (simple.set k w written m accessors e)
  set_place_keeps w written (meant.Variable n) accessors e s g =
      keeping.set_variable w written n accessors e s g
  set_place_keeps w written (meant.Component n) accessors e s g =
      keeping.create w n accessors e s g
  set_place_keeps w written meant.Other accessors e s g = good_bad Kept _
  set_place_keeps w written (meant.Signal direction n) accessors e s g = good_bad Kept _
  set_place_keeps w written (meant.Template n) accessors e s g = good_bad Kept _
  set_place_keeps w written (meant.Function n) accessors e s g = good_bad Kept _

  pub assigned_keeps : (w : Where) (written a : Assign Meant)
      → Keeps (simple.assigned k w written a)
  assigned_keeps w written (Set name m accessors e) s g =
      set_place_keeps w written m accessors e s g
  assigned_keeps w written (Left name m accessors arrow e) s g =
      keeping.set_signal w written m accessors arrow e s g
  assigned_keeps w written (Compound name m accessors op e) s g = good_bad Kept _
  assigned_keeps w written (Increment name m accessors) s g = good_bad Kept _
  assigned_keeps w written (Decrement name m accessors) s g = good_bad Kept _

  pub initial_keeps : (w : Where) (m : Meant) (value : Option (Expr Meant))
      → Keeps (simple.initial k w m value)
  initial_keeps w m None s g = good_ok Kept s g
  initial_keeps w m (Some e) s g = set_place_keeps w (Set [] m done e) m done e s g

  pub variable_keeps : (w : Where) (v : Variable Meant) → Keeps (simple.variable_declaration k w v)
  variable_keeps w v s g =
      declared_keeps w v.meant _ (λ n.
      dropping (λ x. Kept x.1) (dims_in k w false v.dimensions s) _
      (dims_kept k Kept false known w v.dimensions s g) (λ x g1.
      initial_keeps w v.meant v.value (declare_variable n x.0 x.1)
      (keeping.variable n x.0 x.1 g1)))

  pub initial_signal_keeps : (w : Where) (m : Meant) (value : SignalValue Meant)
      → Keeps (simple.initial_signal k w m value)
  initial_signal_keeps w m Nothing s g = good_ok Kept s g
  initial_signal_keeps w m (Given arrow e) s g =
      keeping.set_signal w (Left [] m done arrow e) m done arrow e s g

  pub signal_keeps : (spot : Spot) (direction : Direction) (d : Signal Meant)
      → Keeps (simple.signal_declaration k spot direction d)
  signal_keeps spot direction d s g =
      declared_keeps (at k spot) d.meant _ (λ n.
      dropping (λ x. Kept x.1) (dims_in k (at k spot) false d.dimensions s) _
      (dims_kept k Kept false known (at k spot) d.dimensions s g) (λ x g1.
      initial_signal_keeps (at k spot) d.meant d.value (declare_signal k spot direction n d.name x.0
      x.1) (keeping.signal spot direction n d.name x.0 x.1 g1)))

  pub component_keeps : (w : Where) (c : Component Meant)
      → Keeps (simple.component_declaration k w c)
  component_keeps w c s g =
      declared_keeps w c.meant _ (λ n.
      dropping (λ x. Kept x.1) (dims_in k w false c.dimensions s) _
      (dims_kept k Kept false known w c.dimensions s g)
      (λ x g1. good_ok Kept (declare_component n c.name x.0 x.1)
      (keeping.component n c.name x.0 x.1 g1)))

  pub dropped_keeps : (w : Where) (e : Expr Meant) → Keeps (simple.dropped k w e)
  dropped_keeps w e s g =
      good_next (λ x. Kept x.1) Kept (value_in k w false Whole e s) _
      (keeping.value w false Whole e s g) (λ x g1. good_ok Kept x.1 g1)

  slot_keeps : (w : Where) (arrow : Arrow) (x : Slot Meant) (e : Expr Meant)
      → Keeps (simple.slot k w arrow x e)
  slot_keeps w arrow (SlotPlace name m accessors) e s g =
      keeping.set_signal w (Left name m accessors arrow e) m accessors arrow e s g
  slot_keeps w arrow SlotDiscard e s g = dropped_keeps w e s g

  slots_keeps : (w : Where) (arrow : Arrow) (xs : List (Slot Meant)) (es : List (Expr Meant))
      → Keeps (simple.slots k w arrow xs es)
  slots_keeps w arrow [] es s g = good_ok Kept s g
  slots_keeps w arrow (x ∷ xs) [] s g = good_ok Kept s g
  slots_keeps w arrow (x ∷ xs) (e ∷ es) s g =
      then_keeps (simple.slot k w arrow x e s) (simple.slots k w arrow xs es)
      (slot_keeps w arrow x e s g) (slots_keeps w arrow xs es)

  tuple_keeps : (w : Where) (arrow : Arrow) (target : Target Meant) (es : List (Expr Meant))
      → Keeps (simple.tuple k w arrow target es)
  tuple_keeps w arrow Discard es s g = each_keeps (simple.dropped k w) es (dropped_keeps w) s g
  tuple_keeps w arrow (Slots xs) es s g = slots_keeps w arrow xs es s g

  pub execute_keeps : (spot : Spot) (x : Simple Meant) → Keeps (simple.execute k spot x)
  execute_keeps spot (Vars vs) s g =
      each_keeps (simple.variable_declaration k (at k spot)) vs (variable_keeps (at k spot)) s g
  execute_keeps spot (Signals direction ds) s g =
      each_keeps (simple.signal_declaration k spot direction) ds (signal_keeps spot direction) s g
  execute_keeps spot (Declared cs) s g =
      each_keeps (simple.component_declaration k (at k spot)) cs (component_keeps (at k spot)) s g
  execute_keeps spot (Created name m e) s g =
      declared_keeps (at k spot) m _ (λ n.
      keeping.create (at k spot) n done e (declare_component n name [] s)
      (keeping.component n name [] s g))
  execute_keeps spot (Assigned a) s g = assigned_keeps (at k spot) a (plain a) s g
  execute_keeps spot (Constrain a b) s g = keeping.equal (at k spot) a b s g
  execute_keeps spot (TargetLeft target arrow source) s g =
      tuple_keeps (at k spot) arrow target (simple.values_of source) s g
  execute_keeps spot (Right e arrow name m accessors) s g = good_bad Kept _
  execute_keeps spot (TargetRight source arrow target) s g = good_bad Kept _
  execute_keeps spot (Alone parallel name m arguments inputs) s g = good_bad Kept _

  pub execute_counted_keeps : (spot : Spot) (x : Simple Meant)
      → Ends (simple.execute_counted k spot x)
  execute_counted_keeps spot x s g =
      good_next Kept Done (simple.execute k spot x s) (counted (at k spot))
      (execute_keeps spot x s g) (counted_keeps (at k spot))

  lifted_keeps : (spot : Spot) (l : Lifted (Simple Meant)) → Ends (simple.lifted k spot l)
  lifted_keeps spot l s g =
      good_next Kept Done (simple.each (simple.execute_counted k spot) l.before s)
      (simple.execute_counted k spot l.value)
      (each_keeps (simple.execute_counted k spot) l.before
      (λ x. ends_keep (simple.execute_counted k spot x) (execute_counted_keeps spot x)) s g)
      (execute_counted_keeps spot l.value)

  pub simple_keeps : (spot : Spot) (x : Simple Meant) → Ends (simple.simple k spot x)
  simple_keeps spot x s g =
      lifted_keeps spot (lift_simple k.program k.named_components x (length s.frame.components)) s g

  -- scans
  pub forget_keeps : (ns : List ℕ) (s : State) → Kept s → Kept (forget ns s)
  forget_keeps [] s g = g
  forget_keeps (n ∷ ns) s g = forget_keeps ns (forget_one n s) (keeping.forgotten n s g)

  allowed_keeps : (o : Option Fault) (go : Tried State) → OnGood Done go
      → OnGood Done (allowed k o go)
  allowed_keeps None go h = h
  allowed_keeps (Some f) go h = good_bad Done _

  pub undecided_keeps : (spot : Spot) (fault : Option Fault) (a : Statement Spot Meant)
      → Ends (undecided k spot fault a)
  undecided_keeps spot fault a s g =
      allowed_keeps fault _ (good_next Kept Done
      (scan k (at k spot) a (forget (outer_assigned a) s)) _
      (scan_kept k Kept (λ w. keeping.value w true) (λ n. ⊤)
      (λ n dims t m. keeping.scanned n dims t) (at k spot) a (may_any (declares a))
      (forget (outer_assigned a) s) (forget_keeps (outer_assigned a) s g))
      (λ s1 g1.
      good_next Kept Done (stepped k (at k spot) (undecided_cost k (at k spot) a s s1)
      (undecided_cells a s) s1) (settle (at k spot))
      (keeping.step (at k spot) (undecided_cost k (at k spot) a s s1) (undecided_cells a s) s1 g1)
      (keeping.settle (at k spot))))

  -- a condition
  pub condition_keeps : (spot : Spot) (c : Expr Meant) (s : State) → Done s
      → OnGood (λ x. Done x.1) (condition k spot c s)
  condition_keeps spot c s g =
      scalar_kept k Kept false known (λ x. Done x.1) (at k spot) c s _ (keeping.done s g)
      (λ v s1 g1.
      good_next Done (λ x. Done x.1) (settle (at k spot) s1) _
      (keeping.settle (at k spot) s1 g1)
      (λ s2 g2. good_ok (λ x. Done x.1) (v, s2) g2))

  -- a statement that begins
  begins : (spot : Spot) (s : State) → Done s → OnGood Done (counted (at k spot) s)
  begins spot s g = counted_keeps (at k spot) s (keeping.done s g)

  branch_keeps : (spot : Spot) (c : Expr Meant) (x y z : State → Tried Flow) → Flows x → Flows y
      → Flows z → Flows (branch k spot c x y z)
  branch_keeps spot c x y z h i j s g =
      good_next Done FlowKept (counted (at k spot) s) _ (begins spot s g) (λ s1 g1.
      good_next (λ q. Done q.1) FlowKept (condition k spot c s1) _ (condition_keeps spot c s1 g1)
      (λ q g2. decided_as Flows q.0 x y z h i j q.1 g2))

  turns_keeps : (n : ℕ) (spot : Spot) (c : Expr Meant) (body unknown : State → Tried Flow)
      → Flows body → Flows unknown → Flows (turns n k spot c body unknown)
  turns_keeps zero spot c body unknown h i s g = good_bad FlowKept _
  turns_keeps (suc n) spot c body unknown h i s g =
      good_next (λ q. Done q.1) FlowKept (condition k spot c s) _ (condition_keeps spot c s g)
      (λ q g1. decided_as Flows q.0 _ _ unknown
      (λ s2 g2. good_ok FlowKept (Going s2) g2)
      (λ s2 g2. good_next Done FlowKept (counted (at k spot) s2) _ (begins spot s2 g2)
      (λ s3 g3.
      good_next FlowKept FlowKept (body s3) _ (h s3 g3)
      (λ f p. going_keeps f (turns n k spot c body unknown) p
      (turns_keeps n spot c body unknown h i))))
      i q.1 g1)

  pub assert_keeps : (w : Where) (e : Expr Meant) (before : State) (v : Value)
      → Keeps (assert_value k w e before v)
  assert_keeps w e before v s g =
      decided_as (OnGood Kept) v _ _ _ (good_bad Kept _) (good_ok Kept s g)
      (keeping.step w (assert_cost k w e before) 0 s g)

  logged_keeps : (w : Where) (a : LogArgument Meant) → Keeps (logged k w a)
  logged_keeps w (Words text) s g = good_ok Kept s g
  logged_keeps w (LogValue e) s g =
      scalar_kept k Kept false known Kept w e s _ g (λ v s1 g1. good_ok Kept s1 g1)

  pub log_keeps : (w : Where) (arguments : List (LogArgument Meant))
      → Keeps (log_values k w arguments)
  log_keeps w arguments s g =
      then_keeps (simple.each (logged k w) arguments s) _
      (each_keeps (logged k w) arguments (logged_keeps w) s g)
      (λ s1 g1. keeping.step w (log_cost k w arguments s) (logged_cells arguments) s1 g1)

  -- a statement that ends
  left_keeps : (spot : Spot) (fault : Option Fault) (a : Statement Spot Meant)
      → Flows (λ s. goes (undecided k spot fault a s))
  left_keeps spot fault a s g =
      goes_keeps (undecided k spot fault a s) (undecided_keeps spot fault a s (keeping.done s g))

  mutual
    pub exec_keeps : (a : Statement Spot Meant) → Flows (exec k a)
    exec_keeps (Block spot ss) s g =
        good_next Done FlowKept (counted (at k spot) s) (exec_all k ss) (begins spot s g)
        (λ s1 g1. exec_all_keeps ss s1 g1)
    exec_keeps (If spot c a) s g =
        branch_keeps spot c _ (exec k a) _ (λ s1 g1. good_ok FlowKept (Going s1) g1)
        (λ s1 g1. exec_keeps a s1 g1) (left_keeps spot (fault_of a) (If spot c a)) s g
    exec_keeps (IfElse spot c a b) s g =
        branch_keeps spot c (exec k b) (exec k a) _ (λ s1 g1. exec_keeps b s1 g1)
        (λ s1 g1. exec_keeps a s1 g1)
        (left_keeps spot (first_of (fault_of a) (fault_of b)) (IfElse spot c a b)) s g
    exec_keeps (While spot c a) s g =
        good_next Done FlowKept (counted (at k spot) s) _ (begins spot s g)
        (turns_keeps most_turns spot c (exec k a) _ (λ s1 g1. exec_keeps a s1 g1)
        (left_keeps spot (fault_of a) (While spot c a)))
    exec_keeps (For spot first_spot f c step_spot a body) s g =
        good_next Done FlowKept (counted (at k spot) s) _ (begins spot s g) (λ s1 g1.
        good_next Done FlowKept (simple.simple k first_spot (first_simple f) s1) _
        (simple_keeps first_spot (first_simple f) s1 (keeping.done s1 g1)) (λ s2 g2.
        good_next Done FlowKept (counted (at k spot) s2) _ (begins spot s2 g2)
        (turns_keeps most_turns spot c _ _
        (λ s3 g3. good_next Done FlowKept (counted (at k spot) s3) _ (begins spot s3 g3)
        (λ s4 g4.
        good_next FlowKept FlowKept (exec k body s4) _ (exec_keeps body s4 g4)
        (λ flow p. going_keeps flow _ p (λ s5 g5.
        goes_keeps _ (simple_keeps step_spot (Assigned a) s5 (keeping.done s5 g5))))))
        (left_keeps spot (first_of (assign_fault step_spot a) (fault_of body))
        (loop_of spot c body step_spot a)))))
    exec_keeps (Return spot e) s g = keeping.returns (at k spot) e s (keeping.done s g)
    exec_keeps (Assert spot e) s g =
        scalar_kept k Kept false known FlowKept (at k spot) e s _ (keeping.done s g) (λ v s1 g1.
        good_next Kept FlowKept (assert_value k (at k spot) e s v s1) _
        (assert_keeps (at k spot) e s v s1 g1)
        (λ s2 g2. goes_keeps (counted (at k spot) s2) (counted_keeps (at k spot) s2 g2)))
    exec_keeps (Log spot arguments) s g =
        good_next Kept FlowKept (log_values k (at k spot) arguments s) _
        (log_keeps (at k spot) arguments s (keeping.done s g))
        (λ s1 g1. goes_keeps (counted (at k spot) s1) (counted_keeps (at k spot) s1 g1))
    exec_keeps (Ended spot x) s g =
        goes_keeps (simple.simple k spot x s) (simple_keeps spot x s (keeping.done s g))

    pub exec_all_keeps : (ss : Statements Spot Meant) → Flows (exec_all k ss)
    exec_all_keeps empty s g = good_ok FlowKept (Going s) g
    exec_all_keeps (then_more a rest) s g =
        good_next FlowKept FlowKept (exec k a s) _ (exec_keeps a s g)
        (λ f p. going_keeps f (exec_all k rest) p (λ s1 g1. exec_all_keeps rest s1 g1))
