-- The making of steps, statement by statement: a relation holds of what is made, where it holds of
-- each step and of what makes none.
use Rattle.std.proofs.Common.{◌≡◌, ℕ, zero, suc, ◌≤◌, Bool, true, false, cond, List, [], ◌∷◌}
use Rattle.std.proofs.Common.{length, Option, Some, None, Ok, Err, refl, sym, subst, arith}
use Rattle.std.specs.Prelude.{⊤, ◌==◌}
use Rattle.std.specs.List.{AllByRecursion}
use Rattle.cir_ast.specs.declared.program.Spot.{Spot}
use Rattle.cir_ast.specs.declared.program.Meant.{Meant}
use Rattle.cir_ast.specs.declared.program.Meant.TheVariants as meant
use Rattle.cir_ast.specs.declared.operators.Arrow.{Arrow}
use Rattle.cir_ast.specs.declared.operators.Direction.{Direction}
use Rattle.cir_ast.specs.Tree.{Expr, Accessors, done, Variable, SignalValue, Nothing, Given, Signal}
use Rattle.cir_ast.specs.Tree.{Assign, Set, Compound, Left, Increment, Decrement, First, FirstVars}
use Rattle.cir_ast.specs.Tree.{FirstAssign, LogArgument, Slot, SlotPlace, SlotDiscard, Target}
use Rattle.cir_ast.specs.Tree.{Discard, Slots, Simple, Vars, Signals, Declared, Created, Assigned}
use Rattle.cir_ast.specs.Tree.{Constrain, Right, TargetLeft, TargetRight, Alone, Statement, Block}
use Rattle.cir_ast.specs.Tree.{If, IfElse, While, For, Return, Assert, Log, Ended, Statements}
use Rattle.cir_ast.specs.Tree.{empty, then_more, Exprs, Component}
use Rattle.cir_meaning.specs.Tried.{Where, Tried, next}
use Rattle.cir_meaning.specs.Values.{Value, Known, Linear, Quadratic, Opaque}
use Rattle.cir_meaning.specs.Frame.{State, at, entry_at, counted}
use Rattle.cir_meaning.specs.Evaluate.{dims_in}
use Rattle.cir_meaning.specs.Anonymous.{Lifted, lift_simple}
use Rattle.cir_meaning.specs.Scoped.{Scope, AreCallsMeant, IsSetMeant, IsAssignMeant}
use Rattle.cir_meaning.specs.Scoped.{IsSignalValueMeant, IsSimpleScoped, behind_simple}
use Rattle.cir_meaning.specs.Scoped.{IsFirstScoped, behind_first, IsArgumentMeant, closed}
use Rattle.cir_meaning.specs.Scoped.{behind as behind_scope, behind_all, IsScoped, AreScoped}
use Rattle.cir_meaning.specs.Writing.{plain}
use Rattle.cir_meaning.specs.Declaring.{declare_variable, declare_signal, declare_component}
use Rattle.cir_meaning.specs.Simple as simple
use Rattle.cir_meaning.specs.Unknown.{Fault, first_of, assign_fault, fault_of}
use Rattle.cir_meaning.specs.Statement.{decided, condition, most_turns, loop_of, first_simple}
use Rattle.cir_meaning.proofs.Good.{OnGood, good_ok, good_bad, good_next, good_weaker}
use Rattle.cir_meaning.proofs.LiftedStatements.{IsLifted, LiftsTo, IsWide, LiftedAs, simple_lifted}
use Rattle.cir_meaning.proofs.ScopeLaws.{IsSound, sound_first, sound_closed, sound, grows}
use Rattle.cir_meaning.proofs.ScopeLaws.{grows_all, set_meant}
use Rattle.cir_meaning.proofs.WiderScopes.{Wider, wide, wide_arguments}
use Rattle.cir_steps.specs.Emission.{Emission, Emitted, quiet, then_emit, known_in, with_state}
use Rattle.cir_steps.specs.Emission.{emit_known, made_elements, with_signal, behind}
use Rattle.cir_steps.specs.Making.{Emitting}
use Rattle.cir_steps.specs.Emit.{emit_set_variable, emit_set_signal, emit_create, emit_set_place}
use Rattle.cir_steps.specs.Emit.{emit_assigned, emit_initial, emit_variable, emit_initial_signal}
use Rattle.cir_steps.specs.Emit.{emit_signal, emit_each, emit_number, emit_slot, emit_slots}
use Rattle.cir_steps.specs.Emit.{emit_tuple, emit_equal, emit_execute, emit_counted}
use Rattle.cir_steps.specs.Emit.{emit_execute_counted, emit_simple}
use Rattle.cir_steps.specs.Statements.{emit_undecided, emit_branch, emit_turns, emit_assert}
use Rattle.cir_steps.specs.Statements.{emit_log, emit, emit_all}
use Rattle.cir_ast.specs.Program.{Program}
use Rattle.cir_steps.specs.Places.{HasNoMember, IsSetPlace, IsWiredPlace, IsAssignPlace}
use Rattle.cir_steps.specs.Places.{IsFirstPlace, IsSlotPlace, IsTargetPlace, IsSimplePlace}
use Rattle.cir_steps.specs.Places.{HasPlaces, AllHavePlaces}
use Rattle.cir_steps.proofs.Templates.{told, told_all, simple_told, declares, all_declare, IsPlain}
use Rattle.cir_steps.proofs.Templates.{ArePlain}
use Rattle.cir_meaning.proofs.ScopedQuiet.{first_signals}
use Rattle.cir_steps.proofs.Following.{still_at, joined}
use Rattle.cir_steps.proofs.Still.{Still}
use Rattle.cir_steps.proofs.Wide.{below, below_wider, lifted_wide, values_meant, simple_wide}
use Rattle.cir_steps.proofs.Walk.{still_clear, Clear, StaysClear, put_clear, drop, first_clear}
use Rattle.cir_steps.proofs.Lifting.{IsOther, lifts_simple, other_told, lifted_told}

-- a place without indices and members
set_done : (m : Meant) → IsSetPlace m done
set_done (meant.Variable n) = tt
set_done meant.Other = tt
set_done (meant.Signal direction n) = tt
set_done (meant.Component n) = tt
set_done (meant.Template n) = tt
set_done (meant.Function n) = tt

wired_done : (m : Meant) → IsWiredPlace m done
wired_done (meant.Variable n) = tt
wired_done meant.Other = tt
wired_done (meant.Signal direction n) = tt
wired_done (meant.Component n) = tt
wired_done (meant.Template n) = tt
wired_done (meant.Function n) = tt

plain_place : (a : Assign Meant) → IsAssignPlace a → IsAssignPlace (plain a)
plain_place (Set name m accessors e) l = l
plain_place (Left name m accessors arrow e) l = l
plain_place (Compound name m accessors op e) l = l
plain_place (Increment name m accessors) l = l
plain_place (Decrement name m accessors) l = l

-- what is left of a statement without its anonymous components assigns the same places
lifted_place : (p : Program) (first : ℕ) (a : Simple Meant) (n : ℕ) → IsSimplePlace a
    → IsSimplePlace (lift_simple p first a n).value
lifted_place p first (Signals d signals) n l = tt
lifted_place p first (Vars vs) n l = tt
lifted_place p first (Declared cs) n l = tt
lifted_place p first (Created name m e) n l = tt
lifted_place p first (Assigned (Left name m accessors arrow e)) n l = l
lifted_place p first (Assigned (Set name m accessors e)) n l = l
lifted_place p first (Assigned (Compound name m accessors op e)) n l = l
lifted_place p first (Assigned (Increment name m accessors)) n l = l
lifted_place p first (Assigned (Decrement name m accessors)) n l = l
lifted_place p first (Constrain a b) n l = tt
lifted_place p first (Right e arrow name m accessors) n l = l
lifted_place p first (TargetLeft target arrow source) n l = l
lifted_place p first (TargetRight source arrow target) n l = l
lifted_place p first (Alone parallel name m arguments inputs) n l = tt

other_place : (a : Simple Meant) → IsOther a → IsSimplePlace a
other_place (Signals direction ds) h = absurd h
other_place (Vars vs) h = tt
other_place (Declared cs) h = tt
other_place (Created name m e) h = tt
other_place (Assigned a) h = h
other_place (Constrain a b) h = tt
other_place (Right e arrow name m accessors) h = absurd h
other_place (TargetLeft target arrow source) h = h
other_place (TargetRight source arrow target) h = absurd h
other_place (Alone parallel name m arguments inputs) h = tt

first_place : (f : First Meant) → IsFirstPlace f → IsSimplePlace (first_simple f)
first_place (FirstVars vs) l = tt
first_place (FirstAssign a) l = l

loop_place : (spot : Spot) (c : Expr Meant) (body : Statement Spot Meant) (step_spot : Spot)
    (a : Assign Meant) → HasPlaces body → IsAssignPlace a
    → HasPlaces (loop_of spot c body step_spot a)
loop_place spot c body step_spot a h l = (h, (l, tt))

all_any : {A : Type 0} (xs : List A) → AllByRecursion (λ x. ⊤) xs
all_any [] = tt
all_any (x ∷ xs) = (tt, all_any xs)

-- what must be known of each step, and of what makes none
abbrev pub Leaf : (Emission → Emitted → Type 0) → Emission → Emitted → Type 0
Leaf R x y = R x y × StaysClear (known_in x) (known_in y.state)

-- what makes no step moves the state so
pub record Quiet (q : Emitting) (T : State → State → Type 0) : Type 0 where
  pub still : (f s : State) → T f s → Still f s
  pub itself : (s : State) → T s s
  pub counted : (spot : Spot) (s : State) → OnGood (T s) (counted (at q.context spot) s)
  pub dims : (w : Where) (es : Exprs Meant) (s : State)
      → OnGood (λ a. T s a.1) (dims_in q.context w false es s)
  pub variable : (n : ℕ) (dims : List ℕ) (f s : State) → T f s → T f (declare_variable n dims s)
  pub component : (n : ℕ) (name dims : List ℕ) (s : State) → T s (declare_component n name dims s)
  pub components : (w : Where) (c : Component Meant) (s : State)
      → OnGood (T s) (simple.component_declaration q.context w c s)
  pub dropped : (w : Where) (e : Expr Meant) (s : State)
      → OnGood (T s) (simple.dropped q.context w e s)
  pub condition : (spot : Spot) (c : Expr Meant) (s : State)
      → OnGood (λ a. T s a.1) (condition q.context spot c s)

-- all variables of numbers below `room` are in scope
pub record Leaves (functions room : ℕ) (q : Emitting) (T : State → State → Type 0)
    (R : Emission → Emitted → Type 0) : Type 0 where
  pub still : (x : Emission) (s : State) → T (known_in x) s → R x (still_at s x)
  pub joins : (x : Emission) (y z : Emitted) → R x y → R y.state z → R x (joined y z)
  pub declared : (spot : Spot) (direction : Direction) (n : ℕ) (name dims : List ℕ)
      (x : Emission) → entry_at (known_in x).frame.signals n ≡ None → R x record {
        state = with_signal n (made_elements dims)
            (with_state (declare_signal q.context spot direction n name dims (known_in x)) x);
        steps = [];
      }
  pub set : (w : Where) (written : Assign Meant) (n : ℕ) (accessors : Accessors Meant)
      (e : Expr Meant) (x : Emission)
      → IsSetMeant (below functions room) (meant.Variable n) accessors e → HasNoMember accessors
      → OnGood (Leaf R x) (emit_set_variable q w written n accessors e x)
  pub wired : (w : Where) (written : Assign Meant) (m : Meant) (accessors : Accessors Meant)
      (arrow : Arrow) (e : Expr Meant) (x : Emission) → AreCallsMeant (below functions room) e
      → IsWiredPlace m accessors
      → OnGood (Leaf R x) (emit_set_signal q w written m accessors arrow e x)
  pub created : (w : Where) (n : ℕ) (accessors : Accessors Meant) (e : Expr Meant) (x : Emission)
      → OnGood (Leaf R x) (emit_create q w n accessors e x)
  pub equal : (w : Where) (a b : Expr Meant) (x : Emission)
      → AreCallsMeant (below functions room) a → AreCallsMeant (below functions room) b
      → OnGood (Leaf R x) (emit_equal q w a b x)
  pub assertion : (w : Where) (e : Expr Meant) (x : Emission)
      → AreCallsMeant (below functions room) e
      → OnGood (Leaf R x) (emit_assert q w e x)
  pub line : (w : Where) (arguments : List (LogArgument Meant)) (x : Emission)
      → AllByRecursion (IsArgumentMeant (below functions room)) arguments
      → OnGood (Leaf R x) (emit_log q w arguments x)
  pub undecided : (scope : Scope) (spot : Spot) (fault : Option Fault) (a : Statement Spot Meant)
      (x : Emission) → IsSound functions scope → IsScoped scope a → HasPlaces a
      → (behind_scope scope a).variables ≤ room
      → OnGood (Leaf R x) (emit_undecided q spot fault a x)

module _ (functions room : ℕ) (q : Emitting) (T : State → State → Type 0) (moves : Quiet q T)
    (R : Emission → Emitted → Type 0) (leaves : Leaves functions room q T R) where
  abbrev All : Scope
  All = below functions room

  abbrev Wide : Simple Meant → Type 0
  Wide = IsWide All q.context.program q.context.named_components

  abbrev pub Gives : List ℕ → Emission → Emitted → Type 0
  Gives ns x y = R x y × Clear ns (known_in y.state)

  abbrev pub Makes : List ℕ → Emission → Tried Emitted → Type 0
  Makes ns x m = OnGood (Gives ns x) m

  go_then : (ms ns : List ℕ) (x : Emission) (m : Tried Emitted) (on : Emission → Tried Emitted)
      → Makes ms x m → ((y : Emission) → Clear ms (known_in y) → Makes ns y (on y))
      → Makes ns x (then_emit m on)
  unfolding OnGood
  go_then ms ns x (Ok y) on h g = at (on y.state) (g y.state h.1)
    where
      at : (n : Tried Emitted) → Makes ns y.state n → Makes ns x (behind y.steps n)
      at (Ok z) i = (leaves.joins x y z h.0 i.0, i.1)
      at (Err e) i = tt
  go_then ms ns x (Err e) on h g = tt

  go_quiet : (ns : List ℕ) (x y : Emission) (m : Tried Emitted)
      → R x record { state = y; steps = [] } → Makes ns y m → Makes ns x m
  go_quiet ns x y m h g =
      good_weaker (Gives ns y) (Gives ns x) m g
      (λ z i. (leaves.joins x record { state = y; steps = [] } z h i.0, i.1))

  go_still : (ns : List ℕ) (x : Emission) (s : State) (m : Tried Emitted) → T (known_in x) s
      → Makes ns (with_state s x) m → Makes ns x m
  go_still ns x s m h g = go_quiet ns x (with_state s x) m (leaves.still x s h) g

  go_valued : {C : Type 0} (ns : List ℕ) (x : Emission) (m : Tried C) (state : C → State)
      (on : C → Tried Emitted) → OnGood (λ a. T (known_in x) (state a)) m
      → ((a : C) → T (known_in x) (state a) → Makes ns (with_state (state a) x) (on a))
      → Makes ns x (next m on)
  go_valued ns x m state on h g =
      good_next (λ a. T (known_in x) (state a)) (Gives ns x) m on h
      (λ a i. go_still ns x (state a) (on a) i (g a i))

  go_ok : (ns : List ℕ) (x : Emission) → Clear ns (known_in x) → Makes ns x (quiet x)
  go_ok ns x p = good_ok (Gives ns x) _ (leaves.still x (known_in x) (moves.itself (known_in x)), p)

  go_known : (ns : List ℕ) (x : Emission) (go : State → Tried State) → Clear ns (known_in x)
      → OnGood (T (known_in x)) (go (known_in x)) → Makes ns x (emit_known go x)
  go_known ns x go p h =
      good_next (T (known_in x)) (Gives ns x) (go (known_in x)) _ h (λ s i.
      good_ok (Gives ns x) _
      (leaves.still x s i, still_clear ns (known_in x) s (moves.still (known_in x) s i) p))

  go_leaf : (ns : List ℕ) (x : Emission) (m : Tried Emitted) → Clear ns (known_in x)
      → OnGood (Leaf R x) m → Makes ns x m
  go_leaf ns x m p h = good_weaker (Leaf R x) (Gives ns x) m h (λ y i. (i.0, i.1 ns p))

  go_each : {A : Type 0} (Q : A → Type 0) (ns : List ℕ) (f : A → Emission → Tried Emitted)
      (as' : List A) (x : Emission) → AllByRecursion Q as' → Clear ns (known_in x)
      → ((a : A) (y : Emission) → Q a → Clear ns (known_in y) → Makes ns y (f a y))
      → Makes ns x (emit_each f as' x)
  go_each Q ns f [] x are p h = go_ok ns x p
  go_each Q ns f (a ∷ as') x are p h =
      go_then ns ns x (f a x) (emit_each f as') (h a x are.0 p)
      (λ y i. go_each Q ns f as' y are.1 i h)

  go_number : (ns : List ℕ) (x : Emission) (w : Where) (m : Meant) (on : ℕ → Tried Emitted)
      → ((n : ℕ) → Makes ns x (on n)) → Makes ns x (emit_number w m on)
  go_number ns x w (meant.Variable n) on h = h n
  go_number ns x w (meant.Signal direction n) on h = h n
  go_number ns x w (meant.Component n) on h = h n
  go_number ns x w meant.Other on h = good_bad (Gives ns x) _
  go_number ns x w (meant.Template n) on h = good_bad (Gives ns x) _
  go_number ns x w (meant.Function n) on h = good_bad (Gives ns x) _

  module _ (ns : List ℕ) where
    go_counted : (spot : Spot) (x : Emission) → Clear ns (known_in x)
        → Makes ns x (emit_counted q spot x)
    go_counted spot x p =
        go_known ns x (counted (at q.context spot)) p
        (moves.counted spot (known_in x))

    go_place : (w : Where) (written : Assign Meant) (m : Meant) (accessors : Accessors Meant)
        (e : Expr Meant) (x : Emission) → IsSetMeant All m accessors e → IsSetPlace m accessors
        → Clear ns (known_in x) → Makes ns x (emit_set_place q w written m accessors e x)
    go_place w written (meant.Variable n) accessors e x is l p =
        go_leaf ns x _ p (leaves.set w written n accessors e x is l)
    go_place w written (meant.Component n) accessors e x is l p =
        go_leaf ns x _ p (leaves.created w n accessors e x)
    go_place w written meant.Other accessors e x is l p = good_bad (Gives ns x) _
    go_place w written (meant.Signal direction n) accessors e x is l p = good_bad (Gives ns x) _
    go_place w written (meant.Template n) accessors e x is l p = good_bad (Gives ns x) _
    go_place w written (meant.Function n) accessors e x is l p = good_bad (Gives ns x) _

    go_assigned : (w : Where) (written a : Assign Meant) (x : Emission) → IsAssignMeant All a
        → IsAssignPlace (plain a) → Clear ns (known_in x)
        → Makes ns x (emit_assigned q w written (plain a) x)
    go_assigned w written (Set name m accessors e) x is l p =
        go_place w written m accessors e x is l p
    go_assigned w written (Left name m accessors arrow e) x is l p =
        go_leaf ns x _ p (leaves.wired w written m accessors arrow e x is l)
    go_assigned w written (Compound name m accessors op e) x is l p =
        go_place w written m accessors _ x
        (set_meant All m accessors _ is.0 is.1 ((is.0, is.1), is.2)) l p
    go_assigned w written (Increment name m accessors) x is l p =
        go_place w written m accessors _ x
        (set_meant All m accessors _ is.0 is.1 ((is.0, is.1), tt)) l p
    go_assigned w written (Decrement name m accessors) x is l p =
        go_place w written m accessors _ x
        (set_meant All m accessors _ is.0 is.1 ((is.0, is.1), tt)) l p

    go_initial : (w : Where) (m : Meant) (value : Option (Expr Meant)) (x : Emission)
        → ((e : Expr Meant) → value ≡ Some e → IsSetMeant All m done e) → Clear ns (known_in x)
        → Makes ns x (emit_initial q w m value x)
    go_initial w m None x is p = go_ok ns x p
    go_initial w m (Some e) x is p =
        go_place w (Set [] m done e) m done e x (is e refl) (set_done m) p

    go_variable : (w : Where) (v : Variable Meant) (x : Emission)
        → ((e : Expr Meant) → v.value ≡ Some e → IsSetMeant All v.meant done e)
        → Clear ns (known_in x) → Makes ns x (emit_variable q w v x)
    go_variable w v x is p =
        go_number ns x w v.meant _ (λ n.
        go_valued ns x (dims_in q.context w false v.dimensions (known_in x))
        (λ a. declare_variable n a.0 a.1) _
        (good_weaker (λ a. T (known_in x) a.1) (λ a. T (known_in x) (declare_variable n a.0 a.1))
        (dims_in q.context w false v.dimensions (known_in x))
        (moves.dims w v.dimensions (known_in x))
        (λ a h. moves.variable n a.0 (known_in x) a.1 h))
        (λ a h. go_initial w v.meant v.value (with_state (declare_variable n a.0 a.1) x) is
        (still_clear ns (known_in x) (declare_variable n a.0 a.1)
        (moves.still (known_in x) (declare_variable n a.0 a.1) h) p)))

    go_initial_signal : (w : Where) (m : Meant) (value : SignalValue Meant) (x : Emission)
        → IsSignalValueMeant All value → IsWiredPlace m done → Clear ns (known_in x)
        → Makes ns x (emit_initial_signal q w m value x)
    go_initial_signal w m Nothing x is l p = go_ok ns x p
    go_initial_signal w m (Given arrow e) x is l p =
        go_leaf ns x _ p (leaves.wired w (Left [] m done arrow e) m done arrow e x is l)

    numbered_signal : (spot : Spot) (direction : Direction) (d : Signal Meant) (n : ℕ)
        (x : Emission) → IsSignalValueMeant All d.value → Clear (n ∷ ns) (known_in x)
        → Makes ns x (next (dims_in q.context (at q.context spot) false d.dimensions (known_in x))
        (λ (dims, s). emit_initial_signal q (at q.context spot) d.meant d.value
        (with_signal n (made_elements dims)
        (with_state (declare_signal q.context spot direction n d.name dims s) x))))
    numbered_signal spot direction d n x is p =
        go_valued ns x (dims_in q.context (at q.context spot) false d.dimensions (known_in x))
        (λ a. a.1) _
        (moves.dims (at q.context spot) d.dimensions (known_in x)) (λ a h.
        let free : Clear (n ∷ ns) a.1 =
        still_clear (n ∷ ns) (known_in x) a.1 (moves.still (known_in x) a.1 h) p in
        go_quiet ns (with_state a.1 x) (with_signal n (made_elements a.0)
        (with_state (declare_signal q.context spot direction n d.name a.0 a.1) x)) _
        (leaves.declared spot direction n d.name a.0 (with_state a.1 x) (free.0 n (omega arith)))
        (go_initial_signal (at q.context spot) d.meant d.value (with_signal n (made_elements a.0)
        (with_state (declare_signal q.context spot direction n d.name a.0 a.1) x))
        is (wired_done d.meant)
        (put_clear n ns _ a.1.frame.signals free.1 free.2)))

    go_signal : (spot : Spot) (direction : Direction) (d : Signal Meant) (m : Meant)
        (x : Emission) → IsSignalValueMeant All d.value → Clear (told m ns) (known_in x)
        → Makes ns x (emit_number (at q.context spot) m (λ n.
        next (dims_in q.context (at q.context spot) false d.dimensions (known_in x))
        (λ (dims, s). emit_initial_signal q (at q.context spot) d.meant d.value
        (with_signal n (made_elements dims)
        (with_state (declare_signal q.context spot direction n d.name dims s) x)))))
    go_signal spot direction d (meant.Variable n) x is p =
        numbered_signal spot direction d n x is p
    go_signal spot direction d (meant.Signal other n) x is p =
        numbered_signal spot direction d n x is p
    go_signal spot direction d (meant.Component n) x is p =
        numbered_signal spot direction d n x is p
    go_signal spot direction d meant.Other x is p = good_bad (Gives ns x) _
    go_signal spot direction d (meant.Template n) x is p = good_bad (Gives ns x) _
    go_signal spot direction d (meant.Function n) x is p = good_bad (Gives ns x) _

    go_dropped : (w : Where) (e : Expr Meant) (x : Emission) → Clear ns (known_in x)
        → Makes ns x (emit_known (simple.dropped q.context w e) x)
    go_dropped w e x p =
        go_known ns x (simple.dropped q.context w e) p
        (moves.dropped w e (known_in x))

    go_slot : (w : Where) (arrow : Arrow) (t : Slot Meant) (e : Expr Meant) (x : Emission)
        → AreCallsMeant All e → IsSlotPlace t → Clear ns (known_in x)
        → Makes ns x (emit_slot q w arrow t e x)
    go_slot w arrow (SlotPlace name m accessors) e x is l p =
        go_leaf ns x _ p (leaves.wired w (Left name m accessors arrow e) m accessors arrow e x is l)
    go_slot w arrow SlotDiscard e x is l p = go_dropped w e x p

    go_slots : (w : Where) (arrow : Arrow) (ts : List (Slot Meant)) (es : List (Expr Meant))
        (x : Emission) → AllByRecursion (AreCallsMeant All) es → AllByRecursion IsSlotPlace ts
        → Clear ns (known_in x) → Makes ns x (emit_slots q w arrow ts es x)
    go_slots w arrow [] es x is l p = go_ok ns x p
    go_slots w arrow (t ∷ ts) [] x is l p = go_ok ns x p
    go_slots w arrow (t ∷ ts) (e ∷ es) x is l p =
        go_then ns ns x (emit_slot q w arrow t e x) _ (go_slot w arrow t e x is.0 l.0 p)
        (λ y i. go_slots w arrow ts es y is.1 l.1 i)

    go_tuple : (w : Where) (arrow : Arrow) (t : Target Meant) (es : List (Expr Meant))
        (x : Emission) → AllByRecursion (AreCallsMeant All) es → IsTargetPlace t
        → Clear ns (known_in x) → Makes ns x (emit_tuple q w arrow t es x)
    go_tuple w arrow Discard es x is l p =
        go_each (AreCallsMeant All) ns (λ e. emit_known (simple.dropped q.context w e)) es x is p
        (λ e y h i. go_dropped w e y i)
    go_tuple w arrow (Slots ts) es x is l p = go_slots w arrow ts es x is l p

  go_signals : (spot : Spot) (direction : Direction) (ds : List (Signal Meant)) (ns : List ℕ)
      (x : Emission) → AllByRecursion (λ d. IsSignalValueMeant All d.value) ds
      → Clear (told_all ds ns) (known_in x)
      → Makes ns x (emit_each (emit_signal q spot direction) ds x)
  go_signals spot direction [] ns x is p = go_ok ns x p
  go_signals spot direction (d ∷ ds) ns x is p =
      go_then (told_all ds ns) ns x (emit_signal q spot direction d x) (emit_each _ ds)
      (go_signal (told_all ds ns) spot direction d d.meant x is.0 p)
      (λ y i. go_signals spot direction ds ns y is.1 i)

  go_execute : (spot : Spot) (a : Simple Meant) (ns : List ℕ) (x : Emission)
      → Wide a → IsSimplePlace a → Clear (simple_told a ns) (known_in x)
      → Makes ns x (emit_execute q spot a x)
  go_execute spot (Vars vs) ns x is l p =
      go_each _ ns (emit_variable q (at q.context spot)) vs x is p
      (λ v y h i. go_variable ns (at q.context spot) v y h i)
  go_execute spot (Signals direction ds) ns x is l p = go_signals spot direction ds ns x is p
  go_execute spot (Declared cs) ns x is l p =
      go_each (λ c. ⊤) ns
      (λ c. emit_known (simple.component_declaration q.context (at q.context spot) c))
      cs x (all_any cs) p (λ c y h i.
      go_known ns y (simple.component_declaration q.context (at q.context spot) c) i
      (moves.components (at q.context spot) c (known_in y)))
  go_execute spot (Created name m e) ns x is l p =
      go_number ns x (at q.context spot) m _ (λ n.
      go_still ns x (declare_component n name [] (known_in x)) _
      (moves.component n name [] (known_in x))
      (go_leaf ns (with_state (declare_component n name [] (known_in x)) x) _ p
      (leaves.created (at q.context spot) n done e
      (with_state (declare_component n name [] (known_in x)) x))))
  go_execute spot (Assigned a) ns x is l p =
      go_assigned ns (at q.context spot) a a x is (plain_place a l) p
  go_execute spot (Constrain a b) ns x is l p =
      go_leaf ns x _ p (leaves.equal (at q.context spot) a b x is.0 is.1)
  go_execute spot (TargetLeft target arrow source) ns x is l p =
      go_tuple ns (at q.context spot) arrow target (simple.values_of source) x
      (values_meant All source is) l p
  go_execute spot (Right e arrow name m accessors) ns x is l p = good_bad (Gives ns x) _
  go_execute spot (TargetRight source arrow target) ns x is l p = good_bad (Gives ns x) _
  go_execute spot (Alone parallel name m arguments inputs) ns x is l p = good_bad (Gives ns x) _

  go_one : (spot : Spot) (a : Simple Meant) (ns : List ℕ) (x : Emission)
      → Wide a → IsSimplePlace a → Clear (simple_told a ns) (known_in x)
      → Makes ns x (emit_execute_counted q spot a x)
  go_one spot a ns x is l p =
      go_then ns ns x (emit_execute q spot a x) (emit_counted q spot)
      (go_execute spot a ns x is l p) (λ y i. go_counted ns spot y i)

  go_before : (spot : Spot) (as' : List (Simple Meant)) (ns : List ℕ) (x : Emission)
      → AllByRecursion IsOther as' → AllByRecursion (IsLifted All) as' → Clear ns (known_in x)
      → Makes ns x (emit_each (emit_execute_counted q spot) as' x)
  go_before spot [] ns x others are p = go_ok ns x p
  go_before spot (a ∷ as') ns x others are p =
      go_then ns ns x (emit_execute_counted q spot a x) (emit_each (emit_execute_counted q spot)
      as') (go_one spot a ns x
      (lifted_wide All q.context.program q.context.named_components a are.0)
      (other_place a others.0)
      (subst (λ ms. Clear ms (known_in x)) (sym (other_told a ns others.0)) p))
      (λ y i. go_before spot as' ns y others.1 are.1 i)

  go_simple : (spot : Spot) (a : Simple Meant) (ns : List ℕ) (x : Emission)
      → Wide a → IsSimplePlace a → Clear (simple_told a ns) (known_in x)
      → Makes ns x (emit_simple q spot a x)
  go_simple spot a ns x is place p =
      let l : Lifted (Simple Meant) = lift_simple q.context.program q.context.named_components a
      (length (known_in x).frame.components) in
      let its : LiftsTo All q.context.program q.context.named_components
      (LiftedAs All q.context.program q.context.named_components a) l =
      simple_lifted All q.context.program q.context.named_components a
      (length (known_in x).frame.components) is in
      go_then (simple_told a ns) ns x (emit_each (emit_execute_counted q spot) l.before x)
      (emit_execute_counted q spot l.value)
      (go_before spot l.before (simple_told a ns) x (lifts_simple q.context.program
      q.context.named_components a (length (known_in x).frame.components)) its.0 p)
      (λ y i. go_one spot l.value ns y its.1.0 (lifted_place q.context.program
      q.context.named_components a (length (known_in x).frame.components) place)
      (subst (λ ms. Clear ms (known_in y)) (sym (lifted_told q.context.program
      q.context.named_components a (length (known_in x).frame.components) ns)) i))

  -- compound statements
  module _ (ns before : List ℕ) (g v u : Emission → Tried Emitted)
      (hg : (x : Emission) → Clear before (known_in x) → Makes ns x (g x))
      (hv : (x : Emission) → Clear before (known_in x) → Makes ns x (v x))
      (hu : (x : Emission) → Clear before (known_in x) → Makes ns x (u x)) where
    go_decided : (c : Value) (x : Emission) → Clear before (known_in x)
        → Makes ns x (decided c g v u x)
    go_decided (Known n) x p = by (n == 0)
      where
        by : (b : Bool) → Makes ns x ((cond b g v) x)
        by true = hg x p
        by false = hv x p
    go_decided (Linear a) x p = hu x p
    go_decided (Quadratic a b c) x p = hu x p
    go_decided Opaque x p = hu x p

    go_condition : (spot : Spot) (c : Expr Meant) (x : Emission) → Clear before (known_in x)
        → Makes ns x (next (condition q.context spot c (known_in x))
        (λ (a, s). decided a g v u (with_state s x)))
    go_condition spot c x p =
        go_valued ns x (condition q.context spot c (known_in x)) (λ a. a.1) _
        (moves.condition spot c (known_in x))
        (λ a h. go_decided a.0 (with_state a.1 x)
        (still_clear before (known_in x) a.1 (moves.still (known_in x) a.1 h) p))

    go_branch : (spot : Spot) (c : Expr Meant) (x : Emission) → Clear before (known_in x)
        → Makes ns x (emit_branch q spot c g v u x)
    go_branch spot c x p =
        go_then before ns x (emit_counted q spot x) _ (go_counted before spot x p)
        (λ y i. go_condition spot c y i)

  go_turns : (ns : List ℕ) (n : ℕ) (spot : Spot) (c : Expr Meant)
      (body unknown : Emission → Tried Emitted)
      → ((x : Emission) → Clear ns (known_in x) → Makes ns x (body x))
      → ((x : Emission) → Clear ns (known_in x) → Makes ns x (unknown x))
      → (x : Emission) → Clear ns (known_in x) → Makes ns x (emit_turns n q spot c body unknown x)
  go_turns ns zero spot c body unknown h g x p = good_bad (Gives ns x) _
  go_turns ns (suc n) spot c body unknown h g x p =
      go_condition ns ns quiet (λ x1. then_emit (emit_counted q spot x1) (λ x2.
      then_emit (body x2) (emit_turns n q spot c body unknown))) unknown
      (λ y i. go_ok ns y i)
      (λ y i. go_then ns ns y (emit_counted q spot y) _ (go_counted ns spot y i) (λ z j.
      go_then ns ns z (body z) _ (h z j)
      (λ t l. go_turns ns n spot c body unknown h g t l))) g spot c x p

  wider : (scope : Scope) → IsSound functions scope → scope.variables ≤ room → Wider scope All
  wider scope = below_wider functions room scope

  simple_below : (scope : Scope) (a : Simple Meant) → IsSound functions scope
      → (behind_simple scope a).variables ≤ room → IsSimpleScoped scope a → Wide a
  simple_below scope a sounds le is =
      simple_wide functions room q.context.program q.context.named_components scope a sounds le is

  first_wide : (scope : Scope) (f : First Meant) → IsSound functions scope
      → (behind_first scope f).variables ≤ room → IsFirstScoped scope f → Wide (first_simple f)
  first_wide scope (FirstVars vs) sounds le is = simple_below scope (Vars vs) sounds le is
  first_wide scope (FirstAssign a) sounds le is = simple_below scope (Assigned a) sounds le is

  mutual
    pub go : (a : Statement Spot Meant) → IsPlain a → (scope : Scope) → IsSound functions scope
        → IsScoped scope a → (behind_scope scope a).variables ≤ room → HasPlaces a
        → (ns : List ℕ) (x : Emission) → Clear (declares a ns) (known_in x)
        → Makes ns x (emit q a x)
    go (Block spot ss) h scope sounds is le l ns x p =
        go_then (all_declare ss ns) ns x (emit_counted q spot x) (emit_all q ss)
        (go_counted (all_declare ss ns) spot x p) (λ y i. go_all ss h scope sounds is le l ns y i)
    go (If spot c a) h scope sounds is le l ns x p =
        go_branch ns (declares a ns) quiet (emit q a) _
        (λ y i. go_ok ns y (drop a ns (known_in y) i)) (go a h scope sounds is.1 le l ns)
        (λ y i. go_leaf ns y _ (drop a ns (known_in y) i)
        (leaves.undecided scope spot (fault_of a) (If spot c a) y sounds is l le)) spot c x p
    go (IfElse spot c a b) h scope sounds is le l ns x p =
        let between : Scope = closed scope (behind_scope scope a) in
        go_branch ns (declares a (declares b ns)) (emit q b) (emit q a) _
        (λ y i. go b h.1 between
        (sound_closed functions scope (behind_scope scope a) (grows scope a) sounds) is.2 le l.1 ns
        y (drop a (declares b ns) (known_in y) i))
        (λ y i. good_weaker (Gives (declares b ns) y) (Gives ns y) (emit q a y)
        (go a h.0 scope sounds is.1 (omega (arith, le, (grows between b).variables)) l.0
        (declares b ns) y i)
        (λ z j. (j.0, drop b ns (known_in z.state) j.1)))
        (λ y i. go_leaf ns y _ (drop b ns (known_in y) (drop a (declares b ns) (known_in y) i))
        (leaves.undecided scope spot (first_of (fault_of a) (fault_of b)) (IfElse spot c a b) y
        sounds is l le)) spot c x p
    go (While spot c a) h scope sounds is le l ns x p =
        go_then ns ns x (emit_counted q spot x) _ (go_counted ns spot x (drop a ns (known_in x) p))
        (λ y i. go_turns ns most_turns spot c (emit q a) _
        (λ z j. go a h.0 scope sounds is.1 le l ns z
        (subst (λ ms. Clear ms (known_in z)) (sym (h.1 ns)) j))
        (λ z j. go_leaf ns z _ j
        (leaves.undecided scope spot (fault_of a) (While spot c a) z sounds is l le)) y i)
    go (For spot first_spot f c step_spot a body) h scope sounds is le l ns x p =
        let same : (behind_first scope f).signals ≡ scope.signals = first_signals scope f in
        let inner : (behind_scope (behind_first scope f) body).signals
        ≡ (behind_first scope f).signals = omega arith in
        let inside : IsSound functions (behind_first scope f) =
        sound_first functions scope f sounds in
        let after : Scope = behind_scope (behind_first scope f) body in
        let first : (behind_first scope f).variables ≤ room =
        omega (arith, le, (grows (behind_first scope f) body).variables) in
        go_then ns ns x (emit_counted q spot x) _
        (go_counted ns spot x (drop body ns (known_in x) p)) (λ x1 p1.
        go_then ns ns x1 (emit_simple q first_spot (first_simple f) x1) _
        (go_simple first_spot (first_simple f) ns x1
        (first_wide scope f sounds first is.0) (first_place f l.0)
        (first_clear f ns (known_in x1) p1))
        (λ x2 p2.
        go_then ns ns x2 (emit_counted q spot x2) _ (go_counted ns spot x2 p2) (λ x3 p3.
        go_turns ns most_turns spot c _ _ (λ x4 p4.
        go_then ns ns x4 (emit_counted q spot x4) _ (go_counted ns spot x4 p4) (λ x5 p5.
        go_then ns ns x5 (emit q body x5) (emit_simple q step_spot (Assigned a))
        (go body h.0 (behind_first scope f) inside is.2 le l.2 ns x5
        (subst (λ ms. Clear ms (known_in x5)) (sym (h.1 ns)) p5))
        (λ x6 p6. go_simple step_spot (Assigned a) ns x6
        (simple_below after (Assigned a) (sound functions (behind_first scope f) body inside) le
        is.3) l.1 p6)))
        (λ x4 p4. go_leaf ns x4 _ p4
        (leaves.undecided (behind_first scope f) spot
        (first_of (assign_fault step_spot a) (fault_of body)) (loop_of spot c body step_spot a) x4
        inside (is.1, (is.2, (is.3, tt)), inner)
        (loop_place spot c body step_spot a l.2 l.1) le)) x3 p3)))
    go (Return spot e) h scope sounds is le l ns x p = absurd h
    go (Assert spot e) h scope sounds is le l ns x p =
        go_then ns ns x _ (emit_counted q spot)
        (go_leaf ns x _ p (leaves.assertion (at q.context spot) e x
        (wide scope All (wider scope sounds le) e is)))
        (λ y i. go_counted ns spot y i)
    go (Log spot arguments) h scope sounds is le l ns x p =
        go_then ns ns x _ (emit_counted q spot)
        (go_leaf ns x _ p (leaves.line (at q.context spot) arguments x
        (wide_arguments scope All (wider scope sounds le) arguments is)))
        (λ y i. go_counted ns spot y i)
    go (Ended spot a) h scope sounds is le l ns x p =
        go_simple spot a ns x (simple_below scope a sounds le is) l p

    pub go_all : (ss : Statements Spot Meant) → ArePlain ss → (scope : Scope)
        → IsSound functions scope → AreScoped scope ss → (behind_all scope ss).variables ≤ room
        → AllHavePlaces ss → (ns : List ℕ) (x : Emission)
        → Clear (all_declare ss ns) (known_in x) → Makes ns x (emit_all q ss x)
    go_all empty h scope sounds is le l ns x p = go_ok ns x p
    go_all (then_more a rest) h scope sounds is le l ns x p =
        go_then (all_declare rest ns) ns x (emit q a x) (emit_all q rest)
        (go a h.0 scope sounds is.0
        (omega (arith, le, (grows_all (behind_scope scope a) rest).variables)) l.0
        (all_declare rest ns) x p)
        (λ y i. go_all rest h.1 (behind_scope scope a) (sound functions scope a sounds) is.1 le l.1
        ns y i)
