-- The steps of statements, where those of an assignment to signals and of a creation are right.
use Rattle.std.proofs.Common.{◌≡◌, ℕ, zero, suc, ◌+◌, ◌<◌, ◌≤◌, Bool, true, false, cond, List, []}
use Rattle.std.proofs.Common.{◌∷◌, length, Option, Some, None, Ok, Err, refl, sym, subst, ◌∙◌}
use Rattle.std.proofs.Common.{arith}
use Rattle.std.specs.Prelude.{⊤, ◌==◌}
use Rattle.std.specs.List.{AllByRecursion}
use Rattle.cir_ast.specs.declared.program.Spot.{Spot}
use Rattle.cir_ast.specs.declared.program.Meant.{Meant}
use Rattle.cir_ast.specs.declared.program.Meant.TheVariants as meant
use Rattle.cir_ast.specs.declared.operators.Arrow.{Arrow}
use Rattle.cir_ast.specs.declared.operators.Direction.{Direction}
use Rattle.cir_ast.specs.Tree.{Expr, Accessors, done, Variable, SignalValue, Nothing, Given, Signal}
use Rattle.cir_ast.specs.Tree.{Assign, Set, Compound, Left, Increment, Decrement, First, FirstVars}
use Rattle.cir_ast.specs.Tree.{FirstAssign, LogArgument, Slot, SlotPlace, SlotDiscard, Target}
use Rattle.cir_ast.specs.Tree.{Discard, Slots, Simple, Vars, Signals, Declared, Created, Assigned}
use Rattle.cir_ast.specs.Tree.{Constrain, Right, TargetLeft, TargetRight, Alone, Statement, Block}
use Rattle.cir_ast.specs.Tree.{If, IfElse, While, For, Return, Assert, Log, Ended, Statements}
use Rattle.cir_ast.specs.Tree.{empty, then_more}
use Rattle.cir_meaning.specs.Tried.{Where, Tried, next}
use Rattle.cir_meaning.specs.Places.{numbers_from}
use Rattle.cir_meaning.specs.Arrays.{Datum, Scalar, the_item}
use Rattle.cir_meaning.specs.Values.{Value, Known, Linear, Quadratic, Opaque}
use Rattle.cir_meaning.specs.Frame.{Context, SignalEntry, Signals as Entries, State, at, put_at}
use Rattle.cir_meaning.specs.Frame.{entry_at, counted}
use Rattle.cir_meaning.specs.Evaluate.{value_in, dims_in}
use Rattle.cir_meaning.specs.Anonymous.{Lifted, lift_simple}
use Rattle.cir_meaning.specs.Writing.{plain, variable_assignment, is_unknown}
use Rattle.cir_meaning.specs.Declaring.{declare_variable, declare_signal, declare_component}
use Rattle.cir_meaning.specs.Declaring.{creation, create}
use Rattle.cir_meaning.specs.Steps.{variable_cost, logged_cells}
use Rattle.cir_meaning.specs.Simple as simple
use Rattle.cir_meaning.specs.Simple.{declared_number}
use Rattle.cir_meaning.specs.Unknown.{Fault, first_of, assign_fault, fault_of, outer_assigned}
use Rattle.cir_meaning.specs.Scan.{undecided}
use Rattle.cir_meaning.specs.Statement as statement
use Rattle.cir_meaning.specs.Statement.{Flow, goes, decided, condition, most_turns, loop_of}
use Rattle.cir_meaning.specs.Statement.{first_simple, assert_value, log_values, exec, exec_all}
use Rattle.cir_meaning.proofs.Entries.{put_else}
use Rattle.cir_meaning.proofs.Good.{OnGood, good_weaker}
use Rattle.cir_meaning.proofs.Twins.{Twin, twin_bad, twin_weaker}
use Rattle.cir_steps.specs.Step.{Step}
use Rattle.cir_steps.specs.Emission.{Emission, Emitted, quiet, then_emit, known_in, with_state}
use Rattle.cir_steps.specs.Emission.{emit_known, made_elements, with_signal}
use Rattle.cir_steps.specs.Lines.{LineOf}
use Rattle.cir_steps.specs.Making.{Emitting, new_places, make_assertion, wanted_of, count_of}
use Rattle.cir_steps.specs.Emit.{emit_set_variable, emit_set_signal, emit_create, emit_set_place}
use Rattle.cir_steps.specs.Emit.{emit_assigned, emit_initial, emit_variable, emit_initial_signal}
use Rattle.cir_steps.specs.Emit.{emit_signal, emit_each, emit_number, emit_slot, emit_slots}
use Rattle.cir_steps.specs.Emit.{emit_tuple, emit_equal, emit_execute, emit_counted}
use Rattle.cir_steps.specs.Emit.{emit_execute_counted, emit_simple}
use Rattle.cir_steps.specs.Statements.{emit_undecided, emit_branch, emit_turns, emit_assert_value}
use Rattle.cir_steps.specs.Statements.{emit, emit_all}
use Rattle.cir_steps.proofs.Templates.{told, told_all, simple_told, Below, declares, all_declare}
use Rattle.cir_steps.proofs.Templates.{IsPlain, ArePlain}
use Rattle.cir_steps.proofs.Still.{Still, still_itself}
use Rattle.cir_steps.proofs.Rising.{AreSized, Grows, Calls, rises_itself, array_grows}
use Rattle.cir_steps.proofs.Rising.{declared_grows, Asserted}
use Rattle.cir_steps.proofs.LogLines.{log_numbers}
use Rattle.cir_steps.proofs.Moving.{Moves, Steps, steps_of, counted_moves, condition_moves}
use Rattle.cir_steps.proofs.Moving.{dropped_moves, dims_moves, component_moves, value_moves}
use Rattle.cir_steps.proofs.Moving.{log_steps, equal_steps, undecided_steps, assert_moves, Written}
use Rattle.cir_steps.proofs.Moving.{written_moves}
use Rattle.cir_steps.proofs.Following.{Keeps, Follows, FollowsFlow, Joins, follows_joins}
use Rattle.cir_steps.proofs.Following.{flow_joins, twin_then, from_quiet, from_still, valued_twin}
use Rattle.cir_steps.proofs.Following.{twin_goes, twin_going, quiet_follows, quiet_flow}
use Rattle.cir_steps.proofs.Following.{known_follows, follows_twice, follows_made, follows_either}
use Rattle.cir_steps.proofs.Following.{follows_ok, each_follows, number_follows, weaker_flow}
use Rattle.cir_steps.proofs.Lifting.{IsOther, lifts_simple, other_told, lifted_told}

-- a step that writes new cells alone
pub record IsFresh (x y : Emission) (step : Step) : Type 0 where
  pub count : ℕ
  pub targets : step.targets ≡ numbers_from x.next count
  pub line : LineOf step.targets step.line
  pub next : y.next ≡ x.next + count
  pub still : Still (known_in x) (known_in y)
  pub grown : AreSized (known_in x) → Grows count 1 (known_in x) (known_in y)
  pub own : y.cells.own ≡ x.cells.own
  pub parts : y.cells.parts ≡ x.cells.parts
  pub bodies : y.bodies ≡ x.bodies

abbrev pub one_step : Step → Emission → Emitted
one_step step y = record { state = y; steps = step ∷ [] }

-- signals that are to be declared yet, in the order of their numbers
abbrev pub ClearFrom : ℕ → Entries → Type 0
ClearFrom n signals = (m : ℕ) → n ≤ m → entry_at signals m ≡ None

abbrev pub ClearIn : List ℕ → Entries → Type 0
ClearIn [] signals = ⊤
ClearIn (n ∷ ns) signals = ClearFrom n signals × Below n ns × ClearIn ns signals

abbrev pub Clear : List ℕ → State → Type 0
Clear ns s = ClearIn ns s.frame.signals

pub still_clear : (ns : List ℕ) (f s : State) → Still f s → Clear ns f → Clear ns s
still_clear ns f s h p = subst (ClearIn ns) (sym h.0) p

abbrev pub StaysClear : State → State → Type 0
StaysClear f s = (ns : List ℕ) → Clear ns f → Clear ns s

pub put_clear : (n : ℕ) (ns : List ℕ) (a : SignalEntry) (xs : Entries) → Below n ns → ClearIn ns xs
    → ClearIn ns (put_at n a xs)
put_clear n [] a xs h p = tt
put_clear n (m ∷ ms) a xs h p =
    let less : n < m = h.0 in (
      (λ i above. put_else n i a xs (λ e. let no : n ≡ i = e in absurd (omega arith))
          ∙ p.0 i above),
      p.1,
      put_clear n ms a xs h.1 p.2,
    )

-- a place in the instance whose body is executed
abbrev pub IsHere : Context → Where → Type 0
IsHere k w = (w.instance ≡ k.instance) × (w.path ≡ k.path)

-- what must be known of the statements that touch signals and components
pub record Leaves (q : Emitting) (R : Emission → Emitted → Type 0) : Type 0 where
  pub fresh : (x y : Emission) (step : Step) → IsFresh x y step → IsHere q.context step.place
      → R x (one_step step y)
  pub declared : (spot : Spot) (direction : Direction) (n : ℕ) (name dims : List ℕ)
      (x : Emission) → ClearFrom n (known_in x).frame.signals → R x record {
        state = with_signal n (made_elements dims)
            (with_state (declare_signal q.context spot direction n name dims (known_in x)) x);
        steps = [];
      }
  pub wired : (w : Where) → IsHere q.context w → (written : Assign Meant) (m : Meant)
      (accessors : Accessors Meant) (arrow : Arrow) (e : Expr Meant) (x : Emission)
      → Twin (λ s y. (known_in y.state ≡ s) × R x y × StaysClear (known_in x) s)
      (simple.set_signal q.context w written m accessors arrow e (known_in x))
      (emit_set_signal q w written m accessors arrow e x)
  pub created : (w : Where) (n : ℕ) (accessors : Accessors Meant) (e : Expr Meant) (x : Emission)
      → Twin (λ s y. (known_in y.state ≡ s) × R x y × StaysClear (known_in x) s)
      (next (creation q.context w n accessors e (known_in x)) (create q.context w))
      (emit_create q w n accessors e x)

-- what isn't declared by a statement that isn't executed, or not yet
told_drop : (m : Meant) (ns : List ℕ) (s : State) → Clear (told m ns) s → Clear ns s
told_drop (meant.Variable n) ns s p = p.2
told_drop (meant.Signal direction n) ns s p = p.2
told_drop (meant.Component n) ns s p = p.2
told_drop meant.Other ns s p = p
told_drop (meant.Template n) ns s p = p
told_drop (meant.Function n) ns s p = p

all_drop : (ds : List (Signal Meant)) (ns : List ℕ) (s : State) → Clear (told_all ds ns) s
    → Clear ns s
all_drop [] ns s p = p
all_drop (d ∷ ds) ns s p = all_drop ds ns s (told_drop d.meant (told_all ds ns) s p)

simple_drop : (x : Simple Meant) (ns : List ℕ) (s : State) → Clear (simple_told x ns) s
    → Clear ns s
simple_drop (Signals direction ds) ns s p = all_drop ds ns s p
simple_drop (Vars vs) ns s p = p
simple_drop (Declared cs) ns s p = p
simple_drop (Created name m e) ns s p = p
simple_drop (Assigned a) ns s p = p
simple_drop (Constrain a b) ns s p = p
simple_drop (Right e arrow name m accessors) ns s p = p
simple_drop (TargetLeft target arrow source) ns s p = p
simple_drop (TargetRight source arrow target) ns s p = p
simple_drop (Alone parallel name m arguments inputs) ns s p = p

mutual
  pub drop : (a : Statement Spot Meant) (ns : List ℕ) (s : State) → Clear (declares a ns) s
      → Clear ns s
  drop (Block spot ss) ns s p = drop_all ss ns s p
  drop (If spot c a) ns s p = drop a ns s p
  drop (IfElse spot c a b) ns s p = drop b ns s (drop a (declares b ns) s p)
  drop (While spot c a) ns s p = drop a ns s p
  drop (For spot first_spot f c step_spot a body) ns s p = drop body ns s p
  drop (Return spot e) ns s p = p
  drop (Assert spot e) ns s p = p
  drop (Log spot arguments) ns s p = p
  drop (Ended spot x) ns s p = simple_drop x ns s p

  drop_all : (ss : Statements Spot Meant) (ns : List ℕ) (s : State)
      → Clear (all_declare ss ns) s → Clear ns s
  drop_all empty ns s p = p
  drop_all (then_more a rest) ns s p =
      drop_all rest ns s (drop a (all_declare rest ns) s p)

pub first_clear : (f : First Meant) (ns : List ℕ) (s : State) → Clear ns s
    → Clear (simple_told (first_simple f) ns) s
first_clear (FirstVars vs) ns s p = p
first_clear (FirstAssign a) ns s p = p

module _ (q : Emitting) (calls : Calls q.context.call) (R : Emission → Emitted → Type 0)
    (keeps : Keeps R) (leaves : Leaves q R) where
  module _ (ns : List ℕ) where
    abbrev After : Emission → State → Emitted → Type 0
    After = Follows R keeps (Clear ns)

    after_joins : Joins R keeps After
    after_joins = follows_joins R keeps (Clear ns)

    kept : (x : Emission) (s : State) → Clear ns (known_in x) → Still (known_in x) s → Clear ns s
    kept x s p h = still_clear ns (known_in x) s h p

    counted_follows : (spot : Spot) (x : Emission) → Clear ns (known_in x)
        → Twin (After x) (counted (at q.context spot) (known_in x)) (emit_counted q spot x)
    counted_follows spot x p =
        known_follows R keeps (Clear ns) x (counted (at q.context spot)) (λ s h. kept x s p h.0)
        (counted_moves (known_in x) (at q.context spot))

    wired_follows : (w : Where) → IsHere q.context w → (written : Assign Meant) (m : Meant)
        (accessors : Accessors Meant) (arrow : Arrow) (e : Expr Meant) (x : Emission)
        → Clear ns (known_in x)
        → Twin (After x) (simple.set_signal q.context w written m accessors arrow e (known_in x))
        (emit_set_signal q w written m accessors arrow e x)
    wired_follows w here written m accessors arrow e x p =
        twin_weaker (λ s y. (known_in y.state ≡ s) × R x y × StaysClear (known_in x) s) (After x)
        _ _ (λ s y h. (h.0, h.1, h.2 ns p)) (leaves.wired w here written m accessors arrow e x)

    created_follows : (w : Where) (n : ℕ) (accessors : Accessors Meant) (e : Expr Meant)
        (x : Emission) → Clear ns (known_in x)
        → Twin (After x) (next (creation q.context w n accessors e (known_in x))
        (create q.context w)) (emit_create q w n accessors e x)
    created_follows w n accessors e x p =
        twin_weaker (λ s y. (known_in y.state ≡ s) × R x y × StaysClear (known_in x) s) (After x)
        _ _ (λ s y h. (h.0, h.1, h.2 ns p)) (leaves.created w n accessors e x)

    variable_follows : (w : Where) → IsHere q.context w → (written : Assign Meant) (n : ℕ)
        (accessors : Accessors Meant) (e : Expr Meant) (x : Emission) → Clear ns (known_in x)
        → Twin (After x) (simple.set_variable q.context w written n accessors e (known_in x))
        (emit_set_variable q w written n accessors e x)
    variable_follows w here written n accessors e x p =
        follows_twice R keeps (Clear ns) x
        (variable_assignment q.context w n accessors e (known_in x)) _ _
        (λ a is. follows_made R keeps (Clear ns) (Written (known_in x) q.context calls n a
        (is_unknown n a)) x _ _
        (written_moves (known_in x) q.context calls w
        (variable_cost q.context w written n accessors e a (known_in x)) n accessors e a
        (is_unknown n a) is) (λ s made h.
        follows_either R keeps (Clear ns) x s (is_unknown n a) _ _ (λ t. (
          refl,
          leaves.fresh x _ _ record {
            count = length (new_places n a);
            targets = refl;
            line = tt;
            next = refl;
            still = h.0.0;
            grown = (h.1 t).1;
            own = refl;
            parts = refl;
            bodies = refl;
          } here,
          kept x s p h.0.0,
        ))
        (refl, keeps.still x s h.0, kept x s p h.0.0)))

    set_follows : (w : Where) → IsHere q.context w → (written : Assign Meant) (m : Meant)
        (accessors : Accessors Meant) (e : Expr Meant) (x : Emission) → Clear ns (known_in x)
        → Twin (After x) (simple.set q.context w written m accessors e (known_in x))
        (emit_set_place q w written m accessors e x)
    set_follows w here written (meant.Variable n) accessors e x p =
        variable_follows w here written n accessors e x p
    set_follows w here written (meant.Component n) accessors e x p =
        created_follows w n accessors e x p
    set_follows w here written meant.Other accessors e x p = twin_bad (After x) _ _
    set_follows w here written (meant.Signal direction n) accessors e x p = twin_bad (After x) _ _
    set_follows w here written (meant.Template n) accessors e x p = twin_bad (After x) _ _
    set_follows w here written (meant.Function n) accessors e x p = twin_bad (After x) _ _

    assigned_follows : (w : Where) → IsHere q.context w → (written a : Assign Meant)
        (x : Emission) → Clear ns (known_in x)
        → Twin (After x) (simple.assigned q.context w written a (known_in x))
        (emit_assigned q w written a x)
    assigned_follows w here written (Set name m accessors e) x p =
        set_follows w here written m accessors e x p
    assigned_follows w here written (Left name m accessors arrow e) x p =
        wired_follows w here written m accessors arrow e x p
    assigned_follows w here written (Compound name m accessors op e) x p = twin_bad (After x) _ _
    assigned_follows w here written (Increment name m accessors) x p = twin_bad (After x) _ _
    assigned_follows w here written (Decrement name m accessors) x p = twin_bad (After x) _ _

    initial_follows : (w : Where) → IsHere q.context w → (m : Meant)
        (value : Option (Expr Meant)) (x : Emission) → Clear ns (known_in x)
        → Twin (After x) (simple.initial q.context w m value (known_in x))
        (emit_initial q w m value x)
    initial_follows w here m None x p = quiet_follows R keeps (Clear ns) x p
    initial_follows w here m (Some e) x p = set_follows w here (Set [] m done e) m done e x p

    declared_follows : (w : Where) → IsHere q.context w → (v : Variable Meant) (x : Emission)
        → Clear ns (known_in x)
        → Twin (After x) (simple.variable_declaration q.context w v (known_in x))
        (emit_variable q w v x)
    declared_follows w here v x p =
        number_follows R keeps (Clear ns) x w v.meant _ _ (λ n.
        valued_twin R keeps After after_joins x
        (dims_in q.context w false v.dimensions (known_in x))
        (λ a. declare_variable n a.0 a.1) _ _
        (good_weaker (λ a. Moves (known_in x) a.1)
        (λ a. Moves (known_in x) (declare_variable n a.0 a.1))
        (dims_in q.context w false v.dimensions (known_in x))
        (dims_moves (known_in x) q.context calls w v.dimensions)
        (λ a h. (h.0, declared_grows (known_in x) 0 0 n a.0 a.1 h.1)))
        (λ a h. initial_follows w here v.meant v.value (with_state (declare_variable n a.0 a.1) x)
        (kept x (declare_variable n a.0 a.1) p h.0)))

    initial_signal_follows : (w : Where) → IsHere q.context w → (m : Meant)
        (value : SignalValue Meant) (x : Emission) → Clear ns (known_in x)
        → Twin (After x) (simple.initial_signal q.context w m value (known_in x))
        (emit_initial_signal q w m value x)
    initial_signal_follows w here m Nothing x p = quiet_follows R keeps (Clear ns) x p
    initial_signal_follows w here m (Given arrow e) x p =
        wired_follows w here (Left [] m done arrow e) m done arrow e x p

    numbered_signal : (spot : Spot) (direction : Direction) (d : Signal Meant) (n : ℕ)
        (x : Emission) → Clear (n ∷ ns) (known_in x)
        → Twin (After x) (next (dims_in q.context (at q.context spot) false d.dimensions
        (known_in x)) (λ (dims, s). simple.initial_signal q.context (at q.context spot) d.meant
        d.value (declare_signal q.context spot direction n d.name dims s)))
        (next (dims_in q.context (at q.context spot) false d.dimensions (known_in x))
        (λ (dims, s). emit_initial_signal q (at q.context spot) d.meant d.value
        (with_signal n (made_elements dims)
        (with_state (declare_signal q.context spot direction n d.name dims s) x))))
    numbered_signal spot direction d n x p =
        valued_twin R keeps After after_joins x
        (dims_in q.context (at q.context spot) false d.dimensions (known_in x)) (λ a. a.1) _ _
        (dims_moves (known_in x) q.context calls (at q.context spot) d.dimensions)
        (λ a h.
        let free : Clear (n ∷ ns) a.1 = still_clear (n ∷ ns) (known_in x) a.1 h.0 p in
        from_quiet R keeps After after_joins (with_state a.1 x) (with_signal n
        (made_elements a.0)
        (with_state (declare_signal q.context spot direction n d.name a.0 a.1) x))
        _ _ (leaves.declared spot direction n d.name a.0 (with_state a.1 x) free.0)
        (initial_signal_follows (at q.context spot) (refl, refl) d.meant d.value (with_signal n
        (made_elements a.0)
        (with_state (declare_signal q.context spot direction n d.name a.0 a.1) x))
        (put_clear n ns _ a.1.frame.signals free.1 free.2)))

    signal_follows : (spot : Spot) (direction : Direction) (d : Signal Meant) (m : Meant)
        (x : Emission) → Clear (told m ns) (known_in x)
        → Twin (After x) (declared_number (at q.context spot) m (λ n. next
        (dims_in q.context (at q.context spot) false d.dimensions (known_in x))
        (λ (dims, s). simple.initial_signal q.context (at q.context spot) d.meant d.value
        (declare_signal q.context spot direction n d.name dims s))))
        (emit_number (at q.context spot) m (λ n. next
        (dims_in q.context (at q.context spot) false d.dimensions (known_in x)) (λ (dims, s).
        emit_initial_signal q (at q.context spot) d.meant d.value (with_signal n
        (made_elements dims)
        (with_state (declare_signal q.context spot direction n d.name dims s) x)))))
    signal_follows spot direction d (meant.Variable n) x p = numbered_signal spot direction d n x p
    signal_follows spot direction d (meant.Signal other n) x p =
        numbered_signal spot direction d n x p
    signal_follows spot direction d (meant.Component n) x p =
        numbered_signal spot direction d n x p
    signal_follows spot direction d meant.Other x p = twin_bad (After x) _ _
    signal_follows spot direction d (meant.Template n) x p = twin_bad (After x) _ _
    signal_follows spot direction d (meant.Function n) x p = twin_bad (After x) _ _

    dropped_follows : (w : Where) (e : Expr Meant) (x : Emission) → Clear ns (known_in x)
        → Twin (After x) (simple.dropped q.context w e (known_in x))
        (emit_known (simple.dropped q.context w e) x)
    dropped_follows w e x p =
        known_follows R keeps (Clear ns) x (simple.dropped q.context w e) (λ s h. kept x s p h.0)
        (dropped_moves (known_in x) q.context calls w e)

    slot_follows : (w : Where) → IsHere q.context w → (arrow : Arrow) (t : Slot Meant)
        (e : Expr Meant) (x : Emission) → Clear ns (known_in x)
        → Twin (After x) (simple.slot q.context w arrow t e (known_in x))
        (emit_slot q w arrow t e x)
    slot_follows w here arrow (SlotPlace name m accessors) e x p =
        wired_follows w here (Left name m accessors arrow e) m accessors arrow e x p
    slot_follows w here arrow SlotDiscard e x p = dropped_follows w e x p

    slots_follow : (w : Where) → IsHere q.context w → (arrow : Arrow) (ts : List (Slot Meant))
        (es : List (Expr Meant)) (x : Emission) → Clear ns (known_in x)
        → Twin (After x) (simple.slots q.context w arrow ts es (known_in x))
        (emit_slots q w arrow ts es x)
    slots_follow w here arrow [] es x p = quiet_follows R keeps (Clear ns) x p
    slots_follow w here arrow (t ∷ ts) [] x p = quiet_follows R keeps (Clear ns) x p
    slots_follow w here arrow (t ∷ ts) (e ∷ es) x p =
        twin_then R keeps After after_joins (Clear ns) x
        (simple.slot q.context w arrow t e (known_in x)) (emit_slot q w arrow t e x) _ _
        (slot_follows w here arrow t e x p) (λ y i. slots_follow w here arrow ts es y i)

    tuple_follows : (w : Where) → IsHere q.context w → (arrow : Arrow) (t : Target Meant)
        (es : List (Expr Meant)) (x : Emission) → Clear ns (known_in x)
        → Twin (After x) (simple.tuple q.context w arrow t es (known_in x))
        (emit_tuple q w arrow t es x)
    tuple_follows w here arrow Discard es x p =
        each_follows R keeps (Clear ns) (simple.dropped q.context w)
        (λ e. emit_known (simple.dropped q.context w e)) es x p (dropped_follows w)
    tuple_follows w here arrow (Slots ts) es x p = slots_follow w here arrow ts es x p

    -- a step that writes nothing
    silent : (x : Emission) (s : State) (step : Step) → IsHere q.context step.place
        → step.targets ≡ [] → step.line ≡ None
        → Steps 0 (known_in x) s → R x (one_step step (with_state s x))
    silent x s step here none unsaid h = leaves.fresh x (with_state s x) step record {
      count = 0;
      targets = none;
      line = subst (LineOf step.targets) (sym unsaid) tt;
      next = omega arith;
      still = h.0;
      grown = h.1;
      own = refl;
      parts = refl;
      bodies = refl;
    } here

    equal_follows : (w : Where) → IsHere q.context w → (a b : Expr Meant) (x : Emission)
        → Clear ns (known_in x)
        → Twin (After x) (simple.equal q.context w a b (known_in x)) (emit_equal q w a b x)
    equal_follows w here a b x p =
        follows_made R keeps (Clear ns) (Steps 0 (known_in x)) x
        (simple.equal q.context w a b (known_in x)) _
        (equal_steps (known_in x) q.context calls w a b)
        (λ s made h. follows_ok R keeps (Clear ns) x s _
        (refl, silent x s _ here refl refl h, kept x s p h.0))

  signals_follow : (spot : Spot) (direction : Direction) (ds : List (Signal Meant)) (ns : List ℕ)
      (x : Emission) → Clear (told_all ds ns) (known_in x)
      → Twin (After ns x) (simple.each (simple.signal_declaration q.context spot direction) ds
      (known_in x)) (emit_each (emit_signal q spot direction) ds x)
  signals_follow spot direction [] ns x p = quiet_follows R keeps (Clear ns) x p
  signals_follow spot direction (d ∷ ds) ns x p =
      twin_then R keeps (After ns) (after_joins ns) (Clear (told_all ds ns)) x
      (simple.signal_declaration q.context spot direction d (known_in x))
      (emit_signal q spot direction d x) (simple.each _ ds) (emit_each _ ds)
      (signal_follows (told_all ds ns) spot direction d d.meant x p)
      (signals_follow spot direction ds ns)

  execute_follows : (spot : Spot) (a : Simple Meant) (ns : List ℕ) (x : Emission)
      → Clear (simple_told a ns) (known_in x)
      → Twin (After ns x) (simple.execute q.context spot a (known_in x)) (emit_execute q spot a x)
  execute_follows spot (Vars vs) ns x p =
      each_follows R keeps (Clear ns) (simple.variable_declaration q.context (at q.context spot))
      (emit_variable q (at q.context spot)) vs x p
      (declared_follows ns (at q.context spot) (refl, refl))
  execute_follows spot (Signals direction ds) ns x p = signals_follow spot direction ds ns x p
  execute_follows spot (Declared cs) ns x p =
      each_follows R keeps (Clear ns) (simple.component_declaration q.context (at q.context spot))
      (λ c. emit_known (simple.component_declaration q.context (at q.context spot) c)) cs x p
      (λ c y i. known_follows R keeps (Clear ns) y
      (simple.component_declaration q.context (at q.context spot) c) (λ s h. kept ns y s i h.0)
      (component_moves (known_in y) q.context calls (at q.context spot) c))
  execute_follows spot (Created name m e) ns x p =
      number_follows R keeps (Clear ns) x (at q.context spot) m _ _ (λ n.
      from_still R keeps (After ns) (after_joins ns) x
      (declare_component n name [] (known_in x)) _ _ (
        still_itself (known_in x),
        array_grows (known_in x) 0 0 [] (known_in x) (rises_itself (known_in x)),
      )
      (created_follows ns (at q.context spot) n done e
      (with_state (declare_component n name [] (known_in x)) x) p))
  execute_follows spot (Assigned a) ns x p =
      assigned_follows ns (at q.context spot) (refl, refl) a (plain a) x p
  execute_follows spot (Constrain a b) ns x p =
      equal_follows ns (at q.context spot) (refl, refl) a b x p
  execute_follows spot (TargetLeft target arrow source) ns x p =
      tuple_follows ns (at q.context spot) (refl, refl) arrow target (simple.values_of source) x p
  execute_follows spot (Right e arrow name m accessors) ns x p = twin_bad (After ns x) _ _
  execute_follows spot (TargetRight source arrow target) ns x p = twin_bad (After ns x) _ _
  execute_follows spot (Alone parallel name m arguments inputs) ns x p = twin_bad (After ns x) _ _

  execute_counted_follows : (spot : Spot) (a : Simple Meant) (ns : List ℕ) (x : Emission)
      → Clear (simple_told a ns) (known_in x)
      → Twin (After ns x) (simple.execute_counted q.context spot a (known_in x))
      (emit_execute_counted q spot a x)
  execute_counted_follows spot a ns x p =
      twin_then R keeps (After ns) (after_joins ns) (Clear ns) x
      (simple.execute q.context spot a (known_in x)) (emit_execute q spot a x)
      (counted (at q.context spot)) (emit_counted q spot) (execute_follows spot a ns x p)
      (counted_follows ns spot)

  before_follows : (spot : Spot) (as' : List (Simple Meant)) (ns : List ℕ) (x : Emission)
      → AllByRecursion IsOther as' → Clear ns (known_in x)
      → Twin (After ns x) (simple.each (simple.execute_counted q.context spot) as' (known_in x))
      (emit_each (emit_execute_counted q spot) as' x)
  before_follows spot [] ns x others p = quiet_follows R keeps (Clear ns) x p
  before_follows spot (a ∷ as') ns x others p =
      twin_then R keeps (After ns) (after_joins ns) (Clear ns) x
      (simple.execute_counted q.context spot a (known_in x)) (emit_execute_counted q spot a x)
      (simple.each (simple.execute_counted q.context spot) as')
      (emit_each (emit_execute_counted q spot) as')
      (execute_counted_follows spot a ns x
      (subst (λ ms. Clear ms (known_in x)) (sym (other_told a ns others.0)) p))
      (λ y i. before_follows spot as' ns y others.1 i)

  simple_follows : (spot : Spot) (a : Simple Meant) (ns : List ℕ) (x : Emission)
      → Clear (simple_told a ns) (known_in x)
      → Twin (After ns x) (simple.simple q.context spot a (known_in x)) (emit_simple q spot a x)
  simple_follows spot a ns x p =
      let l : Lifted (Simple Meant) = lift_simple q.context.program q.context.named_components a
      (length (known_in x).frame.components) in
      twin_then R keeps (After ns) (after_joins ns) (Clear (simple_told a ns)) x
      (simple.each (simple.execute_counted q.context spot) l.before (known_in x)) _
      (simple.execute_counted q.context spot l.value) (emit_execute_counted q spot l.value)
      (before_follows spot l.before (simple_told a ns) x (lifts_simple q.context.program
      q.context.named_components a (length (known_in x).frame.components)) p)
      (λ y i. execute_counted_follows spot l.value ns y
      (subst (λ ms. Clear ms (known_in y)) (sym (lifted_told q.context.program
      q.context.named_components a (length (known_in x).frame.components) ns)) i))

  -- compound statements
  module _ (ns : List ℕ) where
    abbrev AfterFlow : Emission → Flow → Emitted → Type 0
    AfterFlow = FollowsFlow R keeps (Clear ns)

    flows_join : Joins R keeps AfterFlow
    flows_join = flow_joins R keeps (Clear ns)

    undecided_follows : (spot : Spot) (fault : Option Fault) (a : Statement Spot Meant)
        (x : Emission) → Clear ns (known_in x)
        → Twin (AfterFlow x) (goes (undecided q.context spot fault a (known_in x)))
        (emit_undecided q spot fault a x)
    undecided_follows spot fault a x p =
        twin_goes R keeps (Clear ns) x (undecided q.context spot fault a (known_in x)) _
        (follows_made R keeps (Clear ns)
        (Steps (count_of (wanted_of (outer_assigned a) (known_in x))) (known_in x)) x
        (undecided q.context spot fault a (known_in x)) _
        (undecided_steps (known_in x) q.context calls spot fault a)
        (λ s made h. follows_ok R keeps (Clear ns) x s _ (
          refl,
          leaves.fresh x _ _ record {
            count = count_of (wanted_of (outer_assigned a) (known_in x));
            targets = refl;
            line = tt;
            next = refl;
            still = h.0;
            grown = h.1;
            own = refl;
            parts = refl;
            bodies = refl;
          } (refl, refl),
          kept ns x s p h.0,
        )))

    module _ (before : List ℕ) (f t u : State → Tried Flow) (g v w : Emission → Tried Emitted)
        (hf : (x : Emission) → Clear before (known_in x)
        → Twin (AfterFlow x) (f (known_in x)) (g x))
        (ht : (x : Emission) → Clear before (known_in x)
        → Twin (AfterFlow x) (t (known_in x)) (v x))
        (hu : (x : Emission) → Clear before (known_in x)
        → Twin (AfterFlow x) (u (known_in x)) (w x)) where
      decided_follows : (c : Value) (x : Emission) → Clear before (known_in x)
          → Twin (AfterFlow x) (decided c f t u (known_in x)) (decided c g v w x)
      decided_follows (Known n) x p = at (n == 0)
        where
          at : (b : Bool) → Twin (AfterFlow x) ((cond b f t) (known_in x)) ((cond b g v) x)
          at true = hf x p
          at false = ht x p
      decided_follows (Linear a) x p = hu x p
      decided_follows (Quadratic a b c) x p = hu x p
      decided_follows Opaque x p = hu x p

      condition_follows : (spot : Spot) (c : Expr Meant) (x : Emission)
          → Clear before (known_in x)
          → Twin (AfterFlow x) (next (condition q.context spot c (known_in x))
          (λ (v, s). decided v f t u s))
          (next (condition q.context spot c (known_in x))
          (λ (a, s). decided a g v w (with_state s x)))
      condition_follows spot c x p =
          valued_twin R keeps AfterFlow flows_join x
          (condition q.context spot c (known_in x)) (λ a. a.1) _ _
          (condition_moves (known_in x) q.context calls spot c)
          (λ a h. decided_follows a.0 (with_state a.1 x)
          (still_clear before (known_in x) a.1 h.0 p))

      branch_follows : (spot : Spot) (c : Expr Meant) (x : Emission) → Clear before (known_in x)
          → Twin (AfterFlow x) (statement.branch q.context spot c f t u (known_in x))
          (emit_branch q spot c g v w x)
      branch_follows spot c x p =
          twin_then R keeps AfterFlow flows_join (Clear before) x
          (counted (at q.context spot) (known_in x)) (emit_counted q spot x) _ _
          (counted_follows before spot x p) (condition_follows spot c)

    turns_follow : (n : ℕ) (spot : Spot) (c : Expr Meant) (body unknown : State → Tried Flow)
        (made other : Emission → Tried Emitted)
        → ((x : Emission) → Clear ns (known_in x)
        → Twin (AfterFlow x) (body (known_in x)) (made x))
        → ((x : Emission) → Clear ns (known_in x)
        → Twin (AfterFlow x) (unknown (known_in x)) (other x))
        → (x : Emission) → Clear ns (known_in x)
        → Twin (AfterFlow x) (statement.turns n q.context spot c body unknown (known_in x))
        (emit_turns n q spot c made other x)
    turns_follow zero spot c body unknown made other h g x p = twin_bad (AfterFlow x) _ _
    turns_follow (suc n) spot c body unknown made other h g x p =
        condition_follows ns _ _ unknown quiet _ other (quiet_flow R keeps (Clear ns)) (λ y i.
        twin_then R keeps AfterFlow flows_join (Clear ns) y
        (counted (at q.context spot) (known_in y)) (emit_counted q spot y) _ _
        (counted_follows ns spot y i) (λ z j.
        twin_going R keeps (Clear ns) (Clear ns) z (body (known_in z)) (made z)
        (statement.turns n q.context spot c body unknown) (emit_turns n q spot c made other)
        (h z j) (turns_follow n spot c body unknown made other h g))) g spot c x p

    assert_value_follows : (w : Where) → IsHere q.context w → (e : Expr Meant) (v : Value)
        (s : State) (x : Emission) → Clear ns (known_in x) → Moves (known_in x) s
        → Twin (After ns x) (assert_value q.context w e (known_in x) v s)
        (emit_assert_value q w e v s x)
    assert_value_follows w here e v s x p h =
        follows_made R keeps (Clear ns)
        (λ t. Still (known_in x) t × Asserted (known_in x) 0 0 q.context calls v t) x
        (assert_value q.context w e (known_in x) v s) _
        (assert_moves (known_in x) q.context calls w e v s h)
        (λ s1 made i. at s1 i.0 v i.1)
      where
        stepped : (s1 : State) → Still (known_in x) s1 → Grows (0 + 0) (0 + 1) (known_in x) s1
            → Twin (After ns x) (Ok s1) (make_assertion q.context w e s1 x)
        stepped s1 i g =
            follows_ok R keeps (Clear ns) x s1 _ (
              refl,
              silent ns x s1 _ here refl refl (steps_of 0 (known_in x) s1 i g),
              kept ns x s1 p i,
            )

        at : (s1 : State) → Still (known_in x) s1 → (v : Value)
            → Asserted (known_in x) 0 0 q.context calls v s1
            → Twin (After ns x) (Ok s1) (decided v
            (quiet (with_state s1 x)) (quiet (with_state s1 x))
            (make_assertion q.context w e s1 x))
        at s1 i (Known n) g =
            follows_either R keeps (Clear ns) x s1 (n == 0) _ _
            (λ t. (refl, keeps.still x s1 (i, g), kept ns x s1 p i))
            (refl, keeps.still x s1 (i, g), kept ns x s1 p i)
        at s1 i (Linear a) g = stepped s1 i g
        at s1 i (Quadratic a b c) g = stepped s1 i g
        at s1 i Opaque g = stepped s1 i g

    assert_follows : (spot : Spot) (e : Expr Meant) (x : Emission) → Clear ns (known_in x)
        → Twin (AfterFlow x) (exec q.context (Assert spot e) (known_in x))
        (emit q (Assert spot e) x)
    unfolding OnGood
    assert_follows spot e x p =
        at (value_in q.context (at_spot) false Scalar e (known_in x))
        (value_moves (known_in x) q.context calls at_spot Scalar e)
      where
        at_spot : Where
        at_spot = at q.context spot

        at : (m : Tried (Datum × State)) → OnGood (λ a. Moves (known_in x) a.1) m
            → Twin (AfterFlow x) (next m (λ a. next
            (assert_value q.context at_spot e (known_in x) (the_item a.0) a.1)
            (λ s. goes (counted at_spot s))))
            (then_emit (next m (λ a. emit_assert_value q at_spot e (the_item a.0) a.1 x))
            (emit_counted q spot))
        at (Ok a) h =
            twin_then R keeps AfterFlow flows_join (Clear ns) x
            (assert_value q.context at_spot e (known_in x) (the_item a.0) a.1)
            (emit_assert_value q at_spot e (the_item a.0) a.1 x) _ (emit_counted q spot)
            (assert_value_follows at_spot (refl, refl) e (the_item a.0) a.1 x p h)
            (λ y i. twin_goes R keeps (Clear ns) y _ _ (counted_follows ns spot y i))
        at (Err f) h = twin_bad (AfterFlow x) _ _

    log_follows : (spot : Spot) (arguments : List (LogArgument Meant)) (x : Emission)
        → Clear ns (known_in x)
        → Twin (AfterFlow x) (exec q.context (Log spot arguments) (known_in x))
        (emit q (Log spot arguments) x)
    log_follows spot arguments x p =
        twin_then R keeps AfterFlow flows_join (Clear ns) x
        (log_values q.context (at q.context spot) arguments (known_in x)) _ _
        (emit_counted q spot)
        (follows_made R keeps (Clear ns) (Steps (logged_cells arguments) (known_in x)) x
        (log_values q.context (at q.context spot) arguments (known_in x)) _
        (log_steps (known_in x) q.context calls (at q.context spot) arguments)
        (λ s made h. follows_ok R keeps (Clear ns) x s _ (
          refl,
          leaves.fresh x _ _ record {
            count = logged_cells arguments;
            targets = refl;
            line = log_numbers arguments x.next;
            next = refl;
            still = h.0;
            grown = h.1;
            own = refl;
            parts = refl;
            bodies = refl;
          } (refl, refl),
          kept ns x s p h.0,
        )))
        (λ y i. twin_goes R keeps (Clear ns) y _ _ (counted_follows ns spot y i))

  mutual
    pub emit_follows : (a : Statement Spot Meant) → IsPlain a → (ns : List ℕ) (x : Emission)
        → Clear (declares a ns) (known_in x)
        → Twin (AfterFlow ns x) (exec q.context a (known_in x)) (emit q a x)
    emit_follows (Block spot ss) h ns x p =
        twin_then R keeps (AfterFlow ns) (flows_join ns) (Clear (all_declare ss ns)) x
        (counted (at q.context spot) (known_in x)) (emit_counted q spot x) (exec_all q.context ss)
        (emit_all q ss) (counted_follows (all_declare ss ns) spot x p) (all_follow ss h ns)
    emit_follows (If spot c a) h ns x p =
        branch_follows ns (declares a ns) _ _ _ quiet (emit q a) _
        (λ y i. quiet_flow R keeps (Clear ns) y (drop a ns (known_in y) i))
        (emit_follows a h ns)
        (λ y i. undecided_follows ns spot (fault_of a) (If spot c a) y
        (drop a ns (known_in y) i)) spot c x p
    emit_follows (IfElse spot c a b) h ns x p =
        branch_follows ns (declares a (declares b ns)) _ _ _ (emit q b) (emit q a) _
        (λ y i. emit_follows b h.1 ns y (drop a (declares b ns) (known_in y) i))
        (λ y i. weaker_flow R keeps (Clear (declares b ns)) (Clear ns) y _ _
        (λ s j. drop b ns s j) (emit_follows a h.0 (declares b ns) y i))
        (λ y i. undecided_follows ns spot (first_of (fault_of a) (fault_of b))
        (IfElse spot c a b) y (drop b ns (known_in y) (drop a (declares b ns) (known_in y) i)))
        spot c x p
    emit_follows (While spot c a) h ns x p =
        twin_then R keeps (AfterFlow ns) (flows_join ns) (Clear ns) x
        (counted (at q.context spot) (known_in x)) (emit_counted q spot x) _ _
        (counted_follows ns spot x (drop a ns (known_in x) p))
        (turns_follow ns most_turns spot c (exec q.context a) _ (emit q a) _
        (λ y i. emit_follows a h.0 ns y (subst (λ ms. Clear ms (known_in y)) (sym (h.1 ns)) i))
        (undecided_follows ns spot (fault_of a) (While spot c a)))
    emit_follows (For spot first_spot f c step_spot a body) h ns x p =
        twin_then R keeps (AfterFlow ns) (flows_join ns) (Clear ns) x
        (counted (at q.context spot) (known_in x)) (emit_counted q spot x) _ _
        (counted_follows ns spot x (drop body ns (known_in x) p)) (λ x1 p1.
        twin_then R keeps (AfterFlow ns) (flows_join ns) (Clear ns) x1
        (simple.simple q.context first_spot (first_simple f) (known_in x1))
        (emit_simple q first_spot (first_simple f) x1) _ _
        (simple_follows first_spot (first_simple f) ns x1 (first_clear f ns (known_in x1) p1))
        (λ x2 p2.
        twin_then R keeps (AfterFlow ns) (flows_join ns) (Clear ns) x2
        (counted (at q.context spot) (known_in x2)) (emit_counted q spot x2) _ _
        (counted_follows ns spot x2 p2)
        (turns_follow ns most_turns spot c _ _ _ _ (λ x3 p3.
        twin_then R keeps (AfterFlow ns) (flows_join ns) (Clear ns) x3
        (counted (at q.context spot) (known_in x3)) (emit_counted q spot x3) _ _
        (counted_follows ns spot x3 p3) (λ x4 p4.
        twin_going R keeps (Clear ns) (Clear ns) x4 (exec q.context body (known_in x4))
        (emit q body x4) _ (emit_simple q step_spot (Assigned a))
        (emit_follows body h.0 ns x4 (subst (λ ms. Clear ms (known_in x4)) (sym (h.1 ns)) p4))
        (λ x5 p5. twin_goes R keeps (Clear ns) x5 _ _
        (simple_follows step_spot (Assigned a) ns x5 p5))))
        (undecided_follows ns spot (first_of (assign_fault step_spot a) (fault_of body))
        (loop_of spot c body step_spot a)))))
    emit_follows (Return spot e) h ns x p = absurd h
    emit_follows (Assert spot e) h ns x p = assert_follows ns spot e x p
    emit_follows (Log spot arguments) h ns x p = log_follows ns spot arguments x p
    emit_follows (Ended spot a) h ns x p =
        twin_goes R keeps (Clear ns) x _ _ (simple_follows spot a ns x p)

    pub all_follow : (ss : Statements Spot Meant) → ArePlain ss → (ns : List ℕ) (x : Emission)
        → Clear (all_declare ss ns) (known_in x)
        → Twin (AfterFlow ns x) (exec_all q.context ss (known_in x)) (emit_all q ss x)
    all_follow empty h ns x p = quiet_flow R keeps (Clear ns) x p
    all_follow (then_more a rest) h ns x p =
        twin_going R keeps (Clear ns) (Clear (all_declare rest ns)) x
        (exec q.context a (known_in x)) (emit q a x)
        (exec_all q.context rest) (emit_all q rest)
        (emit_follows a h.0 (all_declare rest ns) x p)
        (all_follow rest h.1 ns)
