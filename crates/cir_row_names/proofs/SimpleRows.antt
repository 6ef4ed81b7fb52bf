-- What simple statements keep.
use Rattle.std.proofs.Common.{◌≡◌, ℕ, ◌+◌, Bool, true, false, not, List, [], ◌∷◌}
use Rattle.std.proofs.Common.{Option, Some, None}
use Rattle.std.specs.List.{AllByRecursion}
use Rattle.cir_ast.specs.declared.program.Spot.{Spot}
use Rattle.cir_ast.specs.declared.program.Meant.{Meant}
use Rattle.cir_ast.specs.declared.program.Meant.TheVariants as meant
use Rattle.cir_ast.specs.declared.operators.Arrow.{Arrow}
use Rattle.cir_ast.specs.declared.operators.Arrow.TheVariants.{Constrain as ConstrainArrow}
use Rattle.cir_meaning.specs.Costs.{Cost}
use Rattle.cir_ast.specs.declared.operators.Direction.{Direction}
use Rattle.cir_ast.specs.declared.refusal.Kind.TheVariants.{ReadBeforeWrite, SecondWrite}
use Rattle.cir_ast.specs.declared.refusal.Kind.TheVariants.{UnknownIndex}
use Rattle.cir_ast.specs.Tree.{Expr, Accessors, done, Variable, SignalValue, Nothing, Given, Signal}
use Rattle.cir_ast.specs.Tree.{Component, Assign, Set, Compound, Left, Increment, Decrement, Slot}
use Rattle.cir_ast.specs.Tree.{SlotPlace, SlotDiscard, Target, Discard, Slots, Simple, Vars}
use Rattle.cir_ast.specs.Tree.{Signals, Declared, Created, Assigned, Constrain, Right, TargetLeft}
use Rattle.cir_ast.specs.Tree.{TargetRight, Alone}
use Rattle.cir_lc.specs.Number.{signal}
use Rattle.cir_meaning.specs.Tried.{Where, Tried, next, found}
use Rattle.cir_meaning.specs.Places.{all_known}
use Rattle.cir_meaning.specs.Arrays.{Datum, Want, Scalar, Whole, the_item, reach}
use Rattle.cir_meaning.specs.Values.{Value, Linear}
use Rattle.cir_meaning.specs.Frame.{State, Context, at, is_written, entry_at}
use Rattle.cir_meaning.specs.Evaluate.{value_in, dims_in, arguments_in}
use Rattle.cir_meaning.specs.Writing.{plain, variable_assignment, write_variable, is_unknown}
use Rattle.cir_meaning.specs.Writing.{Target as WrittenTarget, signals_of, write_element}
use Rattle.cir_meaning.specs.Writing.{constrained, constrained_by}
use Rattle.cir_meaning.specs.Writing.{write_elements, signal_assignment, write_signal}
use Rattle.cir_meaning.specs.Declaring.{declare_variable, declare_signal, declare_component}
use Rattle.cir_meaning.specs.Declaring.{Creation, creation, create_at, create_each, create}
use Rattle.cir_meaning.specs.Steps.{variable_cost, signal_cost, equal_cost, new_cells}
use Rattle.cir_meaning.specs.Simple as simple
use Rattle.cir_meaning.proofs.Good.{OnGood, good_ok, good_bad, good_next, good_on, good_needed}
use Rattle.cir_meaning.proofs.Good.{good_found_as, good_weaker, either}
use Rattle.cir_meaning.proofs.Pairs.{good_both}
use Rattle.cir_meaning.proofs.ValueKeepings.{template_call_good, indices_any}
use Rattle.cir_meaning.proofs.Likes.{CallKeeps, Like, like_itself, value_like}
use Rattle.cir_meaning.proofs.VariableRuns.{IsAdded, stepped_adds, assignment_like}
use Rattle.cir_meaning.proofs.EqualRuns.{each_stays}
use Rattle.cir_meaning.proofs.SignalTargets.{SignalLike, assignment_target}
use Rattle.cir_meaning.proofs.Creating.{Created as IsCreated, create_at_is, creation_like}
use Rattle.cir_meaning.proofs.SimpleRuns.{dims_like}
use Rattle.cir_row_names.specs.Rows.{IsLineText}
use Rattle.cir_row_names.proofs.Closing.{IsOfEntry, Closes}
use Rattle.cir_row_names.proofs.Lifting.{IsExecuted}

module _ (p : List ℕ → Bool) (k : Context) (keeps : CallKeeps k.call) (Q : State → Type 0)
    (closed : Closes p k Q) where
  valued : {A : Type 0} (R : A → Type 0) (w : Where) (shaded : Bool) (want : Want)
      (e : Expr Meant) (s : State) (go : Datum × State → Tried A) → Q s
      → ((x : Datum × State) → Q x.1 → OnGood R (go x))
      → OnGood R (next (value_in k w shaded want e s) go)
  valued R w shaded want e s go h g =
      good_next (λ x. Like s x.1) R (value_in k w shaded want e s) go
      (value_like s k keeps w shaded want e s (like_itself s))
      (λ x l. g x (closed.like s x.1 l h))

  stepped_kept : (m : Tried State) (s : State) → OnGood (IsAdded s) m → Q s
      → OnGood Q m
  stepped_kept m s g h = good_weaker (IsAdded s) Q m g (λ t i. closed.added s t i h)

  -- `=`
  set_variable_kept : (w : Where) (written : Assign Meant) (m : ℕ) (accessors : Accessors Meant)
      (e : Expr Meant) (s : State) → Q s
      → OnGood Q (simple.set_variable k w written m accessors e s)
  set_variable_kept w written m accessors e s h =
      good_next (λ a. Like s a.state) Q (variable_assignment k w m accessors e s) _
      (assignment_like k keeps s w m accessors e s (like_itself s)) (λ a l.
      either (OnGood Q) (is_unknown m a) _ _
      (stepped_kept _ (write_variable m a)
      (stepped_adds k w (variable_cost k w written m accessors e a s) (new_cells m a)
      (write_variable m a)) (closed.variable m _ a.state (closed.like s a.state l h)))
      (good_ok Q (write_variable m a) (closed.variable m _ a.state (closed.like s a.state l h))))

  create_kept : (w : Where) (c : Creation) (places : List ℕ) → IsOfEntry c → Q c.state
      → OnGood Q (create_each k w c places)
  create_kept w c [] is h = good_ok Q c.state h
  create_kept w c (place ∷ places) is h =
      good_weaker (IsCreated k w c place) Q (create_at k w c place)
      (create_at_is k w c place) (λ t made. closed.created w c place t made is h)

  of_entry : (w : Where) (m : ℕ) (accessors : Accessors Meant) (e : Expr Meant) (s : State)
      → OnGood IsOfEntry (creation k w m accessors e s)
  of_entry w m accessors e s =
      template_call_good IsOfEntry w e _ (λ t arguments.
      good_on IsOfEntry (arguments_in k w arguments s) _ (λ x.
      indices_any IsOfEntry k w false [] accessors x.1 _ (λ indices rest s2.
      good_found_as IsOfEntry w ReadBeforeWrite (entry_at s2.frame.components m) _ (λ c there.
      good_on IsOfEntry (found w UnknownIndex (all_known indices)) _ (λ numbers.
      good_on IsOfEntry (reach w false Scalar c.dims indices) _ (λ r.
      good_ok IsOfEntry record {
        component = m;
        entry = c;
        indices = numbers;
        places = r.places;
        template = t;
        arguments = x.0;
        state = s2;
      } there))))))

  creation_kept : (w : Where) (m : ℕ) (accessors : Accessors Meant) (e : Expr Meant) (s : State)
      → Q s → OnGood Q (next (creation k w m accessors e s) (create k w))
  creation_kept w m accessors e s h =
      good_next (λ c. Like s c.state × IsOfEntry c) Q (creation k w m accessors e s) (create k w)
      (good_both (λ c. Like s c.state) IsOfEntry (creation k w m accessors e s)
      (creation_like k keeps s w m accessors e s (like_itself s)) (of_entry w m accessors e s))
      (λ c l. create_kept w c c.places l.1 (closed.like s c.state l.0 h))

  set_kept : (w : Where) (written : Assign Meant) (m : Meant) (accessors : Accessors Meant)
      (e : Expr Meant) (s : State) → Q s
      → OnGood Q (simple.set k w written m accessors e s)
  set_kept w written (meant.Variable i) accessors e s h =
      set_variable_kept w written i accessors e s h
  set_kept w written (meant.Component i) accessors e s h = creation_kept w i accessors e s h
  set_kept w written meant.Other accessors e s h = good_bad Q _
  set_kept w written (meant.Signal direction i) accessors e s h = good_bad Q _
  set_kept w written (meant.Template i) accessors e s h = good_bad Q _
  set_kept w written (meant.Function i) accessors e s h = good_bad Q _

  -- writes of signals
  elements_kept : (w : Where) (arrow : Arrow) (t : WrittenTarget) (places : List ℕ)
      (vs : List Value) (s : State) → Q s
      → OnGood Q (write_elements k w arrow t places vs s)
  elements_kept w arrow t [] vs s h = good_ok Q s h
  elements_kept w arrow t (place ∷ places) [] s h = good_ok Q s h
  elements_kept w arrow t (place ∷ places) (v ∷ vs) s h =
      good_next (λ x. Q x.1) Q (write_element w t place s) _
      (good_found_as (λ x. Q x.1) w ReadBeforeWrite
      (entry_at (signals_of t.part s.frame) t.number) _ (λ e there.
      good_needed (λ x. Q x.1) (not (is_written e place)) w SecondWrite _
      (good_ok (λ x. Q x.1) _ (closed.written t.part t.number place e s h)))) (λ x g.
      good_next Q Q (constrained_by k w arrow (Linear (signal (x.0.first + place))) v x.1) _
      (closed.equation w arrow (Linear (signal (x.0.first + place))) v x.1 g)
      (λ s2 i. elements_kept w arrow t places vs s2 i))

  wired_kept : (w : Where) (cost : Cost) (places : List ℕ) (s : State) → Q s
      → OnGood Q (simple.wired k w cost places s)
  wired_kept w cost [] s h = good_ok Q s h
  wired_kept w cost (place ∷ places) s h =
      stepped_kept _ s (stepped_adds k w cost 0 s) h

  set_signal_kept : (w : Where) (written : Assign Meant) (m : Meant)
      (accessors : Accessors Meant)
      (arrow : Arrow) (e : Expr Meant) (s : State) → Q s
      → OnGood Q (simple.set_signal k w written m accessors arrow e s)
  set_signal_kept w written m accessors arrow e s h =
      good_next (SignalLike k keeps s w) Q (signal_assignment k w m accessors e s) _
      (assignment_target k keeps s w m accessors e s (like_itself s)) (λ a l.
      good_next Q Q (write_signal k w arrow a) _
      (elements_kept w arrow a.target a.target.reach.places a.value.items a.state
      (closed.like s a.state l.0 h))
      (λ t g. wired_kept w (signal_cost k w written accessors e s) a.target.reach.places t g))

  assigned_kept : (w : Where) (written a : Assign Meant) (s : State) → Q s
      → OnGood Q (simple.assigned k w written a s)
  assigned_kept w written (Set name m accessors e) s h = set_kept w written m accessors e s h
  assigned_kept w written (Left name m accessors arrow e) s h =
      set_signal_kept w written m accessors arrow e s h
  assigned_kept w written (Compound name m accessors op e) s h = good_bad Q _
  assigned_kept w written (Increment name m accessors) s h = good_bad Q _
  assigned_kept w written (Decrement name m accessors) s h = good_bad Q _

  -- declarations
  any_kept : (w : Where) (m : Meant) (go : ℕ → Tried State)
      → ((i : ℕ) → OnGood Q (go i)) → OnGood Q (simple.declared_number w m go)
  any_kept w (meant.Variable i) go h = h i
  any_kept w (meant.Signal direction i) go h = h i
  any_kept w (meant.Component i) go h = h i
  any_kept w meant.Other go h = good_bad Q _
  any_kept w (meant.Template i) go h = good_bad Q _
  any_kept w (meant.Function i) go h = good_bad Q _

  initial_kept : (w : Where) (m : Meant) (o : Option (Expr Meant)) (s : State) → Q s
      → OnGood Q (simple.initial k w m o s)
  initial_kept w m None s h = good_ok Q s h
  initial_kept w m (Some e) s h = set_kept w (Set [] m done e) m done e s h

  variable_kept : (w : Where) (v : Variable Meant) (s : State) → Q s
      → OnGood Q (simple.variable_declaration k w v s)
  variable_kept w v s h =
      any_kept w v.meant _ (λ i.
      good_next (λ x. Like s x.1) Q (dims_in k w false v.dimensions s) _
      (dims_like k keeps s w v.dimensions s (like_itself s)) (λ x l.
      initial_kept w v.meant v.value (declare_variable i x.0 x.1)
      (closed.array x.0 _ (closed.variable i _ x.1 (closed.like s x.1 l h)))))

  component_kept : (w : Where) (c : Component Meant) (s : State) → IsLineText c.name → Q s
      → OnGood Q (simple.component_declaration k w c s)
  component_kept w c s line h =
      any_kept w c.meant _ (λ i.
      good_next (λ x. Like s x.1) Q (dims_in k w false c.dimensions s) _
      (dims_like k keeps s w c.dimensions s (like_itself s)) (λ x l.
      good_ok Q (declare_component i c.name x.0 x.1)
      (closed.array x.0 _ (closed.component i _ x.1 line (closed.like s x.1 l h)))))

  initial_signal_kept : (w : Where) (m : Meant) (value : SignalValue Meant) (s : State)
      → Q s → OnGood Q (simple.initial_signal k w m value s)
  initial_signal_kept w m Nothing s h = good_ok Q s h
  initial_signal_kept w m (Given arrow e) s h =
      set_signal_kept w (Left [] m done arrow e) m done arrow e s h

  signal_kept : (spot : Spot) (direction : Direction) (d : Signal Meant) (s : State)
      → p d.name ≡ true → Q s
      → OnGood Q (simple.signal_declaration k spot direction d s)
  signal_kept spot direction d s passes h =
      any_kept (at k spot) d.meant _ (λ i.
      good_next (λ x. Like s x.1) Q (dims_in k (at k spot) false d.dimensions s) _
      (dims_like k keeps s (at k spot) d.dimensions s (like_itself s)) (λ x l.
      initial_signal_kept (at k spot) d.meant d.value
      (declare_signal k spot direction i d.name x.0 x.1)
      (closed.signal spot direction i d.name x.0 x.1 passes (closed.like s x.1 l h))))

  dropped_kept : (w : Where) (e : Expr Meant) (s : State) → Q s
      → OnGood Q (simple.dropped k w e s)
  dropped_kept w e s h = valued Q w false Whole e s _ h (λ x g. good_ok Q x.1 g)

  slots_kept : (w : Where) (arrow : Arrow) (xs : List (Slot Meant)) (es : List (Expr Meant))
      (s : State) → Q s → OnGood Q (simple.slots k w arrow xs es s)
  slots_kept w arrow [] es s h = good_ok Q s h
  slots_kept w arrow (x ∷ xs) [] s h = good_ok Q s h
  slots_kept w arrow (SlotPlace name m accessors ∷ xs) (e ∷ es) s h =
      good_next Q Q
      (simple.set_signal k w (Left name m accessors arrow e) m accessors arrow e s) _
      (set_signal_kept w (Left name m accessors arrow e) m accessors arrow e s h)
      (λ t g. slots_kept w arrow xs es t g)
  slots_kept w arrow (SlotDiscard ∷ xs) (e ∷ es) s h =
      good_next Q Q (simple.dropped k w e s) _ (dropped_kept w e s h)
      (λ t g. slots_kept w arrow xs es t g)

  tuple_kept : (w : Where) (arrow : Arrow) (target : Target Meant) (es : List (Expr Meant))
      (s : State) → Q s → OnGood Q (simple.tuple k w arrow target es s)
  tuple_kept w arrow Discard es s h =
      each_stays Q (simple.dropped k w) es s (dropped_kept w) h
  tuple_kept w arrow (Slots xs) es s h = slots_kept w arrow xs es s h

  equal_kept : (w : Where) (a b : Expr Meant) (s : State) → Q s
      → OnGood Q (simple.equal k w a b s)
  equal_kept w a b s h =
      valued Q w false Scalar a s _ h (λ x g.
      valued Q w false Scalar b x.1 _ g (λ y i.
      good_next Q Q (constrained k w (the_item x.0) (the_item y.0) y.1) _
      (closed.equation w ConstrainArrow (the_item x.0) (the_item y.0) y.1 i)
      (λ s2 j. stepped_kept _ s2 (stepped_adds k w (equal_cost k w a b s) 0 s2) j)))

  signals_kept : (spot : Spot) (direction : Direction) (ds : List (Signal Meant)) (s : State)
      → AllByRecursion (λ d. p d.name ≡ true) ds → Q s
      → OnGood Q (simple.each (simple.signal_declaration k spot direction) ds s)
  signals_kept spot direction [] s pass h = good_ok Q s h
  signals_kept spot direction (d ∷ ds) s pass h =
      good_next Q Q (simple.signal_declaration k spot direction d s) _
      (signal_kept spot direction d s pass.0 h)
      (λ t g. signals_kept spot direction ds t pass.1 g)

  components_kept : (w : Where) (cs : List (Component Meant)) (s : State)
      → AllByRecursion (λ c. IsLineText c.name) cs → Q s
      → OnGood Q (simple.each (simple.component_declaration k w) cs s)
  components_kept w [] s lines h = good_ok Q s h
  components_kept w (c ∷ cs) s lines h =
      good_next Q Q (simple.component_declaration k w c s) _ (component_kept w c s lines.0 h)
      (λ t g. components_kept w cs t lines.1 g)

  pub execute_kept : (spot : Spot) (x : Simple Meant) (s : State) → IsExecuted p x → Q s
      → OnGood Q (simple.execute k spot x s)
  execute_kept spot (Vars vs) s is h =
      each_stays Q (simple.variable_declaration k (at k spot)) vs s
      (variable_kept (at k spot)) h
  execute_kept spot (Signals direction ds) s is h = signals_kept spot direction ds s is h
  execute_kept spot (Declared cs) s is h = components_kept (at k spot) cs s is h
  execute_kept spot (Created name m e) s is h =
      any_kept (at k spot) m _ (λ i.
      creation_kept (at k spot) i done e (declare_component i name [] s)
      (closed.array [] _ (closed.component i _ s is h)))
  execute_kept spot (Assigned a) s is h = assigned_kept (at k spot) a (plain a) s h
  execute_kept spot (Constrain a b) s is h = equal_kept (at k spot) a b s h
  execute_kept spot (TargetLeft target arrow source) s is h =
      tuple_kept (at k spot) arrow target (simple.values_of source) s h
  execute_kept spot (Right e arrow name m accessors) s is h = good_bad Q _
  execute_kept spot (TargetRight source arrow target) s is h = good_bad Q _
  execute_kept spot (Alone parallel name m arguments inputs) s is h = good_bad Q _
