-- The run of simple statements leaves numbers of the field.
use Rattle.std.proofs.Common.{ℕ, ◌<◌, Bool, false, List, [], ◌∷◌, ◌++◌, length, Option, Some, None}
use Rattle.std.proofs.Common.{Ok, not, slice_get}
use Rattle.std.specs.Prelude.{◌&&◌}
use Rattle.std.specs.List.{AllByRecursion}
use Rattle.gold_field.specs.declared.gold.TheConstants.{P}
use Rattle.cir_ast.specs.declared.program.Spot.{Spot}
use Rattle.cir_ast.specs.declared.program.Meant.{Meant}
use Rattle.cir_ast.specs.declared.program.Meant.TheVariants as meant
use Rattle.cir_ast.specs.declared.operators.Arrow.{Arrow}
use Rattle.cir_ast.specs.declared.operators.Direction.{Direction}
use Rattle.cir_ast.specs.Tree.{Expr, Accessors, done, Variable, SignalValue, Nothing, Given, Signal}
use Rattle.cir_ast.specs.Tree.{Assign, Set, Compound, Left, Increment, Decrement, Slot, SlotPlace}
use Rattle.cir_ast.specs.Tree.{SlotDiscard, Target, Discard, Slots, Simple, Vars, Signals, Declared}
use Rattle.cir_ast.specs.Tree.{Created, Assigned, Constrain, Right, TargetLeft, TargetRight, Alone}
use Rattle.cir_meaning.specs.Tried.{Where, Tried, next}
use Rattle.cir_meaning.specs.Arrays.{Datum}
use Rattle.cir_meaning.specs.Frame.{Part, World, State, at, is_fed, counted}
use Rattle.cir_meaning.specs.Evaluate.{dims_in}
use Rattle.cir_meaning.specs.Anonymous.{Lifted, lift_simple}
use Rattle.cir_meaning.specs.Writing.{plain, variable_assignment, is_unknown, signals_of}
use Rattle.cir_meaning.specs.Writing.{SignalAssignment, signal_assignment}
use Rattle.cir_meaning.specs.Declaring.{declare_variable, declare_signal, declare_component}
use Rattle.cir_meaning.specs.Declaring.{Creation, creation, create}
use Rattle.cir_meaning.specs.Simple.{set_variable, set_signal, equal, component_declaration}
use Rattle.cir_meaning.specs.Simple.{dropped, values_of}
use Rattle.cir_meaning.specs.RunValues.{Numbers, Store, stored, number_in}
use Rattle.cir_meaning.specs.Run.{put_numbers, RunTried, refusing, Wires, RunPart, Run, store_of}
use Rattle.cir_meaning.specs.Run.{environment, stepping}
use Rattle.cir_meaning.specs.RunSimple.{Outcome, Runner, Running, with_known, variable_step}
use Rattle.cir_meaning.specs.RunSimple.{run_set_variable, with_outcome, run_part, started}
use Rattle.cir_meaning.specs.RunSimple.{started_at, signal_step, run_set_signal, waiting}
use Rattle.cir_meaning.specs.RunSimple.{run_created, run_create, run_set_place, run_assigned}
use Rattle.cir_meaning.specs.RunSimple.{run_initial, run_number, run_variable, run_initial_signal}
use Rattle.cir_meaning.specs.RunSimple.{run_signal, run_known, run_each, run_slot, run_slots}
use Rattle.cir_meaning.specs.RunSimple.{run_tuple, run_equal, run_execute, run_counted}
use Rattle.cir_meaning.specs.RunSimple.{run_execute_counted, run_lifted, run_simple}
use Rattle.cir_meaning.proofs.Good.{OnGood, OnSome', good_bad, good_next, good_on, either}
use Rattle.cir_meaning.proofs.Rows.{all_set, all_append}
use Rattle.cir_meaning.proofs.DependingValues.{some_at}
use Rattle.cir_meaning.proofs.FineValues.{IsDatum, FineWorld, Fine, FineContext, zero_value}
use Rattle.cir_meaning.proofs.FineValues.{filled_datum, dims_fine}
use Rattle.cir_meaning.proofs.FineWriting.{FineCreation, creation_fine, create_fine, counted_fine}
use Rattle.cir_meaning.proofs.FineWriting.{set_fine}
use Rattle.cir_meaning.proofs.FineStatements.{set_variable_fine, set_signal_fine, component_fine}
use Rattle.cir_meaning.proofs.FineStatements.{dropped_fine, equal_fine}
use Rattle.cir_meaning.proofs.SmallNumbers.{SmallAll, stored_small, value_small}
use Rattle.cir_meaning.proofs.SmallSteps.{SmallCalls, set_small}
use Rattle.cir_meaning.proofs.SmallWires.{ran_ok, refusing_good, stepping_good, AreSmall}
use Rattle.cir_meaning.proofs.SmallWires.{SmallTable, SmallPart, SmallRun, store_small, put_small}
use Rattle.cir_meaning.proofs.SmallWires.{write_small, environment_small}

-- what the run of a body leaves
pub record SmallOutcome (o : Outcome) : Type 0 where
  pub own : AreSmall o.own
  pub inside : AllByRecursion SmallTable o.inside

abbrev pub SmallRunner : Runner → Type 0
SmallRunner body =
    (w : Where) (n : ℕ) (ds : List Datum) (path : List ℕ) (world : World) (given : Wires)
    (log : List (List ℕ)) → AllByRecursion IsDatum ds → FineWorld world → AreSmall given
    → OnGood SmallOutcome (body w n ds path world given log)

pub record SmallRunning (q : Running) : Type 0 where
  pub fine : FineContext q.context
  pub call : SmallCalls q.call
  pub body : SmallRunner q.body

-- what is known elsewhere
pub known_run : (s : State) (r : Run) → Fine s → SmallRun r → SmallRun (with_known s r)
known_run s r g h = record { known = g; numbers = h.numbers; own = h.own; parts = h.parts }

-- steps from run to run
abbrev pub Runs : (Run → RunTried Run) → Type 0
Runs go = (r : Run) → SmallRun r → OnGood SmallRun (go r)

pub then_runs : (m : RunTried Run) (go : Run → RunTried Run) → OnGood SmallRun m → Runs go
    → OnGood SmallRun (next m go)
then_runs m go h f = good_next SmallRun SmallRun m go h f

pub refused_runs : {A : Type 0} (P : A → Type 0) (m : Tried A) (go : A → RunTried Run) → OnGood P m
    → ((a : A) → P a → OnGood SmallRun (go a)) → OnGood SmallRun (next (refusing m) go)
refused_runs P m go h f = good_next P SmallRun (refusing m) go (refusing_good P m h) f

pub known_runs : (go : State → Tried State) → ((s : State) → Fine s → OnGood Fine (go s))
    → Runs (run_known go)
known_runs go f r h =
    refused_runs Fine (go r.known) _ (f r.known h.known)
    (λ s g. ran_ok SmallRun (with_known s r) (known_run s r g h))

pub each_runs : {A : Type 0} (f : A → Run → RunTried Run) (xs : List A) → ((x : A) → Runs (f x))
    → Runs (run_each f xs)
each_runs f [] h r g = ran_ok SmallRun r g
each_runs f (x ∷ xs) h r g = then_runs (f x r) (run_each f xs) (h x r g) (each_runs f xs h)

number_runs : (w : Where) (m : Meant) (go : ℕ → RunTried Run) → ((n : ℕ) → OnGood SmallRun (go n))
    → OnGood SmallRun (run_number w m go)
number_runs w (meant.Variable n) go h = h n
number_runs w (meant.Signal direction n) go h = h n
number_runs w (meant.Component n) go h = h n
number_runs w meant.Other go h = good_bad SmallRun _
number_runs w (meant.Template n) go h = good_bad SmallRun _
number_runs w (meant.Function n) go h = good_bad SmallRun _

module _ (q : Running) (small : SmallRunning q) where
  -- assignments to variables
  numbered : (s : State) (n : ℕ) (store : Store) (r : Run) → Fine s → SmallAll store → SmallRun r
      → SmallRun (record r { known = s; numbers = put_numbers n (stored store n) r.numbers })
  numbered s n store r g l h = record {
    known = g;
    numbers = put_small n (stored store n) r.numbers (stored_small store n l) h.numbers;
    own = h.own;
    parts = h.parts;
  }

  set_variable_runs : (w : Where) (written : Assign Meant) (n : ℕ) (accessors : Accessors Meant)
      (e : Expr Meant) → Runs (run_set_variable q w written n accessors e)
  set_variable_runs w written n accessors e r h =
      good_on SmallRun (refusing (variable_assignment q.context w n accessors e r.known)) _ (λ a.
      refused_runs Fine (set_variable q.context w written n accessors e r.known) _
      (set_variable_fine q.context small.fine w written n accessors e r.known h.known) (λ s g.
      either (OnGood SmallRun) (is_unknown n a) _ (Ok (with_known s r))
      (good_next SmallAll SmallRun
      (variable_step q w r.known (meant.Variable n) accessors e r) _
      (stepping_good SmallAll w r _
      (set_small (environment q.context w q.call r.known r)
      (environment_small q.context small.fine w q.call small.call r.known r h.known h)
      (meant.Variable n) accessors e (store_of r.known r.numbers) q.fuel
      (store_small r.known r.numbers h.known h.numbers)))
      (λ store l. ran_ok SmallRun _ (numbered s n store r g l h)))
      (ran_ok SmallRun (with_known s r) (known_run s r g h))))

  -- bodies that run
  outcome_small : (j : ℕ) (o : Outcome) (p : RunPart) (r : Run) → SmallOutcome o → SmallPart p
      → SmallRun r → SmallRun (with_outcome j o p r)
  outcome_small j o p r l g h = record {
    known = h.known;
    numbers = h.numbers;
    own = h.own;
    parts = all_set SmallPart r.parts j (record p { ports = o.own; inside = o.inside }) h.parts
        record {
          arguments = g.arguments;
          before = g.before;
          ports = l.own;
          inside = l.inside;
        };
  }

  part_runs : (j : ℕ) (o : Option RunPart) (r : Run) → OnSome' SmallPart o → SmallRun r
      → OnGood SmallRun (run_part q j o r)
  part_runs j None r g h = ran_ok SmallRun r h
  part_runs j (Some p) r g h =
      good_next SmallOutcome SmallRun
      (q.body p.where_made p.template p.arguments p.path p.before p.ports r.log) _
      (small.body p.where_made p.template p.arguments p.path p.before p.ports r.log g.arguments
      g.before g.ports)
      (λ o l. ran_ok SmallRun (with_outcome j o p r) (outcome_small j o p r l g h))

  started_runs : (j : ℕ) (was_fed : Bool) (o : Option Part) → Runs (started q j was_fed o)
  started_runs j was_fed None r h = ran_ok SmallRun r h
  started_runs j was_fed (Some p) r h =
      either (OnGood SmallRun) (not was_fed && is_fed p.signals)
      (run_part q j (slice_get r.parts j) r) (Ok r)
      (part_runs j (slice_get r.parts j) r (some_at SmallPart r.parts j h.parts) h)
      (ran_ok SmallRun r h)

  started_at_runs : (part : Option ℕ) (was_fed : Bool) → Runs (started_at q part was_fed)
  started_at_runs None was_fed r h = ran_ok SmallRun r h
  started_at_runs (Some j) was_fed r h =
      started_runs j was_fed (slice_get r.known.frame.parts j) r h

  -- writes of signals
  signal_runs : (w : Where) (e : Expr Meant) (a : SignalAssignment) (s : State) (places : List ℕ)
      (r : Run) → Fine s → SmallRun r → OnGood SmallRun (signal_step q w e a s places r)
  signal_runs w e a s [] r g h = ran_ok SmallRun (with_known s r) (known_run s r g h)
  signal_runs w e a s (place ∷ places) r g h =
      good_next (λ (d : Numbers). AllByRecursion (λ n. n < P) d.items) SmallRun
      (stepping w r (number_in (environment q.context w q.call r.known r)
      (store_of r.known r.numbers) e q.fuel)) _
      (stepping_good (λ (d : Numbers). AllByRecursion (λ n. n < P) d.items) w r _
      (value_small (environment q.context w q.call r.known r)
      (environment_small q.context small.fine w q.call small.call r.known r h.known h)
      (store_of r.known r.numbers) e q.fuel (store_small r.known r.numbers h.known h.numbers)))
      (λ d l. started_at_runs a.target.part (is_fed (signals_of a.target.part r.known.frame)) _
      (known_run s _ g (write_small a.target.part a.target.number a.target.reach.places d.items r l
      h)))

  set_signal_runs : (w : Where) (written : Assign Meant) (m : Meant) (accessors : Accessors Meant)
      (arrow : Arrow) (e : Expr Meant) → Runs (run_set_signal q w written m accessors arrow e)
  set_signal_runs w written m accessors arrow e r h =
      good_on SmallRun (refusing (signal_assignment q.context w m accessors e r.known)) _ (λ a.
      refused_runs Fine (set_signal q.context w written m accessors arrow e r.known) _
      (set_signal_fine q.context small.fine w written m accessors arrow e r.known h.known)
      (λ s g. signal_runs w e a s a.target.reach.places r g h))

  -- components
  created_runs : (w : Where) (c : Creation) (places : List ℕ) (s : State) (r : Run)
      → FineCreation c → Fine s → SmallRun r → OnGood SmallRun (run_created q w c places s r)
  created_runs w c [] s r f g h = ran_ok SmallRun (with_known s r) (known_run s r g h)
  created_runs w c (place ∷ places) s r f g h =
      started_at_runs (Some (length r.parts)) false
      (record r { known = s; parts = r.parts ++ waiting q.context w c ∷ [] }) record {
        known = g;
        numbers = h.numbers;
        own = h.own;
        parts = all_append SmallPart r.parts (waiting q.context w c ∷ []) h.parts (
          record {
            arguments = f.0;
            before = f.1.1;
            ports = λ n k. tt;
            inside = tt;
          },
          tt,
        );
      }

  create_runs : (w : Where) (n : ℕ) (accessors : Accessors Meant) (e : Expr Meant)
      → Runs (run_create q w n accessors e)
  create_runs w n accessors e r h =
      refused_runs FineCreation (creation q.context w n accessors e r.known) _
      (creation_fine q.context small.fine w n accessors e r.known h.known) (λ c f.
      refused_runs Fine (create q.context w c) _ (create_fine q.context small.fine w c f)
      (λ s g. created_runs w c c.places s r f g h))

  set_place_runs : (w : Where) (written : Assign Meant) (m : Meant) (accessors : Accessors Meant)
      (e : Expr Meant) → Runs (run_set_place q w written m accessors e)
  set_place_runs w written (meant.Variable n) accessors e r h =
      set_variable_runs w written n accessors e r h
  set_place_runs w written (meant.Component n) accessors e r h = create_runs w n accessors e r h
  set_place_runs w written meant.Other accessors e r h = good_bad SmallRun _
  set_place_runs w written (meant.Signal direction n) accessors e r h = good_bad SmallRun _
  set_place_runs w written (meant.Template n) accessors e r h = good_bad SmallRun _
  set_place_runs w written (meant.Function n) accessors e r h = good_bad SmallRun _

  assigned_runs : (w : Where) (written a : Assign Meant) → Runs (run_assigned q w written a)
  assigned_runs w written (Set name m accessors e) r h = set_place_runs w written m accessors e r h
  assigned_runs w written (Left name m accessors arrow e) r h =
      set_signal_runs w written m accessors arrow e r h
  assigned_runs w written (Compound name m accessors op e) r h = good_bad SmallRun _
  assigned_runs w written (Increment name m accessors) r h = good_bad SmallRun _
  assigned_runs w written (Decrement name m accessors) r h = good_bad SmallRun _

  -- declarations
  initial_runs : (w : Where) (m : Meant) (o : Option (Expr Meant)) → Runs (run_initial q w m o)
  initial_runs w m None r h = ran_ok SmallRun r h
  initial_runs w m (Some e) r h = set_place_runs w (Set [] m done e) m done e r h

  variable_runs : (w : Where) (v : Variable Meant) → Runs (run_variable q w v)
  variable_runs w v r h =
      number_runs w v.meant _ (λ n.
      refused_runs (λ x. Fine x.1) (dims_in q.context w false v.dimensions r.known) _
      (dims_fine q.context small.fine w false v.dimensions r.known h.known) (λ x g.
      initial_runs w v.meant v.value (with_known (declare_variable n x.0 x.1) r)
      (known_run (declare_variable n x.0 x.1) r
      (set_fine n _ x.1 (filled_datum x.0 _ zero_value) g) h)))

  initial_signal_runs : (w : Where) (m : Meant) (value : SignalValue Meant)
      → Runs (run_initial_signal q w m value)
  initial_signal_runs w m Nothing r h = ran_ok SmallRun r h
  initial_signal_runs w m (Given arrow e) r h =
      set_signal_runs w (Left [] m done arrow e) m done arrow e r h

  signal_declaration_runs : (spot : Spot) (direction : Direction) (d : Signal Meant)
      → Runs (run_signal q spot direction d)
  signal_declaration_runs spot direction d r h =
      number_runs (at q.context spot) d.meant _ (λ n.
      refused_runs (λ x. Fine x.1)
      (dims_in q.context (at q.context spot) false d.dimensions r.known) _
      (dims_fine q.context small.fine (at q.context spot) false d.dimensions r.known h.known)
      (λ x g.
      initial_signal_runs (at q.context spot) d.meant d.value
      (with_known (declare_signal q.context spot direction n d.name x.0 x.1) r)
      (known_run (declare_signal q.context spot direction n d.name x.0 x.1) r g h)))

  -- tuples and equal sides
  slot_runs : (w : Where) (arrow : Arrow) (x : Slot Meant) (e : Expr Meant)
      → Runs (run_slot q w arrow x e)
  slot_runs w arrow (SlotPlace name m accessors) e r h =
      set_signal_runs w (Left name m accessors arrow e) m accessors arrow e r h
  slot_runs w arrow SlotDiscard e r h =
      known_runs (dropped q.context w e) (dropped_fine q.context small.fine w e) r h

  slots_runs : (w : Where) (arrow : Arrow) (xs : List (Slot Meant)) (es : List (Expr Meant))
      → Runs (run_slots q w arrow xs es)
  slots_runs w arrow [] es r h = ran_ok SmallRun r h
  slots_runs w arrow (x ∷ xs) [] r h = ran_ok SmallRun r h
  slots_runs w arrow (x ∷ xs) (e ∷ es) r h =
      then_runs (run_slot q w arrow x e r) (run_slots q w arrow xs es) (slot_runs w arrow x e r h)
      (slots_runs w arrow xs es)

  tuple_runs : (w : Where) (arrow : Arrow) (target : Target Meant) (es : List (Expr Meant))
      → Runs (run_tuple q w arrow target es)
  tuple_runs w arrow Discard es r h =
      each_runs (λ e. run_known (dropped q.context w e)) es
      (λ e. known_runs (dropped q.context w e) (dropped_fine q.context small.fine w e)) r h
  tuple_runs w arrow (Slots xs) es r h = slots_runs w arrow xs es r h

  equal_runs : (w : Where) (a b : Expr Meant) → Runs (run_equal q w a b)
  equal_runs w a b r h =
      refused_runs Fine (equal q.context w a b r.known) _
      (equal_fine q.context small.fine w a b r.known h.known) (λ s g.
      good_on SmallRun _ _ (λ u. ran_ok SmallRun (with_known s r) (known_run s r g h)))

  -- simple statements
  execute_runs : (spot : Spot) (x : Simple Meant) → Runs (run_execute q spot x)
  execute_runs spot (Vars vs) r h =
      each_runs (run_variable q (at q.context spot)) vs (variable_runs (at q.context spot)) r h
  execute_runs spot (Signals direction ds) r h =
      each_runs (run_signal q spot direction) ds (signal_declaration_runs spot direction) r h
  execute_runs spot (Declared cs) r h =
      each_runs (λ c. run_known (component_declaration q.context (at q.context spot) c)) cs
      (λ c. known_runs (component_declaration q.context (at q.context spot) c)
      (component_fine q.context small.fine (at q.context spot) c)) r h
  execute_runs spot (Created name m e) r h =
      number_runs (at q.context spot) m _ (λ n.
      create_runs (at q.context spot) n done e
      (with_known (declare_component n name [] r.known) r)
      (known_run (declare_component n name [] r.known) r h.known h))
  execute_runs spot (Assigned a) r h = assigned_runs (at q.context spot) a (plain a) r h
  execute_runs spot (Constrain a b) r h = equal_runs (at q.context spot) a b r h
  execute_runs spot (TargetLeft target arrow source) r h =
      tuple_runs (at q.context spot) arrow target (values_of source) r h
  execute_runs spot (Right e arrow name m accessors) r h = good_bad SmallRun _
  execute_runs spot (TargetRight source arrow target) r h = good_bad SmallRun _
  execute_runs spot (Alone parallel name m arguments inputs) r h = good_bad SmallRun _

  pub counted_runs : (spot : Spot) → Runs (run_counted q spot)
  counted_runs spot = known_runs (counted (at q.context spot)) (counted_fine (at q.context spot))

  execute_counted_runs : (spot : Spot) (x : Simple Meant) → Runs (run_execute_counted q spot x)
  execute_counted_runs spot x r h =
      then_runs (run_execute q spot x r) (run_counted q spot) (execute_runs spot x r h)
      (counted_runs spot)

  lifted_runs : (spot : Spot) (l : Lifted (Simple Meant)) → Runs (run_lifted q spot l)
  lifted_runs spot l r h =
      then_runs (run_each (run_execute_counted q spot) l.before r)
      (run_execute_counted q spot l.value)
      (each_runs (run_execute_counted q spot) l.before (execute_counted_runs spot) r h)
      (execute_counted_runs spot l.value)

  pub simple_runs : (spot : Spot) (x : Simple Meant) → Runs (run_simple q spot x)
  simple_runs spot x r h =
      lifted_runs spot (lift_simple q.context.program q.context.named_components x
      (length r.known.frame.components)) r h
