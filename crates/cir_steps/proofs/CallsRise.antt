-- A call of a function counts no less behind it, and answers a value with as many items as its
-- dimensions say.
use Rattle.std.proofs.Common.{◌≡◌, ℕ, zero, suc, ◌+◌, ◌≤◌, ◌-◌, false, List, [], ◌∷◌, length, Some}
use Rattle.std.proofs.Common.{None, Ok, refl, sym, ap, ◌∙◌, slice_get, arith}
use Rattle.cir_ast.specs.declared.program.Spot.{Spot}
use Rattle.cir_ast.specs.declared.program.Meant.{Meant}
use Rattle.cir_ast.specs.declared.operators.Arrow.{Arrow}
use Rattle.cir_ast.specs.Tree.{Expr, Accessors, Assign, Statements}
use Rattle.cir_ast.specs.declared.refusal.Kind.TheVariants.{WrongKind, SecondWrite, TooDeep}
use Rattle.cir_ast.specs.Program.{Program, Function}
use Rattle.cir_meaning.specs.Tried.{Where, found, next}
use Rattle.cir_meaning.specs.Places.{elements}
use Rattle.cir_meaning.specs.Limits.{Counts, standing}
use Rattle.cir_meaning.specs.Arrays.{Datum, Whole, single}
use Rattle.cir_meaning.specs.Values.{Known}
use Rattle.cir_meaning.specs.Frame.{World, State, Context, Caller, begun, settle, counted, adding}
use Rattle.cir_meaning.specs.Frame.{one_statement}
use Rattle.cir_meaning.specs.Evaluate.{value_in}
use Rattle.cir_meaning.specs.Writing.{variable_assignment, write_variable, is_unknown}
use Rattle.cir_meaning.specs.Writing.{signal_assignment}
use Rattle.cir_meaning.specs.Declaring.{Creation, creation, create, create_each, declare_signal}
use Rattle.cir_meaning.specs.Steps.{variable_cost, signal_cost, new_cells}
use Rattle.cir_meaning.specs.Simple as simple
use Rattle.cir_meaning.specs.Statement.{Flow, Going, Returned, exec_all}
use Rattle.cir_meaning.specs.Bodies.{emptied, function_context, exec_function, call_at, answer_of}
use Rattle.cir_meaning.specs.Bodies.{counted_in}
use Rattle.cir_meaning.proofs.Good.{OnGood, good_ok, good_bad, good_next, good_on, good_weaker}
use Rattle.cir_meaning.proofs.Good.{good_needed, good_found_as, either}
use Rattle.cir_meaning.proofs.Keepings.{FlowIs, Keeping, exec_all_keeps}
use Rattle.cir_meaning.proofs.KnownCalls.{calls_keep}
use Rattle.cir_meaning.proofs.Pairs.{good_both}
use Rattle.cir_meaning.proofs.ValueKeepings.{assignment_kept, signal_assignment_kept, creation_kept}
use Rattle.cir_steps.proofs.Sized.{IsSized, single_sized, value_sized}
use Rattle.cir_steps.proofs.Emptied.{IsEmptied, settle_empties}
use Rattle.cir_steps.proofs.Rising.{cells_counted, steps_counted, Grows, Rises, rises_itself}
use Rattle.cir_steps.proofs.Rising.{grows_fewer, WorldRises, Calls, settle_grows, step_rises}
use Rattle.cir_steps.proofs.Rising.{declared_grows, scanned_grows, forget_one_grows, write_grows}
use Rattle.cir_steps.proofs.Rising.{signal_grows, array_grows, value_grows, equal_grows, Wires}
use Rattle.cir_steps.proofs.Rising.{write_signal_grows}

-- a body in which no component is made
module _ (f : State) (k : Context) (calls : Calls k.call) (none : k.make ≡ None) where
  abbrev Kept : State → Type 0
  Kept = Rises f

  abbrev Done : State → Type 0
  Done s = Rises f s × IsEmptied s

  abbrev Gone : Datum → World → Type 0
  Gone d w =
      IsSized d × (standing (cells_counted f) ≤ standing w.counts.cells)
      × (standing (steps_counted f) ≤ standing w.counts.steps)

  fewer : (cells steps : ℕ) (s : State) → Grows cells steps f s → Kept s
  fewer cells steps s h = grows_fewer cells steps 0 0 f s (omega arith) (omega arith) h

  all_counted : (x c e : ℕ) → e ≡ 0 → standing (x + 0) ≤ standing (c + e)
      → standing x ≤ standing c
  all_counted x c e is h = omega arith

  gone : (d : Datum) (s : State) → IsSized d → Done s → Gone d s.world
  gone d s sized h = (
    sized,
    all_counted (cells_counted f) s.world.counts.cells s.frame.added.cells
        (ap (λ (c : Counts). c.cells) h.1) h.0.0,
    all_counted (steps_counted f) s.world.counts.steps s.frame.added.steps
        (ap (λ (c : Counts). c.steps) h.1) h.0.1,
  )

  settle_done : (w : Where) (s : State) → Kept s → OnGood Done (settle w s)
  settle_done w s h =
      good_both Kept IsEmptied (settle w s) (settle_grows f 0 0 w s h)
      (settle_empties w s)

  set_variable_kept : (w : Where) (written : Assign Meant) (n : ℕ) (accessors : Accessors Meant)
      (e : Expr Meant) (s : State) → Kept s
      → OnGood Kept (simple.set_variable k w written n accessors e s)
  set_variable_kept w written n accessors e s h =
      good_next (λ a. Kept a.state) Kept (variable_assignment k w n accessors e s) _
      (assignment_kept k Kept (value_grows f 0 0 k calls false) w n accessors e s h) (λ a g.
      either (OnGood Kept) (is_unknown n a) _ _
      (step_rises f 0 0 k w (variable_cost k w written n accessors e a s) (new_cells n a)
      (write_variable n a) (write_grows f 0 0 n a g))
      (good_ok Kept (write_variable n a) (write_grows f 0 0 n a g)))

  wires_kept : (places : List ℕ) (s : State) → Wires f 0 0 places s → Kept s
  wires_kept [] s h = h
  wires_kept (place ∷ places) s h = fewer (0 + 0) (0 + 1) s h

  set_signal_kept : (w : Where) (written : Assign Meant) (m : Meant)
      (accessors : Accessors Meant) (arrow : Arrow) (e : Expr Meant) (s : State) → Kept s
      → OnGood Kept (simple.set_signal k w written m accessors arrow e s)
  set_signal_kept w written m accessors arrow e s h =
      good_next (λ a. Kept a.state) Kept (signal_assignment k w m accessors e s) _
      (signal_assignment_kept k Kept (value_grows f 0 0 k calls false) w m accessors e s h)
      (λ a g.
      good_weaker (Wires f 0 0 a.target.reach.places) Kept _
      (write_signal_grows f 0 0 k w arrow (signal_cost k w written accessors e s) a g)
      (wires_kept a.target.reach.places))

  create_kept : (w : Where) (c : Creation) → Kept c.state → OnGood Kept (create k w c)
  create_kept w c h = at c.places
    where
      at : (places : List ℕ) → OnGood Kept (create_each k w c places)
      at [] = good_ok Kept c.state h
      at (place ∷ places) =
          good_needed Kept _ w SecondWrite _ (good_found_as Kept w TooDeep k.make _
          (λ m is. absurd (let no : None ≡ Some m = sym none ∙ is in cc)))

  returns_kept : (w : Where) (e : Expr Meant) (s : State) → Kept s
      → OnGood (FlowIs Done Gone) (next (value_in k w false Whole e s)
      (λ (d, s1). next (counted w s1) (λ s2. Ok (Returned d s2.world))))
  returns_kept w e s h =
      good_next (λ x. IsSized x.0 × Kept x.1) (FlowIs Done Gone) (value_in k w false Whole e s) _
      (good_both (λ x. IsSized x.0) (λ x. Kept x.1) (value_in k w false Whole e s)
      (value_sized k calls.sized w false Whole e s) (value_grows f 0 0 k calls false w Whole e s h))
      (λ x g.
      good_next Done (FlowIs Done Gone) (counted w x.1) _
      (settle_done w (adding one_statement x.1) g.1)
      (λ s2 i. good_ok (FlowIs Done Gone) (Returned x.0 s2.world) (gone x.0 s2 g.0 i)))

  abbrev keeping : Keeping k
  keeping = record {
    Kept = Kept;
    Done = Done;
    Gone = Gone;
    done = λ s h. h.0;
    value = λ w shaded. value_grows f 0 0 k calls shaded w;
    settle = settle_done;
    statement = λ s h. h;
    step = λ w cost cells s h. step_rises f 0 0 k w cost cells s h;
    variable = declared_grows f 0 0;
    scanned = scanned_grows f 0 0;
    forgotten = forget_one_grows f 0 0;
    signal = λ spot direction n name dims s h.
        fewer (0 + elements dims) 0 (declare_signal k spot direction n name dims s)
        (signal_grows f 0 0 k spot direction n name dims s h);
    component = λ n name dims s h. array_grows f 0 0 dims s h;
    set_variable = set_variable_kept;
    set_signal = set_signal_kept;
    equal = λ w a b s h.
        good_weaker (Grows (0 + 0) (0 + 1) f) Kept (simple.equal k w a b s)
        (equal_grows f 0 0 k calls w a b s h) (λ t g. fewer (0 + 0) (0 + 1) t g);
    create = λ w n accessors e s h.
        good_next (λ c. Kept c.state) Kept (creation k w n accessors e s) (create k w)
        (creation_kept k Kept (value_grows f 0 0 k calls false) w n accessors e s h)
        (create_kept w);
    returns = returns_kept;
  }

  pub body_rises : (ss : Statements Spot Meant) → Done f
      → OnGood (FlowIs Done Gone) (exec_all k ss f)
  body_rises ss h = exec_all_keeps k keeping ss f h

abbrev Answers : World → Datum × World → Type 0
Answers world x = IsSized x.0 × WorldRises world x.1

-- functions
begins : (x y : ℕ) → standing (x + 0) ≤ standing y → standing x ≤ standing y
begins x y h = omega arith

module _ (p : Program) (size : ℕ) (call : Caller) (calls : Calls call) (w : Where)
    (ds : List Datum) (world : World) (x : Function) where
  abbrev k : Context
  k = function_context p size call w x

  abbrev s : State
  s = record { frame = begun ds (x.variables - length ds) 0 0; world = emptied world }

  abbrev Flows : Flow → Type 0
  Flows = FlowIs (Done s k calls refl) (Gone s k calls refl)

  returned : (d : Datum) (after : World) → Gone s k calls refl d after
      → Answers world (counted_in world (d, after))
  returned d after h = (
    h.0,
    (
      begins world.counts.cells after.counts.cells h.1,
      begins world.counts.steps after.counts.steps h.2,
    ),
  )

  answered : (flow : Flow) → Flows flow → Answers world (counted_in world (answer_of flow))
  answered (Going t) h =
      returned (single (Known 0)) t.world
      (gone s k calls refl (single (Known 0)) t (single_sized (Known 0)) h)
  answered (Returned d after) h = returned d after h

  pub ran_rises : OnGood (Answers world)
      (next (exec_all k x.body s) (λ flow. Ok (counted_in world (answer_of flow))))
  ran_rises =
      good_next Flows (Answers world) (exec_all k x.body s) _
      (body_rises s k calls refl x.body (rises_itself s, refl))
      (λ flow h. good_ok (Answers world) (counted_in world (answer_of flow)) (answered flow h))

function_rises : (p : Program) (size : ℕ) (call : Caller) → Calls call → (w : Where) (n : ℕ)
    (ds : List Datum) (world : World)
    → OnGood (Answers world) (exec_function p size call w n ds world)
function_rises p size call calls w n ds world =
    good_on (Answers world) (found w WrongKind (slice_get p.functions n)) _
    (ran_rises p size call calls w ds world)

pub calls_rise : (p : Program) (size room : ℕ) → Calls (call_at p size room)
calls_rise p size zero = record {
  keeps = calls_keep p size 0;
  sized = λ w n ds world. good_bad (λ x. IsSized x.0) _;
  rises = λ w n ds world. good_bad (λ x. WorldRises world x.1) _;
}
calls_rise p size (suc room) = record {
  keeps = calls_keep p size (suc room);
  sized = λ w n ds world.
      good_weaker (Answers world) (λ x. IsSized x.0) (call_at p size (suc room) w n ds world)
      (function_rises p size (call_at p size room) (calls_rise p size room) w n ds world)
      (λ x h. h.0);
  rises = λ w n ds world.
      good_weaker (Answers world) (λ x. WorldRises world x.1)
      (call_at p size (suc room) w n ds world)
      (function_rises p size (call_at p size room) (calls_rise p size room) w n ds world)
      (λ x h. h.1);
}
