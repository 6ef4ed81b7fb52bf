-- What is counted of cells and of steps never falls, and each step counts its own; and variables
-- keep their shapes.
use Rattle.std.proofs.Common.{◌≡◌, ℕ, ◌+◌, ◌≤◌, Bool, true, false, cond, List, [], ◌∷◌, Option}
use Rattle.std.proofs.Common.{Some, None, Ok, refl, ap, ◌∙◌, slice_get, arith}
use Rattle.std.specs.Prelude.{⊤, not}
use Rattle.std.specs.List.{AllByRecursion}
use Rattle.cir_ast.specs.declared.program.Spot.{Spot}
use Rattle.cir_ast.specs.declared.program.Meant.{Meant}
use Rattle.cir_ast.specs.declared.program.Meant.TheVariants as meant
use Rattle.cir_ast.specs.declared.operators.Arrow.{Arrow}
use Rattle.cir_ast.specs.declared.operators.Arrow.TheVariants as arrows
use Rattle.cir_ast.specs.declared.operators.Direction.{Direction}
use Rattle.cir_ast.specs.declared.refusal.Kind.{Kind}
use Rattle.cir_ast.specs.declared.refusal.Kind.TheVariants.{ReadBeforeWrite, SecondWrite}
use Rattle.cir_ast.specs.Tree.{Expr, Exprs, Component, LogArgument, Words, LogValue, Statement}
use Rattle.cir_lc.specs.Number.{signal}
use Rattle.cir_meaning.specs.Tried.{Where, next, found}
use Rattle.cir_meaning.specs.Places.{elements}
use Rattle.cir_meaning.specs.Limits.{Counts, limits, standing, plus, tested, with_array, count_sum}
use Rattle.cir_meaning.specs.Limits.{is_too_large}
use Rattle.cir_meaning.specs.Arrays.{Datum, Whole, single, filled, forgotten, put_items}
use Rattle.cir_meaning.specs.Values.{Value, Known, Linear, Quadratic, Opaque, Parts, parts_of}
use Rattle.cir_meaning.specs.Values.{difference_of}
use Rattle.cir_meaning.specs.Frame.{Signals, Part, World, State, Context, Caller, at, variable_at}
use Rattle.cir_meaning.specs.Frame.{adding, settle, counted, one_statement, entry_at, is_written}
use Rattle.cir_meaning.specs.Evaluate.{value_in, dims_in}
use Rattle.cir_meaning.specs.Writing.{put_variable, written_datum, VariableAssignment}
use Rattle.cir_meaning.specs.Writing.{write_variable, Target, signals_of, with_part_signals}
use Rattle.cir_meaning.specs.Writing.{with_signals, write_element, appended, constrained}
use Rattle.cir_meaning.specs.Writing.{constrained_by, write_elements, SignalAssignment}
use Rattle.cir_meaning.specs.Writing.{write_signal}
use Rattle.cir_meaning.specs.Declaring.{declare_variable, declare_component, declare_signal}
use Rattle.cir_meaning.specs.Costs.{Cost}
use Rattle.cir_meaning.specs.Functions.{function_fault, function_elements}
use Rattle.cir_meaning.specs.Steps.{unless_faulty, with_step, stepped, equal_cost, assert_cost}
use Rattle.cir_meaning.specs.Steps.{log_cost, logged_cells, undecided_cost, undecided_cells}
use Rattle.cir_meaning.specs.Simple as simple
use Rattle.cir_meaning.specs.Unknown.{Fault, outer_assigned, declares}
use Rattle.cir_meaning.specs.Scan.{forget_one, forget, scan_declared, scan, undecided}
use Rattle.cir_meaning.specs.Statement.{condition, assert_value, logged, log_values}
use Rattle.cir_meaning.proofs.Good.{OnGood, good_ok, good_bad, good_next, good_on, good_needed}
use Rattle.cir_meaning.proofs.Good.{good_weaker, either}
use Rattle.cir_meaning.proofs.Likes.{CallKeeps}
use Rattle.cir_meaning.proofs.Counting.{tested_same, signals_added}
use Rattle.cir_meaning.proofs.Rows.{at_or, all_set}
use Rattle.cir_meaning.proofs.Scans.{scan_kept, may_any}
use Rattle.cir_meaning.proofs.ValueKeepings.{Valued, value_keeps, scalar_kept, dims_kept}
use Rattle.cir_steps.proofs.Sized.{IsSized, SizedCall, single_sized, filled_sized, forgotten_sized}
use Rattle.cir_steps.proofs.Sized.{put_count}

abbrev pub cells_counted : State → ℕ
cells_counted s = s.world.counts.cells + s.frame.added.cells

abbrev pub steps_counted : State → ℕ
steps_counted s = s.world.counts.steps + s.frame.added.steps

abbrev pub AreSized : State → Type 0
AreSized s = AllByRecursion IsSized s.frame.variables

-- so many cells and steps more are counted
abbrev pub Grows : (cells steps : ℕ) → State → State → Type 0
Grows cells steps f s =
    (standing (cells_counted f + cells) ≤ standing (cells_counted s))
    × (standing (steps_counted f + steps) ≤ standing (steps_counted s))
    × (AreSized f → AreSized s)

abbrev pub Rises : State → State → Type 0
Rises = Grows 0 0

pub rises_itself : (s : State) → Rises s s
rises_itself s =
    let cells : standing (cells_counted s + 0) ≤ standing (cells_counted s) = omega arith in
    let steps : standing (steps_counted s + 0) ≤ standing (steps_counted s) = omega arith in
    (cells, steps, λ e. e)

sum_then : (x y z a b : ℕ) → standing (x + a) ≤ standing y → standing (y + b) ≤ standing z
    → standing (x + (a + b)) ≤ standing z
sum_then x y z a b h g = omega arith

pub grows_then : (a b c d : ℕ) (f s t : State) → Grows a b f s → Grows c d s t
    → Grows (a + c) (b + d) f t
grows_then a b c d f s t h g = (
  sum_then (cells_counted f) (cells_counted s) (cells_counted t) a c h.0 g.0,
  sum_then (steps_counted f) (steps_counted s) (steps_counted t) b d h.1 g.1,
  λ e. g.2 (h.2 e),
)

sum_fewer : (x y a b : ℕ) → b ≤ a → standing (x + a) ≤ standing y → standing (x + b) ≤ standing y
sum_fewer x y a b l h = omega arith

pub grows_fewer : (a b c d : ℕ) (f s : State) → c ≤ a → d ≤ b → Grows a b f s → Grows c d f s
grows_fewer a b c d f s x y h = (
  sum_fewer (cells_counted f) (cells_counted s) a c x h.0,
  sum_fewer (steps_counted f) (steps_counted s) b d y h.1,
  h.2,
)

-- calls
abbrev pub WorldRises : World → World → Type 0
WorldRises w v =
    (standing w.counts.cells ≤ standing v.counts.cells)
    × (standing w.counts.steps ≤ standing v.counts.steps)

pub record Calls (call : Caller) : Type 0 where
  pub keeps : CallKeeps call
  pub sized : SizedCall call
  pub rises : (w : Where) (n : ℕ) (ds : List Datum) (world : World)
      → OnGood (λ x. WorldRises world x.1) (call w n ds world)

-- sums of what is counted
settled : (x c e n : ℕ) → n ≡ standing (c + e) → standing x ≤ standing (c + e)
    → standing x ≤ standing (n + 0)
settled x c e n is h = omega arith

more_world : (x c d e : ℕ) → standing c ≤ standing d → standing x ≤ standing (c + e)
    → standing x ≤ standing (d + e)
more_world x c d e l h = omega arith

same_added : (x c d e : ℕ) → e ≡ d → standing x ≤ standing (c + d) → standing x ≤ standing (c + e)
same_added x c d e is h = omega arith

cond_same : (count : Counts → ℕ) (b : Bool) (x y : Counts) → count x ≡ count y
    → count (cond b x y) ≡ count y
cond_same count true x y e = e
cond_same count false x y e = refl

pub array_cells : (dims : List ℕ) (c : Counts) → (with_array dims c).cells ≡ c.cells
array_cells dims c = cond_same (λ c. c.cells) (is_too_large dims) _ c refl

pub array_steps : (dims : List ℕ) (c : Counts) → (with_array dims c).steps ≡ c.steps
array_steps dims c = cond_same (λ c. c.steps) (is_too_large dims) _ c refl

abbrev more_signals : List ℕ → Counts → Counts
more_signals dims c = record c {
  signals = count_sum c.signals (elements dims);
  cells = count_sum c.cells (elements dims);
}

pub variable_sized : (s : State) (n : ℕ) → AreSized s → IsSized (variable_at s.frame n)
variable_sized s n h =
    at_or IsSized s.frame.variables n (single (Known 0)) h (single_sized (Known 0))

-- from a state on, behind which so much was counted
module _ (f : State) (a b : ℕ) where
  abbrev P : State → Type 0
  P = Grows a b f

  pub settle_grows : (w : Where) (s : State) → P s → OnGood P (settle w s)
  settle_grows w s h =
      good_next (λ c. c ≡ plus s.world.counts s.frame.added) P
      (tested limits w (plus s.world.counts s.frame.added)) _
      (tested_same limits w (plus s.world.counts s.frame.added)) (λ c e. good_ok P _ (
        settled (cells_counted f + a) s.world.counts.cells s.frame.added.cells c.cells
            (ap (λ (x : Counts). x.cells) e) h.0,
        settled (steps_counted f + b) s.world.counts.steps s.frame.added.steps c.steps
            (ap (λ (x : Counts). x.steps) e) h.1,
        h.2,
      ))

  pub counted_grows : (w : Where) (s : State) → P s → OnGood P (counted w s)
  counted_grows w s h = settle_grows w (adding one_statement s) h

  pub array_grows : (dims : List ℕ) (s : State) → P s → P (adding (with_array dims) s)
  array_grows dims s h = (
    same_added (cells_counted f + a) s.world.counts.cells s.frame.added.cells
        (with_array dims s.frame.added).cells (array_cells dims s.frame.added) h.0,
    same_added (steps_counted f + b) s.world.counts.steps s.frame.added.steps
        (with_array dims s.frame.added).steps (array_steps dims s.frame.added) h.1,
    h.2,
  )

  -- a step counts itself and its cells
  pub step_grows : (k : Context) (w : Where) (cost : Cost) (cells : ℕ) (s : State) → P s
      → OnGood (Grows (a + cells) (b + 1) f) (stepped k w cost cells s)
  step_grows k w cost cells s h = at (function_fault k.program cost.calls)
    where
      more : (x n c d e : ℕ) (m : ℕ) → e ≡ standing (d + m)
          → standing (x + n) ≤ standing (c + d) → standing (x + (n + m)) ≤ standing (c + e)
      more x n c d e m is h = omega arith

      at : (o : Option Kind) → OnGood (Grows (a + cells) (b + 1) f) (unless_faulty w o
          (Ok (adding (with_step cost cells (function_elements k.program cost.calls)) s)))
      at None = good_ok (Grows (a + cells) (b + 1) f) _ (
        more (cells_counted f) a s.world.counts.cells s.frame.added.cells _ cells refl h.0,
        more (steps_counted f) b s.world.counts.steps s.frame.added.steps _ 1 refl h.1,
        h.2,
      )
      at (Some kind) = good_bad (Grows (a + cells) (b + 1) f) _

  pub step_rises : (k : Context) (w : Where) (cost : Cost) (cells : ℕ) (s : State) → P s
      → OnGood P (stepped k w cost cells s)
  step_rises k w cost cells s h =
      good_weaker (Grows (a + cells) (b + 1) f) P (stepped k w cost cells s)
      (step_grows k w cost cells s h)
      (λ t g. grows_fewer (a + cells) (b + 1) a b f t (omega arith) (omega arith) g)

  -- variables
  pub put_grows : (n : ℕ) (d : Datum) (s : State) → (AreSized s → IsSized d) → P s
      → P (put_variable n d s)
  put_grows n d s sized h =
      (h.0, h.1, λ e. all_set IsSized s.frame.variables n d (h.2 e) (sized (h.2 e)))

  pub declared_grows : (n : ℕ) (dims : List ℕ) (s : State) → P s → P (declare_variable n dims s)
  declared_grows n dims s h =
      array_grows dims (put_variable n (filled dims (Known 0)) s)
      (put_grows n (filled dims (Known 0)) s (λ e. filled_sized dims (Known 0)) h)

  pub scanned_grows : (n : ℕ) (dims : List ℕ) (s : State) → P s → P (scan_declared n dims s)
  scanned_grows n dims s h =
      array_grows dims (put_variable n (filled dims Opaque) s)
      (put_grows n (filled dims Opaque) s (λ e. filled_sized dims Opaque) h)

  pub forget_one_grows : (n : ℕ) (s : State) → P s → P (forget_one n s)
  forget_one_grows n s h =
      put_grows n (forgotten (variable_at s.frame n)) s
      (λ e. forgotten_sized (variable_at s.frame n) (variable_sized s n e)) h

  pub forget_grows : (ns : List ℕ) (s : State) → P s → P (forget ns s)
  forget_grows [] s h = h
  forget_grows (n ∷ ns) s h = forget_grows ns (forget_one n s) (forget_one_grows n s h)

  pub write_grows : (n : ℕ) (c : VariableAssignment) → P c.state → P (write_variable n c)
  write_grows n c h =
      put_grows n (written_datum (variable_at c.state.frame n) c.reach c.value) c.state
      (λ e. at (variable_at c.state.frame n) (variable_sized c.state n e) c.reach.is_sure) h
    where
      at : (d : Datum) → IsSized d → (b : Bool) → IsSized (cond b record {
        dims = d.dims;
        items = put_items c.reach.places c.value.items d.items;
      } (forgotten d))
      at d e true = put_count c.reach.places c.value.items d.items ∙ e
      at d e false = forgotten_sized d e

  -- equations and signals
  pub constrained_grows : (k : Context) (w : Where) (x y : Value) (s : State) → P s
      → OnGood P (constrained k w x y s)
  constrained_grows k w x y s h = at (parts_of (difference_of x y))
    where
      at : (o : Option Parts) → OnGood P (appended k w x y s o)
      at None = good_bad P _
      at (Some p) = good_ok P _ h

  signals_grows : (part : Option ℕ) (xs : Signals) (s : State) → P s
      → P (record s { frame = with_signals part xs s.frame })
  signals_grows None xs s h = h
  signals_grows (Some j) xs s h = at (slice_get s.frame.parts j)
    where
      at : (o : Option Part) → P (record s { frame = with_part_signals j xs o s.frame })
      at None = h
      at (Some p) = h

  element_grows : (w : Where) (t : Target) (place : ℕ) (s : State) → P s
      → OnGood (λ x. P x.1) (write_element w t place s)
  element_grows w t place s h =
      good_on (λ x. P x.1)
      (found w ReadBeforeWrite (entry_at (signals_of t.part s.frame) t.number)) _ (λ e.
      good_needed (λ x. P x.1) (not (is_written e place)) w SecondWrite _
      (good_ok (λ x. P x.1) _ (signals_grows t.part _ s h)))

  pub elements_grow : (k : Context) (w : Where) (arrow : Arrow) (t : Target) (places : List ℕ)
      (vs : List Value) (s : State) → P s → OnGood P (write_elements k w arrow t places vs s)
  elements_grow k w arrow t [] vs s h = good_ok P s h
  elements_grow k w arrow t (place ∷ places) [] s h = good_ok P s h
  elements_grow k w arrow t (place ∷ places) (v ∷ vs) s h =
      good_next (λ x. P x.1) P (write_element w t place s) _ (element_grows w t place s h) (λ x g.
      good_next P P (constrained_by k w arrow (Linear (signal (x.0.first + place))) v x.1) _
      (by_arrow arrow (Linear (signal (x.0.first + place))) v x.1 g)
      (λ s2 i. elements_grow k w arrow t places vs s2 i))
    where
      by_arrow : (arrow : Arrow) (x y : Value) (s : State) → P s
          → OnGood P (constrained_by k w arrow x y s)
      by_arrow arrows.Assign x y s h = good_ok P s h
      by_arrow arrows.Constrain x y s h = constrained_grows k w x y s h

  pub signal_grows : (k : Context) (spot : Spot) (d : Direction) (n : ℕ) (name dims : List ℕ)
      (s : State) → P s → Grows (a + elements dims) b f (declare_signal k spot d n name dims s)
  signal_grows k spot d n name dims s h = (
    more (cells_counted f) a s.world.counts.cells s.frame.added.cells
        (signals_added dims s.frame.added).cells (elements dims)
        (array_cells dims (more_signals dims s.frame.added)) h.0,
    same_added (steps_counted f + b) s.world.counts.steps s.frame.added.steps
        (signals_added dims s.frame.added).steps
        (array_steps dims (more_signals dims s.frame.added)) h.1,
    h.2,
  )
    where
      more : (x n c d e m : ℕ) → e ≡ standing (d + m) → standing (x + n) ≤ standing (c + d)
          → standing (x + (n + m)) ≤ standing (c + e)
      more x n c d e m is h = omega arith

  -- what is evaluated
  module _ (k : Context) (calls : Calls k.call) where
    pub value_grows : (shaded : Bool) → Valued k P shaded
    value_grows shaded w want e s h =
        value_keeps P k array_grows (λ w n ds s h.
        good_weaker (λ x. WorldRises s.world x.1) (λ x. P (record s { world = x.1 }))
        (k.call w n ds s.world) (calls.rises w n ds s.world) (λ x g. (
          more_world (cells_counted f + a) s.world.counts.cells x.1.counts.cells
              s.frame.added.cells g.0 h.0,
          more_world (steps_counted f + b) s.world.counts.steps x.1.counts.steps
              s.frame.added.steps g.1 h.1,
          h.2,
        ))) w shaded want e s h

    pub dims_grow : (w : Where) (shaded : Bool) (es : Exprs Meant) (s : State) → P s
        → OnGood (λ x. P x.1) (dims_in k w shaded es s)
    dims_grow w shaded es s h = dims_kept k P shaded (value_grows shaded) w es s h

    pub condition_grows : (spot : Spot) (c : Expr Meant) (s : State) → P s
        → OnGood (λ x. P x.1) (condition k spot c s)
    condition_grows spot c s h =
        scalar_kept k P false (value_grows false) (λ x. P x.1) (at k spot) c s _ h (λ v s1 g.
        good_next P (λ x. P x.1) (settle (at k spot) s1) _ (settle_grows (at k spot) s1 g)
        (λ s2 i. good_ok (λ x. P x.1) (v, s2) i))

    pub dropped_grows : (w : Where) (e : Expr Meant) (s : State) → P s
        → OnGood P (simple.dropped k w e s)
    dropped_grows w e s h =
        good_next (λ x. P x.1) P (value_in k w false Whole e s) _
        (value_grows false w Whole e s h) (λ x g. good_ok P x.1 g)

    pub component_grows : (w : Where) (c : Component Meant) (s : State) → P s
        → OnGood P (simple.component_declaration k w c s)
    component_grows w c s h = at c.meant
      where
        made : (n : ℕ) → OnGood P (next (dims_in k w false c.dimensions s)
            (λ (dims, s1). Ok (declare_component n c.name dims s1)))
        made n =
            good_next (λ x. P x.1) P (dims_in k w false c.dimensions s) _
            (dims_grow w false c.dimensions s h)
            (λ x g. good_ok P (declare_component n c.name x.0 x.1) (array_grows x.0 x.1 g))

        at : (m : Meant) → OnGood P (simple.declared_number w m (λ n.
            next (dims_in k w false c.dimensions s)
            (λ (dims, s1). Ok (declare_component n c.name dims s1))))
        at (meant.Variable n) = made n
        at (meant.Signal direction n) = made n
        at (meant.Component n) = made n
        at meant.Other = good_bad P _
        at (meant.Template n) = good_bad P _
        at (meant.Function n) = good_bad P _

    logged_grow : (w : Where) (arguments : List (LogArgument Meant)) (s : State) → P s
        → OnGood P (simple.each (logged k w) arguments s)
    logged_grow w [] s h = good_ok P s h
    logged_grow w (Words text ∷ rest) s h = logged_grow w rest s h
    logged_grow w (LogValue e ∷ rest) s h =
        good_next P P (logged k w (LogValue e) s) (simple.each (logged k w) rest)
        (scalar_kept k P false (value_grows false) P w e s _ h (λ v s1 g. good_ok P s1 g))
        (λ t g. logged_grow w rest t g)

    pub log_grows : (w : Where) (arguments : List (LogArgument Meant)) (s : State) → P s
        → OnGood (Grows (a + logged_cells arguments) (b + 1) f) (log_values k w arguments s)
    log_grows w arguments s h =
        good_next P (Grows (a + logged_cells arguments) (b + 1) f)
        (simple.each (logged k w) arguments s) _ (logged_grow w arguments s h)
        (λ t g. step_grows k w (log_cost k w arguments s) (logged_cells arguments) t g)

    pub equal_grows : (w : Where) (x y : Expr Meant) (s : State) → P s
        → OnGood (Grows (a + 0) (b + 1) f) (simple.equal k w x y s)
    equal_grows w x y s h =
        scalar_kept k P false (value_grows false) (Grows (a + 0) (b + 1) f) w x s _ h (λ u s1 g.
        scalar_kept k P false (value_grows false) (Grows (a + 0) (b + 1) f) w y s1 _ g (λ v s2 i.
        good_next P (Grows (a + 0) (b + 1) f) (constrained k w u v s2) _
        (constrained_grows k w u v s2 i)
        (λ s3 j. step_grows k w (equal_cost k w x y s) 0 s3 j)))

    pub scan_grows : (w : Where) (x : Statement Spot Meant) (s : State) → P s
        → OnGood P (scan k w x s)
    scan_grows w x s h =
        scan_kept k P (λ w. value_grows true w) (λ n. ⊤)
        (λ n dims t m. scanned_grows n dims t) w x (may_any (declares x)) s h

    -- an assertion is a step where its condition isn't known
    abbrev pub Asserted : Value → State → Type 0
    Asserted (Known n) s = P s
    Asserted (Linear g) s = Grows (a + 0) (b + 1) f s
    Asserted (Quadratic x y z) s = Grows (a + 0) (b + 1) f s
    Asserted Opaque s = Grows (a + 0) (b + 1) f s

    pub assert_grows : (w : Where) (e : Expr Meant) (before : State) (v : Value) (s : State)
        → P s → OnGood (Asserted v) (assert_value k w e before v s)
    assert_grows w e before (Known n) s h =
        either (OnGood P) _ _ (Ok s) (good_bad P _) (good_ok P s h)
    assert_grows w e before (Linear g) s h = step_grows k w (assert_cost k w e before) 0 s h
    assert_grows w e before (Quadratic x y z) s h =
        step_grows k w (assert_cost k w e before) 0 s h
    assert_grows w e before Opaque s h = step_grows k w (assert_cost k w e before) 0 s h

  -- a write of signals is a step, unless it is a write of none
  abbrev pub Wires : List ℕ → State → Type 0
  Wires [] s = P s
  Wires (place ∷ places) s = Grows (a + 0) (b + 1) f s

  pub write_signal_grows : (k : Context) (w : Where) (arrow : Arrow) (cost : Cost)
      (c : SignalAssignment) → P c.state
      → OnGood (Wires c.target.reach.places)
      (next (write_signal k w arrow c) (simple.wired k w cost c.target.reach.places))
  write_signal_grows k w arrow cost c h =
      good_next P (Wires c.target.reach.places) (write_signal k w arrow c) _
      (elements_grow k w arrow c.target c.target.reach.places c.value.items c.state h)
      (at c.target.reach.places)
    where
      at : (places : List ℕ) (s : State) → P s
          → OnGood (Wires places) (simple.wired k w cost places s)
      at [] s h = good_ok P s h
      at (place ∷ places) s h = step_grows k w cost 0 s h

-- a statement whose condition isn't known is a step
module _ (f : State) (a b : ℕ) (k : Context) (calls : Calls k.call) where
  abbrev Undecided : Statement Spot Meant → State → State → Type 0
  Undecided x s = Grows (a + undecided_cells x s) (b + 1) f

  pub undecided_grows : (spot : Spot) (fault : Option Fault) (x : Statement Spot Meant)
      (s : State) → Grows a b f s
      → OnGood (Grows (a + undecided_cells x s) (b + 1) f) (undecided k spot fault x s)
  undecided_grows spot (Some y) x s h = good_bad (Undecided x s) _
  undecided_grows spot None x s h =
      good_next (Grows a b f) (Undecided x s) (scan k (at k spot) x (forget (outer_assigned x) s))
      (λ s1. next (stepped k (at k spot) (undecided_cost k (at k spot) x s s1)
      (undecided_cells x s) s1) (settle (at k spot)))
      (scan_grows f a b k calls (at k spot) x (forget (outer_assigned x) s)
      (forget_grows f a b (outer_assigned x) s h)) (λ s1 g.
      good_next (Undecided x s) (Undecided x s)
      (stepped k (at k spot) (undecided_cost k (at k spot) x s s1)
      (undecided_cells x s) s1) (settle (at k spot))
      (step_grows f a b k (at k spot) (undecided_cost k (at k spot) x s s1) (undecided_cells x s)
      s1 g)
      (λ s2 i. settle_grows f (a + undecided_cells x s) (b + 1) (at k spot) s2 i))
