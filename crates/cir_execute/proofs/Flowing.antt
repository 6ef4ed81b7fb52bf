-- What flows behind a condition, and from a turn of a loop.
use Rattle.std.proofs.Common.{◌≡◌, ◌∙◌, ℕ, ◌+◌, ◌<◌, ◌≤◌, zero, suc, List, Result, Ok, Err, ap, sym}
use Rattle.std.proofs.Common.{refl, arith, Bor}
use Rattle.std.specs.Prelude.{IsErrAnd, Option, Some, false}
use Rattle.cir_ast.specs.declared.program.Spot.{Spot}
use Rattle.cir_ast.specs.declared.program.Meant.{Meant}
use Rattle.cir_ast.specs.declared.refusal.Kind.TheVariants.{Limit}
use Rattle.cir_ast.specs.declared.refusal.Which.TheVariants.{Statements as StatementCount}
use Rattle.cir_ast.specs.declared.marked.Expr.{Expr as CodeExpr}
use Rattle.cir_ast.specs.declared.marked.First.{First as CodeFirst}
use Rattle.cir_ast.specs.declared.marked.Statement.{Statement as CodeStatement}
use Rattle.cir_ast.specs.declared.marked.StatementForm.{StatementForm as CodeForm}
use Rattle.cir_ast.specs.declared.marked.Step.{Step as CodeStep}
use Rattle.cir_ast.specs.Tree.{Assert, Assigned, Expr, Statement, If, IfElse, bare, bare_assign}
use Rattle.cir_ast.specs.Tree.{bare_first, bare_form, bare_statement}
use Rattle.cir_values.specs.declared.operators.Side.{Side as CodeSide}
use Rattle.cir_values.specs.Meant.{meant_side}
use Rattle.cir_meaning.specs.Tried.{Tried, next}
use Rattle.cir_meaning.specs.Source.{Equation}
use Rattle.cir_meaning.specs.Frame.{State, Context, at, counted}
use Rattle.cir_meaning.specs.Unknown.{fault_of, first_of}
use Rattle.cir_meaning.specs.Scan.{undecided}
use Rattle.cir_meaning.specs.Simple.{simple}
use Rattle.cir_meaning.specs.Arrays.{Scalar, the_item}
use Rattle.cir_meaning.specs.Evaluate.{scalar, value_in}
use Rattle.cir_meaning.specs.Statement.{assert_value, Flow, Going, branch, condition, exec, goes}
use Rattle.cir_meaning.specs.Statement.{first_simple, going, loop_of, most_turns, turns}
use Rattle.cir_arrays.specs.declared.stop.Fault.{Fault}
use Rattle.cir_arrays.specs.Stopped.{IsRefusal, Refuses}
use Rattle.cir_frame.specs.declared.frame.Frame.{Frame}
use Rattle.cir_frame.specs.declared.world.World.{World}
use Rattle.cir_frame.specs.Shown.{state_of}
use Rattle.cir_evaluate.specs.Within.{kept_of}
use Rattle.cir_assign.proofs.Stepping.{lists_kept, lists_next, next_next}
use Rattle.cir_execute.specs.declared.statement.Flow.{Flow as CodeFlow}
use Rattle.cir_execute.specs.declared.undecided.Rest.{Rest}
use Rattle.cir_execute.specs.Flows.{Flows}
use Rattle.cir_execute.specs.Rests.{loop_fault, loop_turn, rest_by, rest_fault, turn_of}
use Rattle.cir_execute.proofs.Fors.{for_by, for_shown}
use Rattle.cir_execute.proofs.Going.{Went, counted_led, refusal, flows_at, flows_after, flows_next}
use Rattle.cir_execute.proofs.Going.{flows_refused}
use Rattle.cir_execute.proofs.Branching.{Told, Rests, Stops, TurnsLeft, pick, branch_is}
use Rattle.cir_execute.proofs.Branching.{branch_refused, flows_stop, most_is, rests_flow, turn_by}
use Rattle.cir_execute.proofs.Branching.{turn_is, turn_refused}

-- by a statement's form
executed_at : (k : Context) (a : CodeStatement Spot Meant) (f : CodeForm Spot Meant) (s : State)
    → a.form ≡ f → exec k (bare_statement a) s ≡ exec k (bare_form a.spot f) s
executed_at k a f s is = ap (λ f. exec k (bare_form a.spot f) s) is

pub flows_executed : (k : Context) (a : CodeStatement Spot Meant) (form : CodeForm Spot Meant)
    (qs : List Equation) (old new : World) (f g : Frame) (r : Result CodeFlow Fault)
    → a.form ≡ form
    → Flows qs old g new r (exec k (bare_form a.spot form) (state_of f old qs))
    → Flows qs old g new r (exec k (bare_statement a) (state_of f old qs))
flows_executed k a form qs old new f g r is h =
    flows_at qs old new g r (exec k (bare_statement a) (state_of f old qs))
    (exec k (bare_form a.spot form) (state_of f old qs))
    (executed_at k a form (state_of f old qs) is) h

-- what is left where a condition isn't known
abbrev pub unknown_by : Context → Spot → Rest → State → Tried Flow
unknown_by k spot rest s = goes (undecided k spot (rest_fault rest) (rest_by spot rest) s)

-- what is left of a statement is left of its form
pub left_at : (k : Context) (a : CodeStatement Spot Meant) (f : CodeForm Spot Meant) (s : State)
    → a.form ≡ f
    → goes (undecided k a.spot (fault_of (bare_form a.spot f)) (bare_form a.spot f) s)
    ≡ goes (undecided k a.spot (fault_of (bare_statement a)) (bare_statement a) s)
left_at k a f s is =
    ap (λ f. goes (undecided k a.spot (fault_of (bare_form a.spot f)) (bare_form a.spot f) s))
    (sym is)

module _ (k : Context) (spot : Spot) (c : Expr Meant) (f t u : State → Tried Flow) (qs : List
    Equation)
    (old mid new : World) (before after : Frame) (r : Result CodeFlow Fault) where
  -- what is chosen behind a condition flows
  pub branch_flows : (told side : CodeSide) → told ≡ side
      → Told (state_of before mid qs) told
      (next (counted (at k spot) (state_of before old qs)) (condition k spot c))
      → mid.constraints.items ≡ old.constraints.items
      → Flows qs mid after new r (pick (meant_side side) t f u (state_of before mid qs))
      → Flows qs old after new r (branch k spot c f t u (state_of before old qs))
  branch_flows told side is tells same h =
      flows_at qs old new after r _ _
      (branch_is k spot c f t u (state_of before old qs) (state_of before mid qs) told tells
      ∙ ap (λ x. pick (meant_side x) t f u (state_of before mid qs)) is)
      (flows_after qs qs old mid new after r _ (lists_kept qs old mid same) h)

  pub branch_stops : (e : Fault) → IsErrAnd r (λ x. x ≡ e)
      → IsRefusal e (next (counted (at k spot) (state_of before old qs)) (condition k spot c))
      → Flows qs old after new r (branch k spot c f t u (state_of before old qs))
  branch_stops e is h =
      flows_refused qs old new after r e _ is
      (branch_refused k spot c f t u (state_of before old qs) e h)

-- ---- branches
abbrev over : State → Tried Flow
over s = Ok (Going s)

module _ (k : Context) (spot : Spot) (c : Expr Meant) (a : Statement Spot Meant) (qs : List
    Equation)
    (old mid new : World) (before after : Frame) (r : Result CodeFlow Fault) where
  abbrev if_unknown : State → Tried Flow
  if_unknown s = goes (undecided k spot (fault_of a) (If spot c a) s)

  pub if_flows : (told side : CodeSide) → told ≡ side
      → Told (state_of before mid qs) told
      (next (counted (at k spot) (state_of before old qs)) (condition k spot c))
      → mid.constraints.items ≡ old.constraints.items
      → Flows qs mid after new r
      (pick (meant_side side) (exec k a) over if_unknown (state_of before mid qs))
      → Flows qs old after new r (exec k (If spot c a) (state_of before old qs))
  if_flows told side is tells same h =
      branch_flows k spot c over (exec k a) if_unknown qs old mid new before after r told side is
      tells same h

  pub if_stops : (e : Fault) → IsErrAnd r (λ x. x ≡ e)
      → IsRefusal e (next (counted (at k spot) (state_of before old qs)) (condition k spot c))
      → Flows qs old after new r (exec k (If spot c a) (state_of before old qs))
  if_stops e is h =
      branch_stops k spot c over (exec k a) if_unknown qs old mid new before after r e is h

module _ (k : Context) (spot : Spot) (c : Expr Meant) (a b : Statement Spot Meant) (qs : List
    Equation)
    (old mid new : World) (before after : Frame) (r : Result CodeFlow Fault) where
  abbrev else_unknown : State → Tried Flow
  else_unknown s =
      goes (undecided k spot (first_of (fault_of a) (fault_of b)) (IfElse spot c a b) s)

  pub else_flows : (told side : CodeSide) → told ≡ side
      → Told (state_of before mid qs) told
      (next (counted (at k spot) (state_of before old qs)) (condition k spot c))
      → mid.constraints.items ≡ old.constraints.items
      → Flows qs mid after new r
      (pick (meant_side side) (exec k a) (exec k b) else_unknown (state_of before mid qs))
      → Flows qs old after new r (exec k (IfElse spot c a b) (state_of before old qs))
  else_flows told side is tells same h =
      branch_flows k spot c (exec k b) (exec k a) else_unknown qs old mid new before after r told
      side is tells same h

  pub else_stops : (e : Fault) → IsErrAnd r (λ x. x ≡ e)
      → IsRefusal e (next (counted (at k spot) (state_of before old qs)) (condition k spot c))
      → Flows qs old after new r (exec k (IfElse spot c a b) (state_of before old qs))
  else_stops e is h =
      branch_stops k spot c (exec k b) (exec k a) else_unknown qs old mid new before after r e is h

-- ---- turns
module _ (k : Context) (spot : Spot) (c : Expr Meant) (body unknown : State → Tried Flow) where
  -- a turn is left while not as many are taken
  at_turn : (i : ℕ) (qs : List Equation) (old mid : World) (f : Frame) (whole : Tried Flow)
      → i < 16777217 → TurnsLeft k spot c body unknown i qs old f mid whole
      → (n : ℕ) × (suc n + i ≡ most_turns)
      × Rests qs old f mid whole (λ s. turns (suc n) k spot c body unknown s)
  at_turn i qs old mid f whole less (zero, is, rest) = absurd (omega (arith, most_is))
  at_turn i qs old mid f whole less (suc n, is, rest) = (n, is, rest)

  pub turns_begin : (qs : List Equation) (old : World) (f : Frame)
      → TurnsLeft k spot c body unknown 0 qs old f old
      (turns most_turns k spot c body unknown (state_of f old qs))
  turns_begin qs old f = (most_turns, omega arith, (qs, refl, lists_kept qs old old refl))

  -- no turn is left
  pub turns_end : (i : ℕ) (qs : List Equation) (old mid : World) (f : Frame) (whole : Tried Flow)
      (e : Fault) → 16777217 ≤ i → TurnsLeft k spot c body unknown i qs old f mid whole
      → Refuses (at k spot) (Limit StatementCount 16777217) e → IsRefusal e whole
  turns_end i qs old mid f whole e most (zero, is, rest) h = refusal e whole _ rest.1 h
  turns_end i qs old mid f whole e most (suc n, is, rest) h = absurd (omega (arith, most_is))

  pub turn_stops : (i : ℕ) (qs : List Equation) (old mid new : World) (f g : Frame)
      (whole : Tried Flow) (r : Result CodeFlow Fault) (e : Fault) → i < 16777217
      → TurnsLeft k spot c body unknown i qs old f mid whole → IsErrAnd r (λ x. x ≡ e)
      → ((es : List Equation) → IsRefusal e (condition k spot c (state_of f mid es)))
      → Flows qs old g new r whole
  turn_stops i qs old mid new f g whole r e less left is h =
      let here = at_turn i qs old mid f whole less left in
      rests_flow qs old mid new f g r whole (λ s. turns (suc here.0) k spot c body unknown s)
      here.2 (λ es. flows_refused es mid new g r e _ is
      (turn_refused k spot c body unknown here.0 (state_of f mid es) e (h es)))

  -- a condition tells what a turn does
  pub turn_told : (i : ℕ) (qs : List Equation) (old mid behind : World) (f : Frame)
      (whole : Tried Flow) (told side : CodeSide) → told ≡ side → i < 16777217
      → TurnsLeft k spot c body unknown i qs old f mid whole
      → ((es : List Equation)
      → Told (state_of f behind es) told (condition k spot c (state_of f mid es)))
      → behind.constraints.items ≡ mid.constraints.items
      → (n : ℕ) × (suc n + i ≡ most_turns)
      × Rests qs old f behind whole (pick (meant_side side) (turn_by k spot c body unknown n)
      (λ s. Ok (Going s)) unknown)
  turn_told i qs old mid behind f whole told side chosen less left tells same =
      let here = at_turn i qs old mid f whole less left in
      let es : List Equation = here.2.0 in (
        here.0,
        here.1,
        (
          es,
          here.2.1 ∙ turn_is k spot c body unknown here.0 (state_of f mid es)
              (state_of f behind es) told (tells es)
              ∙ ap (λ x. pick (meant_side x) (turn_by k spot c body unknown here.0)
              (λ s. Ok (Going s)) unknown (state_of f behind es)) chosen,
          lists_next qs es es old mid behind here.2.2 (lists_kept es mid behind same),
        ),
      )

  -- a turn is counted, and then comes its body
  turn_next : (n : ℕ) (s : State) → turn_by k spot c body unknown n s
      ≡ next (next (counted (at k spot) s) body) (λ x. going x (turns n k spot c body unknown))
  turn_next n s =
      sym (next_next (counted (at k spot) s) body (λ x. going x (turns n k spot c body unknown)))

  -- a turn that goes on
  pub turn_goes : (i : ℕ) (qs : List Equation) (old behind new : World) (f g : Frame)
      (whole : Tried Flow)
      → (n : ℕ) × (suc n + i ≡ most_turns)
      × Rests qs old f behind whole (turn_by k spot c body unknown n)
      → ((es : List Equation) → Went es behind g new
      (next (counted (at k spot) (state_of f behind es)) body))
      → TurnsLeft k spot c body unknown (i + 1) qs old g new whole
  turn_goes i qs old behind new f g whole (n, is, rest) went =
      let es : List Equation = rest.0 in
      let step = went es in (
        n,
        omega arith,
        (
          step.0,
          rest.1 ∙ turn_next n (state_of f behind es)
              ∙ ap (λ m. next m (λ x. going x (turns n k spot c body unknown))) step.1,
          lists_next qs es step.0 old behind new rest.2 step.2,
        ),
      )

  -- a turn that ends all
  pub turn_ends : (i : ℕ) (qs : List Equation) (old behind new : World) (f g : Frame)
      (whole : Tried Flow) (r : Result CodeFlow Fault) → Stops r
      → (n : ℕ) × (suc n + i ≡ most_turns)
      × Rests qs old f behind whole (turn_by k spot c body unknown n)
      → ((es : List Equation) → Flows es behind g new r
      (next (counted (at k spot) (state_of f behind es)) body))
      → Flows qs old g new r whole
  turn_ends i qs old behind new f g whole r stop (n, is, rest) h =
      rests_flow qs old behind new f g r whole (turn_by k spot c body unknown n) rest
      (λ es. flows_at es behind new g r _ _ (turn_next n (state_of f behind es))
      (flows_stop es behind new g r (next (counted (at k spot) (state_of f behind es)) body)
      (turns n k spot c body unknown) stop (h es)))

pub err_stops : (r : Result CodeFlow Fault) (e : Fault) → IsErrAnd r (λ x. x ≡ e) → Stops r
err_stops (Ok a) e is = absurd is
err_stops (Err x) e is = tt

-- a turn with a step is a block, which is counted
pub step_flows : (k : Context) (spot : Spot) (a : Statement Spot Meant)
    (o : Option (Bor (CodeStep Spot Meant))) (step : Bor (CodeStep Spot Meant))
    (qs : List Equation) (old mid behind new : World) (f g : Frame) (r : Result CodeFlow Fault)
    → o ≡ Some step → counted (at k spot) (state_of f old qs) ≡ Ok (state_of f mid qs)
    → kept_of mid ≡ kept_of old
    → ((es : List Equation)
    → counted (at k spot) (state_of f mid es) ≡ Ok (state_of f behind es))
    → kept_of behind ≡ kept_of mid
    → ((es : List Equation) → Flows es behind g new r (next (exec k a (state_of f behind es))
    (λ x. going x (λ s. goes (simple k step.now.spot (Assigned (bare_assign step.now.assign)) s)))))
    → Flows qs old g new r
    (next (counted (at k spot) (state_of f old qs)) (turn_of k spot a o))
step_flows k spot a o step qs old mid behind new f g r is one kept two keeps h =
    let first : Tried State = counted (at k spot) (state_of f old qs) in
    let last : State → Tried Flow = λ s. next (exec k a s)
    (λ x. going x (λ s. goes (simple k step.now.spot (Assigned (bare_assign step.now.assign)) s)))
    in
    flows_at qs old new g r _ _ (ap (λ x. next first (turn_of k spot a x)) is)
    (flows_next qs old mid new f g r first (λ s. next (counted (at k spot) s) last)
    (counted_led qs old mid f first one kept)
    (λ es. flows_next es mid behind new f g r (counted (at k spot) (state_of f mid es)) last
    (counted_led es mid behind f (counted (at k spot) (state_of f mid es)) (two es) keeps) h))

-- an assertion, and then it is counted
pub asserted_flows : (k : Context) (spot : Spot) (e : Expr Meant) (qs : List Equation)
    (old new : World) (f g : Frame) (r : Result CodeFlow Fault)
    → Flows qs old g new r
    (next (scalar (value_in k (at k spot) false Scalar e (state_of f old qs))
    (assert_value k (at k spot) e (state_of f old qs))) (λ s. goes (counted (at k spot) s)))
    → Flows qs old g new r (exec k (Assert spot e) (state_of f old qs))
asserted_flows k spot e qs old new f g r h =
    flows_at qs old new g r _ _
    (sym (next_next (value_in k (at k spot) false Scalar e (state_of f old qs))
    (λ (d, s). assert_value k (at k spot) e (state_of f old qs) (the_item d) s)
    (λ s. goes (counted (at k spot) s)))) h

-- a `for` by its parts, behind its first statement
steps_joined : {A B C D : Type 0} (m : Tried A) (f : A → Tried B) (g : B → Tried C)
    (h : C → Tried D)
    → next m (λ a. next (f a) (λ b. next (g b) h)) ≡ next (next m (λ a. next (f a) g)) h
steps_joined (Ok a) f g h = sym (next_next (f a) g h)
steps_joined (Err e) f g h = refl

pub for_flows : (k : Context) (a : CodeStatement Spot Meant) (form : CodeForm Spot Meant)
    (x : CodeFirst Spot Meant) (c : CodeExpr Meant) (y : CodeStep Spot Meant)
    (z : CodeStatement Spot Meant) (first : CodeFirst Spot Meant) (step : CodeStep Spot Meant)
    (body : CodeStatement Spot Meant) (qs : List Equation) (old new : World) (f g : Frame)
    (r : Result CodeFlow Fault)
    → a.form ≡ form → bare_form a.spot form ≡ for_by a.spot first c step body
    → x ≡ first → y ≡ step → z ≡ body
    → Flows qs old g new r (next (next (counted (at k a.spot) (state_of f old qs))
    (λ s. next (simple k x.spot (first_simple (bare_first x.form)) s) (counted (at k a.spot))))
    (turns most_turns k a.spot (bare c)
    (loop_turn k a.spot (bare_statement z) y.spot (bare_assign y.assign))
    (λ s. goes (undecided k a.spot (loop_fault (bare_statement z) y.spot (bare_assign y.assign))
    (loop_of a.spot (bare c) (bare_statement z) y.spot (bare_assign y.assign)) s))))
    → Flows qs old g new r (exec k (bare_statement a) (state_of f old qs))
for_flows k a form x c y z first step body qs old new f g r is shown one two three h =
    flows_at qs old new g r _ _
    (ap (λ u. exec k u (state_of f old qs))
    (for_shown a form first x c step y body z is shown one two three)
    ∙ steps_joined (counted (at k a.spot) (state_of f old qs))
    (simple k x.spot (first_simple (bare_first x.form))) (counted (at k a.spot)) _) h
