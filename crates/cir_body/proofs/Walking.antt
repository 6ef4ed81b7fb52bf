-- Statements whose steps are made leave what their execution at compile time leaves, and are
-- refused alike, where nothing in them returns.
use Rattle.std.proofs.Common.{◌≡◌, ◌∙◌, ℕ, zero, suc, Bool, true, false, List, Option, Ok, Err}
use Rattle.std.proofs.Common.{refl, ap}
use Rattle.std.specs.Prelude.{◌==◌, if◌then◌else◌}
use Rattle.cir_ast.specs.declared.program.Spot.{Spot}
use Rattle.cir_ast.specs.declared.program.Meant.{Meant}
use Rattle.cir_ast.specs.Tree.{Expr, LogArgument, Assigned, Statement, Block, If, IfElse, While}
use Rattle.cir_ast.specs.Tree.{For, Return, Assert, Log, Ended, Statements, empty, then_more}
use Rattle.cir_meaning.specs.Tried.{Tried, Where, next}
use Rattle.cir_meaning.specs.Arrays.{Datum, Scalar, the_item}
use Rattle.cir_meaning.specs.Values.{Value, Known, Linear, Quadratic, Opaque}
use Rattle.cir_meaning.specs.Frame.{State, at, counted}
use Rattle.cir_meaning.specs.Evaluate.{value_in}
use Rattle.cir_meaning.specs.Unknown.{Fault, assign_fault, fault_of, first_of}
use Rattle.cir_meaning.specs.Scan.{undecided}
use Rattle.cir_meaning.specs.Simple as simple
use Rattle.cir_meaning.specs.Statement as statement
use Rattle.cir_meaning.specs.Statement.{Flow, Going, assert_value, condition, decided, exec}
use Rattle.cir_meaning.specs.Statement.{exec_all, first_simple, goes, going, log_values, loop_of}
use Rattle.cir_meaning.specs.Statement.{most_turns}
use Rattle.cir_steps.specs.Emission.{Emission, Emitted, known_in, quiet, then_emit, with_state}
use Rattle.cir_steps.specs.Making.{Emitting, make_assertion}
use Rattle.cir_steps.specs.Emit.{emit_counted, emit_simple}
use Rattle.cir_steps.specs.Statements.{emit, emit_all, emit_assert_value, emit_branch, emit_turns}
use Rattle.cir_steps.specs.Statements.{emit_undecided}
use Rattle.cir_steps.proofs.Templates.{ArePlain, IsPlain}
use Rattle.cir_body.proofs.Mirroring.{Agree, Mirrors, Tells, alone, both_tell, known_mirrors}
use Rattle.cir_body.proofs.Mirroring.{simple_mirrors, then_tells}

abbrev pub Flows : Tried Flow → Tried Emitted → Type 0
Flows m r = Tells Going m r

goes_tells : (m : Tried State) (r : Tried Emitted) → Mirrors m r → Flows (goes m) r
goes_tells m (Ok y) h = ap goes h
goes_tells m (Err e) h = ap goes h

then_flows : (m : Tried State) (r : Tried Emitted) (go : State → Tried Flow)
    (on : Emission → Tried Emitted) → Mirrors m r
    → ((y : Emission) → Flows (go (known_in y)) (on y))
    → Flows (next m go) (then_emit r on)
then_flows m r go on h f = then_tells Going m r go on h f

going_flows : (m : Tried Flow) (r : Tried Emitted) (go : State → Tried Flow)
    (on : Emission → Tried Emitted) → Flows m r → ((y : Emission) → Flows (go (known_in y)) (on y))
    → Flows (next m (λ f. going f go)) (then_emit r on)
going_flows m (Ok y) go on h f =
    ap (λ z. next z (λ f. going f go)) h
    ∙ then_flows (Ok (known_in y.state)) (Ok y) go on refl f
going_flows m (Err e) go on h f = ap (λ z. next z (λ f. going f go)) h

decided_flows : (v : Value) (f t u : State → Tried Flow) (g s w : Emission → Tried Emitted)
    → ((y : Emission) → Flows (f (known_in y)) (g y))
    → ((y : Emission) → Flows (t (known_in y)) (s y))
    → ((y : Emission) → Flows (u (known_in y)) (w y)) → (y : Emission)
    → Flows (decided v f t u (known_in y)) (decided v g s w y)
decided_flows (Known n) f t u g s w a b c y = at (n == 0)
  where
    at : (z : Bool)
        → Flows ((if z then f else t) (known_in y)) ((if z then g else s) y)
    at true = a y
    at false = b y
decided_flows (Linear x) f t u g s w a b c y = c y
decided_flows (Quadratic k l m) f t u g s w a b c y = c y
decided_flows Opaque f t u g s w a b c y = c y

module _ (q : Emitting) (agree : Agree q.context.make q.cast) where
  counts : (spot : Spot) (x : Emission)
      → Mirrors (counted (at q.context spot) (known_in x)) (emit_counted q spot x)
  counts spot x = known_mirrors (counted (at q.context spot)) x

  undecided_flows : (spot : Spot) (fault : Option Fault) (a : Statement Spot Meant) (x : Emission)
      → Flows (goes (undecided q.context spot fault a (known_in x)))
      (emit_undecided q spot fault a x)
  undecided_flows spot fault a x =
      goes_tells _ (emit_undecided q spot fault a x)
      (alone (undecided q.context spot fault a (known_in x)) _ (λ s is. refl))

  module _ (spot : Spot) (c : Expr Meant) where
    condition_flows : (f t u : State → Tried Flow) (g s w : Emission → Tried Emitted)
        → ((y : Emission) → Flows (f (known_in y)) (g y))
        → ((y : Emission) → Flows (t (known_in y)) (s y))
        → ((y : Emission) → Flows (u (known_in y)) (w y)) → (x : Emission)
        → Flows (next (condition q.context spot c (known_in x)) (λ (v, s). decided v f t u s))
        (next (condition q.context spot c (known_in x)) (λ (v, z). decided v g s w
        (with_state z x)))
    condition_flows f t u g s w a b d x =
        both_tell Going (condition q.context spot c (known_in x)) _ _
        (λ r. decided_flows r.0 f t u g s w a b d (with_state r.1 x))

    branch_flows : (f t u : State → Tried Flow) (g s w : Emission → Tried Emitted)
        → ((y : Emission) → Flows (f (known_in y)) (g y))
        → ((y : Emission) → Flows (t (known_in y)) (s y))
        → ((y : Emission) → Flows (u (known_in y)) (w y)) → (x : Emission)
        → Flows (statement.branch q.context spot c f t u (known_in x))
        (emit_branch q spot c g s w x)
    branch_flows f t u g s w a b d x =
        then_flows (counted (at q.context spot) (known_in x)) (emit_counted q spot x) _ _
        (counts spot x) (condition_flows f t u g s w a b d)

    turns_flow : (n : ℕ) (body unknown : State → Tried Flow) (made other : Emission → Tried Emitted)
        → ((x : Emission) → Flows (body (known_in x)) (made x))
        → ((x : Emission) → Flows (unknown (known_in x)) (other x)) → (x : Emission)
        → Flows (statement.turns n q.context spot c body unknown (known_in x))
        (emit_turns n q spot c made other x)
    turns_flow zero body unknown made other h g x = refl
    turns_flow (suc n) body unknown made other h g x =
        condition_flows (λ s. Ok (Going s)) _ unknown quiet _ other (λ y. refl)
        (λ y. then_flows (counted (at q.context spot) (known_in y)) (emit_counted q spot y) _ _
        (counts spot y) (λ z.
        going_flows (body (known_in z)) (made z)
        (statement.turns n q.context spot c body unknown) (emit_turns n q spot c made other) (h z)
        (turns_flow n body unknown made other h g))) g x

  assertion_mirrors : (w : Where) (e : Expr Meant) (v : Value) (s : State) (x : Emission)
      → Mirrors (assert_value q.context w e (known_in x) v s) (emit_assert_value q w e v s x)
  assertion_mirrors w e v s x =
      alone (assert_value q.context w e (known_in x) v s) _ (λ s1 is. made s1 v)
    where
      made : (s1 : State) (v : Value)
          → Mirrors (Ok s1) (decided v (quiet (with_state s1 x)) (quiet (with_state s1 x))
          (make_assertion q.context w e s1 x))
      made s1 (Known n) = at (n == 0)
        where
          at : (z : Bool)
              → Mirrors (Ok s1) (if z then quiet (with_state s1 x) else quiet (with_state s1 x))
          at true = refl
          at false = refl
      made s1 (Linear f) = refl
      made s1 (Quadratic k l m) = refl
      made s1 Opaque = refl

  assert_flows : (spot : Spot) (e : Expr Meant) (x : Emission)
      → Flows (exec q.context (Assert spot e) (known_in x)) (emit q (Assert spot e) x)
  assert_flows spot e x =
      of_value (value_in q.context (at q.context spot) false Scalar e (known_in x))
    where
      of_value : (m : Tried (Datum × State))
          → Flows (next m (λ (d, s). next
          (assert_value q.context (at q.context spot) e (known_in x) (the_item d) s)
          (λ s2. goes (counted (at q.context spot) s2))))
          (then_emit (next m (λ (d, s). emit_assert_value q (at q.context spot) e (the_item d) s x))
          (emit_counted q spot))
      of_value (Ok (d, s)) =
          then_flows (assert_value q.context (at q.context spot) e (known_in x) (the_item d) s)
          (emit_assert_value q (at q.context spot) e (the_item d) s x) _ (emit_counted q spot)
          (assertion_mirrors (at q.context spot) e (the_item d) s x)
          (λ y. goes_tells _ (emit_counted q spot y) (counts spot y))
      of_value (Err f) = refl

  log_flows : (spot : Spot) (arguments : List (LogArgument Meant)) (x : Emission)
      → Flows (exec q.context (Log spot arguments) (known_in x)) (emit q (Log spot arguments) x)
  log_flows spot arguments x =
      then_flows (log_values q.context (at q.context spot) arguments (known_in x)) _ _
      (emit_counted q spot)
      (alone (log_values q.context (at q.context spot) arguments (known_in x)) _ (λ s is. refl))
      (λ y. goes_tells _ (emit_counted q spot y) (counts spot y))

  mutual
    flows : (a : Statement Spot Meant) → IsPlain a → (x : Emission)
        → Flows (exec q.context a (known_in x)) (emit q a x)
    flows (Block spot ss) h x =
        then_flows (counted (at q.context spot) (known_in x)) (emit_counted q spot x)
        (exec_all q.context ss) (emit_all q ss) (counts spot x) (all_flow ss h)
    flows (If spot c a) h x =
        branch_flows spot c _ _ _ quiet (emit q a) _ (λ y. refl) (flows a h)
        (undecided_flows spot (fault_of a) (If spot c a)) x
    flows (IfElse spot c a b) h x =
        branch_flows spot c _ _ _ (emit q b) (emit q a) _ (flows b h.1) (flows a h.0)
        (undecided_flows spot (first_of (fault_of a) (fault_of b)) (IfElse spot c a b)) x
    flows (While spot c a) h x =
        then_flows (counted (at q.context spot) (known_in x)) (emit_counted q spot x) _ _
        (counts spot x)
        (turns_flow spot c most_turns (exec q.context a) _ (emit q a) _ (flows a h.0)
        (undecided_flows spot (fault_of a) (While spot c a)))
    flows (For spot first_spot f c step_spot a body) h x =
        then_flows (counted (at q.context spot) (known_in x)) (emit_counted q spot x) _ _
        (counts spot x) (λ x1.
        then_flows (simple.simple q.context first_spot (first_simple f) (known_in x1))
        (emit_simple q first_spot (first_simple f) x1) _ _
        (simple_mirrors q agree first_spot (first_simple f) x1) (λ x2.
        then_flows (counted (at q.context spot) (known_in x2)) (emit_counted q spot x2) _ _
        (counts spot x2) (turns_flow spot c most_turns _ _ _ _ (λ x3.
        then_flows (counted (at q.context spot) (known_in x3)) (emit_counted q spot x3) _ _
        (counts spot x3) (λ x4.
        going_flows (exec q.context body (known_in x4)) (emit q body x4) _
        (emit_simple q step_spot (Assigned a)) (flows body h.0 x4)
        (λ x5. goes_tells _ (emit_simple q step_spot (Assigned a) x5)
        (simple_mirrors q agree step_spot (Assigned a) x5))))
        (undecided_flows spot (first_of (assign_fault step_spot a) (fault_of body))
        (loop_of spot c body step_spot a)))))
    flows (Return spot e) h x = absurd h
    flows (Assert spot e) h x = assert_flows spot e x
    flows (Log spot arguments) h x = log_flows spot arguments x
    flows (Ended spot a) h x =
        goes_tells _ (emit_simple q spot a x) (simple_mirrors q agree spot a x)

    pub all_flow : (ss : Statements Spot Meant) → ArePlain ss → (x : Emission)
        → Flows (exec_all q.context ss (known_in x)) (emit_all q ss x)
    all_flow empty h x = refl
    all_flow (then_more a rest) h x =
        going_flows (exec q.context a (known_in x)) (emit q a x) (exec_all q.context rest)
        (emit_all q rest) (flows a h.0 x) (all_flow rest h.1)
