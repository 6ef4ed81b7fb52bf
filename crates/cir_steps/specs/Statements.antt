-- The steps of statements and of bodies.
use Rattle.std.specs.Prelude.{ℕ, zero, suc, false, List, [], Option, None, Ok, slice_get}
use Rattle.cir_ast.specs.declared.program.Spot.{Spot}
use Rattle.cir_ast.specs.declared.program.Meant.{Meant}
use Rattle.cir_ast.specs.declared.operators.Direction.{Direction}
use Rattle.cir_ast.specs.declared.refusal.Kind.TheVariants.{WrongKind, Limit}
use Rattle.cir_ast.specs.declared.refusal.Which.TheVariants.{Statements as StatementCount}
use Rattle.cir_ast.specs.Program.{Program, Template}
use Rattle.cir_ast.specs.Tree.{Expr, LogArgument, Assigned, Statement, Block, If, IfElse, While}
use Rattle.cir_ast.specs.Tree.{For, Return, Assert, Log, Ended, Statements, empty, then_more}
use Rattle.cir_meaning.specs.Tried.{Where, Tried, next, refused, found}
use Rattle.cir_meaning.specs.Arrays.{Datum, Scalar, the_item}
use Rattle.cir_meaning.specs.Values.{Value}
use Rattle.cir_meaning.specs.Frame.{Group, World, State, Caller, Maker, Context, at}
use Rattle.cir_meaning.specs.Evaluate.{value_in}
use Rattle.cir_meaning.specs.Unknown.{Fault, first_of, assign_fault, fault_of}
use Rattle.cir_meaning.specs.Scan.{undecided}
use Rattle.cir_meaning.specs.Statement.{condition, decided, most_turns, loop_of, first_simple}
use Rattle.cir_meaning.specs.Statement.{assert_value, log_values}
use Rattle.cir_meaning.specs.Bodies.{template_context, ended, call_at, make_at, most_open}
use Rattle.cir_meaning.specs.Bodies.{numbered_others}
use Rattle.cir_meaning.specs.RunBodies.{port_tables, run_begun}
use Rattle.cir_steps.specs.Emission.{Emission, Emitted, quiet, then_emit, known_in, with_state}
use Rattle.cir_steps.specs.Making.{Cast, Caster, Emitting, make_line, make_decision, make_assertion}
use Rattle.cir_steps.specs.Emit.{emit_simple, emit_counted}

-- what is left of a statement whose condition isn't known is one step
abbrev pub emit_undecided : Emitting → Spot → Option Fault → Statement Spot Meant → Emission
    → Tried Emitted
emit_undecided q spot fault a x =
    next (undecided q.context spot fault a (known_in x))
    (λ s. make_decision q.context (at q.context spot) a s x)

abbrev pub emit_branch : Emitting → Spot → Expr Meant
    → (if_false if_true if_unknown : Emission → Tried Emitted) → Emission → Tried Emitted
emit_branch q spot c if_false if_true if_unknown x =
    then_emit (emit_counted q spot x) (λ x1. next (condition q.context spot c (known_in x1))
    (λ (v, s). decided v if_false if_true if_unknown (with_state s x1)))

abbrev pub emit_turns : ℕ → Emitting → Spot → Expr Meant
    → (body unknown : Emission → Tried Emitted) → Emission → Tried Emitted
emit_turns zero q spot c body unknown x =
    refused (at q.context spot) (Limit StatementCount 16777217)
emit_turns (suc n) q spot c body unknown x =
    next (condition q.context spot c (known_in x)) (λ (v, s). decided v quiet
    (λ x1. then_emit (emit_counted q spot x1) (λ x2. then_emit (body x2)
    (emit_turns n q spot c body unknown)))
    unknown (with_state s x))

-- an assertion is a step where its condition isn't known
abbrev pub emit_assert_value : Emitting → Where → Expr Meant → Value → State → Emission
    → Tried Emitted
emit_assert_value q w e v s x =
    next (assert_value q.context w e (known_in x) v s) (λ s1. decided v
    (quiet (with_state s1 x)) (quiet (with_state s1 x)) (make_assertion q.context w e s1 x))

abbrev pub emit_assert : Emitting → Where → Expr Meant → Emission → Tried Emitted
emit_assert q w e x =
    next (value_in q.context w false Scalar e (known_in x))
    (λ (d, s). emit_assert_value q w e (the_item d) s x)

abbrev pub emit_log : Emitting → Where → List (LogArgument Meant) → Emission → Tried Emitted
emit_log q w arguments x =
    next (log_values q.context w arguments (known_in x))
    (λ s. make_line q.context w arguments s x)

abbrev mutual
  pub emit : Emitting → Statement Spot Meant → Emission → Tried Emitted
  emit q (Block spot ss) x = then_emit (emit_counted q spot x) (emit_all q ss)
  emit q (If spot c a) x =
      emit_branch q spot c quiet (emit q a) (emit_undecided q spot (fault_of a) (If spot c a)) x
  emit q (IfElse spot c a b) x =
      emit_branch q spot c (emit q b) (emit q a) (emit_undecided q spot
      (first_of (fault_of a) (fault_of b)) (IfElse spot c a b)) x
  emit q (While spot c a) x =
      then_emit (emit_counted q spot x) (emit_turns most_turns q spot c (emit q a)
      (emit_undecided q spot (fault_of a) (While spot c a)))
  emit q (For spot first_spot f c step_spot a body) x =
      then_emit (emit_counted q spot x) (λ x1.
      then_emit (emit_simple q first_spot (first_simple f) x1) (λ x2.
      then_emit (emit_counted q spot x2)
      (emit_turns most_turns q spot c
      (λ x3. then_emit (emit_counted q spot x3) (λ x4. then_emit (emit q body x4)
      (emit_simple q step_spot (Assigned a))))
      (emit_undecided q spot (first_of (assign_fault step_spot a) (fault_of body))
      (loop_of spot c body step_spot a)))))
  emit q (Return spot e) x = refused (at q.context spot) WrongKind
  emit q (Assert spot e) x =
      then_emit (emit_assert q (at q.context spot) e x) (emit_counted q spot)
  emit q (Log spot arguments) x =
      then_emit (emit_log q (at q.context spot) arguments x) (emit_counted q spot)
  emit q (Ended spot a) x = emit_simple q spot a x

  pub emit_all : Emitting → Statements Spot Meant → Emission → Tried Emitted
  emit_all q empty x = quiet x
  emit_all q (then_more a rest) x = then_emit (emit q a x) (emit_all q rest)

-- a body begins with no cell of its own
abbrev pub emit_begun : Template → List Datum → List ℕ → World → (next : ℕ) → Emission
emit_begun t arguments path world next = record {
  cells = run_begun t arguments path world (λ n k. None) [];
  sources = [];
  bodies = [];
  next = next;
}

abbrev pub emit_ended : Context → Emitted → Tried Cast
emit_ended k y =
    next (ended k (known_in y.state)) (λ u. Ok record {
      own = y.state.cells.own;
      inside = port_tables (known_in y.state).frame.parts y.state.cells.parts;
      steps = y.steps;
      next = y.state.next;
    })

abbrev pub emit_body : Program → (size : ℕ) → Caller → Option Maker
    → (Direction → List ℕ → Group) → Caster → Caster
emit_body p size call make group cast w n arguments path world next_cell =
    next (found w WrongKind (slice_get p.templates n)) (λ t.
    let k : Context = template_context p size call make group t path world in
    next (emit_all record { context = k; cast = cast } t.body
    (emit_begun t arguments path world next_cell)) (emit_ended k))

-- with room for n open templates, as they are made
abbrev pub cast_at : Program → (size : ℕ) → ℕ → Caster
cast_at p size zero w n arguments path world next_cell = refused w WrongKind
cast_at p size (suc room) w n arguments path world next_cell =
    emit_body p size (call_at p size most_open) (make_at p size room) numbered_others
    (cast_at p size room) w n arguments path world next_cell
