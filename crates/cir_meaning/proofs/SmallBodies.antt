-- The run of statements and of bodies leaves numbers of the field.
use Rattle.std.proofs.Common.{ℕ, zero, suc, ◌-◌, false, List, [], ◌∷◌, length, Option, slice_get}
use Rattle.std.specs.List.{AllByRecursion}
use Rattle.cir_ast.specs.declared.program.Spot.{Spot}
use Rattle.cir_ast.specs.declared.program.Meant.{Meant}
use Rattle.cir_ast.specs.declared.operators.Direction.{Direction}
use Rattle.cir_ast.specs.declared.refusal.Kind.TheVariants.{WrongKind}
use Rattle.cir_ast.specs.Program.{Program}
use Rattle.cir_ast.specs.Tree.{Expr, LogArgument, Assigned, Statement, Block, If, IfElse, While}
use Rattle.cir_ast.specs.Tree.{For, Return, Assert, Log, Ended, Statements, empty, then_more}
use Rattle.cir_meaning.specs.Tried.{Where, found}
use Rattle.cir_meaning.specs.Arrays.{Scalar, the_item}
use Rattle.cir_meaning.specs.Frame.{Part, Group, Caller, Maker, Context, at}
use Rattle.cir_meaning.specs.Evaluate.{value_in}
use Rattle.cir_meaning.specs.Unknown.{Fault, first_of, assign_fault, fault_of, outer_assigned}
use Rattle.cir_meaning.specs.Scan.{undecided}
use Rattle.cir_meaning.specs.Statement.{condition, most_turns, loop_of, first_simple, assert_value}
use Rattle.cir_meaning.specs.Statement.{log_values}
use Rattle.cir_meaning.specs.Bodies.{template_context, ended, call_at, make_at, most_open}
use Rattle.cir_meaning.specs.Bodies.{numbered_others}
use Rattle.cir_meaning.specs.RunValues.{Store, stored}
use Rattle.cir_meaning.specs.RunStatements.{StepFlow, StepGoing, StepReturned, step_statement}
use Rattle.cir_meaning.specs.RunStatements.{run_call}
use Rattle.cir_meaning.specs.Run.{put_numbers, RunTried, refusing, RunPart, Run, store_of}
use Rattle.cir_meaning.specs.Run.{environment, stepping}
use Rattle.cir_meaning.specs.RunSimple.{Runner, Running, with_known, run_counted, run_simple}
use Rattle.cir_meaning.specs.RunBodies.{store_in, taken, run_undecided, run_branch, run_turns}
use Rattle.cir_meaning.specs.RunBodies.{run_assert, run_log, run, run_all, port_tables, run_begun}
use Rattle.cir_meaning.specs.RunBodies.{run_ended, run_template_body, body_at}
use Rattle.cir_meaning.proofs.Good.{OnGood, OnSome', good_bad, good_next, good_on}
use Rattle.cir_meaning.proofs.Rows.{all_append}
use Rattle.cir_meaning.proofs.FineValues.{Fine, FineAnswer, FineCall, FineMake, value_fine}
use Rattle.cir_meaning.proofs.Keepings.{decided_as}
use Rattle.cir_meaning.proofs.FineStatements.{undecided_fine, condition_fine, assert_fine, log_fine}
use Rattle.cir_meaning.proofs.FineBodies.{begun_fine, calls_fine, makes_fine}
use Rattle.cir_meaning.proofs.SmallNumbers.{SmallAll, stored_small}
use Rattle.cir_meaning.proofs.SmallSteps.{SmallFlow, statement_small, calls_small}
use Rattle.cir_meaning.proofs.SmallWires.{ran_ok, stepping_good, SmallTable, SmallPart, SmallRun}
use Rattle.cir_meaning.proofs.SmallWires.{store_small, put_small, environment_small}
use Rattle.cir_meaning.proofs.SmallRuns.{SmallOutcome, SmallRunner, SmallRunning, known_run, Runs}
use Rattle.cir_meaning.proofs.SmallRuns.{then_runs, refused_runs, counted_runs, simple_runs}

-- variables behind a step
in_small : (f : StepFlow) (old : Store) → SmallFlow f → SmallAll old → SmallAll (store_in f old)
in_small (StepGoing store) old h g = h
in_small (StepReturned d) old h g = g

taken_small : (ns : List ℕ) (new old : Store) → SmallAll new → SmallAll old
    → SmallAll (taken ns new old)
taken_small [] new old h g = g
taken_small (n ∷ ns) new old h g =
    taken_small ns new (put_numbers n (stored new n) old) h
    (put_small n (stored new n) old (stored_small new n h) g)

module _ (q : Running) (small : SmallRunning q) where
  undecided_runs : (spot : Spot) (fault : Option Fault) (a : Statement Spot Meant)
      → Runs (run_undecided q spot fault a)
  undecided_runs spot fault a r h =
      refused_runs Fine (undecided q.context spot fault a r.known) _
      (undecided_fine q.context small.fine spot fault a r.known h.known) (λ s g.
      good_next SmallFlow SmallRun
      (stepping (at q.context spot) r (step_statement
      (environment q.context (at q.context spot) q.call s r) a (store_of r.known r.numbers)
      q.fuel)) _
      (stepping_good SmallFlow (at q.context spot) r _
      (statement_small (environment q.context (at q.context spot) q.call s r)
      (environment_small q.context small.fine (at q.context spot) q.call small.call s r g h) a
      (store_of r.known r.numbers) q.fuel (store_small r.known r.numbers h.known h.numbers)))
      (λ flow f. ran_ok SmallRun record r {
        known = s;
        numbers = taken (outer_assigned a) (store_in flow r.numbers) r.numbers;
      } record {
        known = g;
        numbers = taken_small (outer_assigned a) (store_in flow r.numbers) r.numbers
            (in_small flow r.numbers f h.numbers) h.numbers;
        own = h.own;
        parts = h.parts;
      }))

  branch_runs : (spot : Spot) (c : Expr Meant) (x y z : Run → RunTried Run) → Runs x → Runs y
      → Runs z → Runs (run_branch q spot c x y z)
  branch_runs spot c x y z f g i r h =
      then_runs (run_counted q spot r) _ (counted_runs q small spot r h) (λ r1 h1.
      refused_runs (λ v. Fine v.1) (condition q.context spot c r1.known) _
      (condition_fine q.context small.fine spot c r1.known h1.known) (λ v l.
      decided_as Runs v.0 x y z f g i (with_known v.1 r1) (known_run v.1 r1 l h1)))

  turns_runs : (n : ℕ) (spot : Spot) (c : Expr Meant) (body unknown : Run → RunTried Run)
      → Runs body → Runs unknown → Runs (run_turns n q spot c body unknown)
  turns_runs zero spot c body unknown f g r h = good_bad SmallRun _
  turns_runs (suc n) spot c body unknown f g r h =
      refused_runs (λ v. Fine v.1) (condition q.context spot c r.known) _
      (condition_fine q.context small.fine spot c r.known h.known) (λ v l.
      decided_as Runs v.0 _ _ unknown (λ r1 h1. ran_ok SmallRun r1 h1)
      (λ r1 h1. then_runs (run_counted q spot r1) _ (counted_runs q small spot r1 h1) (λ r2 h2.
      then_runs (body r2) (run_turns n q spot c body unknown) (f r2 h2)
      (turns_runs n spot c body unknown f g)))
      g (with_known v.1 r) (known_run v.1 r l h))

  assert_runs : (w : Where) (e : Expr Meant) → Runs (run_assert q w e)
  assert_runs w e r h =
      refused_runs FineAnswer (value_in q.context w false Scalar e r.known) _
      (value_fine q.context small.fine w false Scalar e r.known h.known) (λ x p.
      refused_runs Fine (assert_value q.context w e r.known (the_item x.0) x.1) _
      (assert_fine q.context small.fine w e r.known (the_item x.0) x.1 p.1) (λ s g.
      good_on SmallRun _ _ (λ u. ran_ok SmallRun (with_known s r) (known_run s r g h))))

  log_runs : (w : Where) (arguments : List (LogArgument Meant)) → Runs (run_log q w arguments)
  log_runs w arguments r h =
      refused_runs Fine (log_values q.context w arguments r.known) _
      (log_fine q.context small.fine w arguments r.known h.known) (λ s g.
      good_on SmallRun _ _ (λ words. ran_ok SmallRun _
      record { known = g; numbers = h.numbers; own = h.own; parts = h.parts }))

  mutual
    statement_runs : (a : Statement Spot Meant) → Runs (run q a)
    statement_runs (Block spot ss) r h =
        then_runs (run_counted q spot r) (run_all q ss) (counted_runs q small spot r h)
        (λ r1 h1. all_run ss r1 h1)
    statement_runs (If spot c a) r h =
        branch_runs spot c _ (run q a) _ (λ r1 h1. ran_ok SmallRun r1 h1)
        (λ r1 h1. statement_runs a r1 h1) (undecided_runs spot (fault_of a) (If spot c a)) r h
    statement_runs (IfElse spot c a b) r h =
        branch_runs spot c (run q b) (run q a) _ (λ r1 h1. statement_runs b r1 h1)
        (λ r1 h1. statement_runs a r1 h1)
        (undecided_runs spot (first_of (fault_of a) (fault_of b)) (IfElse spot c a b)) r h
    statement_runs (While spot c a) r h =
        then_runs (run_counted q spot r) _ (counted_runs q small spot r h)
        (turns_runs most_turns spot c (run q a) _ (λ r1 h1. statement_runs a r1 h1)
        (undecided_runs spot (fault_of a) (While spot c a)))
    statement_runs (For spot first_spot f c step_spot a body) r h =
        then_runs (run_counted q spot r) _ (counted_runs q small spot r h) (λ r1 h1.
        then_runs (run_simple q first_spot (first_simple f) r1) _
        (simple_runs q small first_spot (first_simple f) r1 h1) (λ r2 h2.
        then_runs (run_counted q spot r2) _ (counted_runs q small spot r2 h2)
        (turns_runs most_turns spot c _ _
        (λ r3 h3. then_runs (run_counted q spot r3) _ (counted_runs q small spot r3 h3) (λ r4 h4.
        then_runs (run q body r4) (run_simple q step_spot (Assigned a)) (statement_runs body r4 h4)
        (simple_runs q small step_spot (Assigned a))))
        (undecided_runs spot (first_of (assign_fault step_spot a) (fault_of body))
        (loop_of spot c body step_spot a)))))
    statement_runs (Return spot e) r h = good_bad SmallRun _
    statement_runs (Assert spot e) r h =
        then_runs (run_assert q (at q.context spot) e r) (run_counted q spot)
        (assert_runs (at q.context spot) e r h) (counted_runs q small spot)
    statement_runs (Log spot arguments) r h =
        then_runs (run_log q (at q.context spot) arguments r) (run_counted q spot)
        (log_runs (at q.context spot) arguments r h) (counted_runs q small spot)
    statement_runs (Ended spot x) r h = simple_runs q small spot x r h

    pub all_run : (ss : Statements Spot Meant) → Runs (run_all q ss)
    all_run empty r h = ran_ok SmallRun r h
    all_run (then_more a rest) r h =
        then_runs (run q a r) (run_all q rest) (statement_runs a r h)
        (λ r1 h1. all_run rest r1 h1)

-- bodies
tables_small : (ps : List Part) (rs : List RunPart) → AllByRecursion SmallPart rs
    → AllByRecursion SmallTable (port_tables ps rs)
tables_small [] rs h = tt
tables_small (p ∷ ps) [] h = tt
tables_small (p ∷ ps) (r ∷ rs) h = (
  h.0.ports,
  all_append SmallTable r.inside (port_tables ps rs) h.0.inside (tables_small ps rs h.1),
)

ended_small : (k : Context) (r : Run) → SmallRun r → OnGood SmallOutcome (run_ended k r)
ended_small k r h =
    good_on SmallOutcome (refusing (ended k r.known)) _ (λ u. ran_ok SmallOutcome record {
      own = r.own;
      inside = port_tables r.known.frame.parts r.parts;
      log = r.log;
    } record { own = h.own; inside = tables_small r.known.frame.parts r.parts h.parts })

pub template_small : (p : Program) (size fuel : ℕ) (call : Caller) (make : Option Maker)
    (group : Direction → List ℕ → Group) (body : Runner) → FineCall call → OnSome' FineMake make
    → SmallRunner body → SmallRunner (run_template_body p size fuel call make group body)
template_small p size fuel call make group body calls makes bodies w n ds path world given log args
    before wires =
    good_on SmallOutcome (refusing (found w WrongKind (slice_get p.templates n))) _ (λ t.
    let k : Context = template_context p size call make group t path world in
    let q : Running = record {
      context = k;
      fuel = fuel;
      call = run_call p most_open;
      body = body;
    } in
    good_next SmallRun SmallOutcome
    (run_all q t.body (run_begun t ds path world given log)) (run_ended k)
    (all_run q record {
      fine = record { call = calls; make = makes };
      call = calls_small p most_open;
      body = bodies;
    } t.body (run_begun t ds path world given log) record {
      known = (begun_fine ds (t.variables - length ds) t.signals t.components args, before);
      numbers = tt;
      own = wires;
      parts = tt;
    }) (ended_small k))

pub bodies_small : (p : Program) (size fuel room : ℕ) → SmallRunner (body_at p size fuel room)
bodies_small p size fuel zero w n ds path world given log args before wires =
    good_bad SmallOutcome _
bodies_small p size fuel (suc room) w n ds path world given log args before wires =
    template_small p size fuel (call_at p size most_open) (make_at p size room) numbered_others
    (body_at p size fuel room) (calls_fine p size most_open) (makes_fine p size room)
    (bodies_small p size fuel room) w n ds path world given log args before wires
