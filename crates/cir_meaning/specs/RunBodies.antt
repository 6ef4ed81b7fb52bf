-- The run of statements, of bodies, and of a program.
use Rattle.std.specs.Prelude.{ℕ, zero, suc, ◌+◌, ◌-◌, ◌==◌, false, if◌then◌else◌, List, [], ◌∷◌}
use Rattle.std.specs.Prelude.{◌++◌, map, nat_lt, nat_le, ◌&&◌, Option, Some, None, Ok, Err}
use Rattle.std.specs.Prelude.{slice_get, codes, length}
use Rattle.std.specs.Fmt.{decimal}
use Rattle.cir_ast.specs.declared.program.Spot.{Spot}
use Rattle.cir_ast.specs.declared.program.Meant.{Meant}
use Rattle.cir_ast.specs.declared.program.Meant.TheVariants as meant
use Rattle.cir_ast.specs.declared.operators.Direction.{Direction}
use Rattle.cir_ast.specs.declared.refusal.Kind.TheVariants.{WrongKind, Limit}
use Rattle.cir_ast.specs.declared.refusal.Which.TheVariants.{Statements as StatementCount}
use Rattle.cir_ast.specs.Program.{Program, Template, Main}
use Rattle.cir_ast.specs.Tree.{Expr, LogArgument, Words, LogValue, Assigned, Statement, Block, If}
use Rattle.cir_ast.specs.Tree.{IfElse, While, For, Return, Assert, Log, Ended, Statements, empty}
use Rattle.cir_ast.specs.Tree.{then_more}
use Rattle.cir_meaning.specs.Tried.{Where, next, refused, found}
use Rattle.cir_meaning.specs.Places.{numbers_from}
use Rattle.cir_meaning.specs.Arrays.{Datum, Scalar, the_item}
use Rattle.cir_meaning.specs.Frame.{SignalEntry, Signals, Part, is_input, entry_at, Group, Outputs}
use Rattle.cir_meaning.specs.Frame.{PublicInputs, PrivateInputs, Others, Sizes, before_group}
use Rattle.cir_meaning.specs.Frame.{size_in, World, State, Caller, Maker, Context, at}
use Rattle.cir_meaning.specs.Evaluate.{value_in, arguments_in}
use Rattle.cir_meaning.specs.Unknown.{Fault, first_of, assign_fault, fault_of, outer_assigned}
use Rattle.cir_meaning.specs.Scan.{undecided}
use Rattle.cir_meaning.specs.Statement.{condition, decided, most_turns, loop_of, first_simple}
use Rattle.cir_meaning.specs.Statement.{assert_value, log_values}
use Rattle.cir_meaning.specs.Bodies.{template_context, template_state, ended, call_at, make_at}
use Rattle.cir_meaning.specs.Bodies.{most_open, numbered_others}
use Rattle.cir_meaning.specs.Compile.{main_group, main_context, main_state, the_main, exec_main}
use Rattle.cir_meaning.specs.Compile.{final_number, group_size}
use Rattle.cir_meaning.specs.RunValues.{Ran, Environment, Store, gives, number, number_in}
use Rattle.cir_meaning.specs.RunValues.{assert_fails, stored}
use Rattle.cir_meaning.specs.RunStatements.{StepFlow, StepGoing, StepReturned, step_statement}
use Rattle.cir_meaning.specs.RunStatements.{run_call}
use Rattle.cir_meaning.specs.Run.{put_numbers, RunTried, refusing, Wires, RunPart, Run, store_of}
use Rattle.cir_meaning.specs.Run.{environment, stepping, Table}
use Rattle.cir_meaning.specs.RunSimple.{Outcome, Runner, Running, with_known, run_counted}
use Rattle.cir_meaning.specs.RunSimple.{run_simple}
use Rattle.cir_meaning.specs.Values.{Value}

-- the variables behind a statement; in a template none returns
abbrev pub store_in : StepFlow → Store → Store
store_in (StepGoing store) old = store
store_in (StepReturned d) old = old

-- the outer variables that it may assign have new numbers
abbrev pub taken : List ℕ → (new : Store) → Store → Store
taken [] new old = old
taken (n ∷ ns) new old = taken ns new (put_numbers n (stored new n) old)

-- what is left of a statement whose condition isn't known is one step
abbrev pub run_undecided : Running → Spot → Option Fault → Statement Spot Meant → Run → RunTried Run
run_undecided q spot fault a r =
    next (refusing (undecided q.context spot fault a r.known)) (λ s.
    next (stepping (at q.context spot) r (step_statement
    (environment q.context (at q.context spot) q.call s r) a (store_of r.known r.numbers)
    q.fuel))
    (λ flow. Ok record r {
      known = s;
      numbers = taken (outer_assigned a) (store_in flow r.numbers)
          r.numbers;
    }))

abbrev pub run_branch : Running → Spot → Expr Meant
    → (if_false if_true if_unknown : Run → RunTried Run) → Run → RunTried Run
run_branch q spot c if_false if_true if_unknown r =
    next (run_counted q spot r) (λ r1. next (refusing (condition q.context spot c r1.known))
    (λ (v, s).
    decided v if_false if_true if_unknown (with_known s r1)))

abbrev pub run_turns : ℕ → Running → Spot → Expr Meant → (body unknown : Run → RunTried Run) → Run
    → RunTried Run
run_turns zero q spot c body unknown r =
    refusing (refused (at q.context spot) (Limit StatementCount 16777217))
run_turns (suc n) q spot c body unknown r =
    next (refusing (condition q.context spot c r.known)) (λ (v, s). decided v
    (λ r1. Ok r1)
    (λ r1. next (run_counted q spot r1) (λ r2. next (body r2) (run_turns n q spot c body unknown)))
    unknown (with_known s r))

-- an assertion is a step where its condition isn't known
abbrev pub asserted : Environment → Store → Expr Meant → ℕ → Ran (Unit {0})
asserted env store e units =
    number (number_in env store e units) (λ m u1. if m == 0 then Err assert_fails else Ok (tt, u1))

abbrev pub assert_step : Running → Where → Expr Meant → Run → RunTried (Unit {0})
assert_step q w e r =
    stepping w r (asserted (environment q.context w q.call r.known r) (store_of r.known r.numbers) e
    q.fuel)

abbrev pub run_assert_value : Running → Where → Expr Meant → Value → State → Run → RunTried Run
run_assert_value q w e v s r =
    next (refusing (assert_value q.context w e r.known v s)) (λ s1.
    next (decided v (Ok tt) (Ok tt) (assert_step q w e r)) (λ u. Ok (with_known s1 r)))

abbrev pub run_assert : Running → Where → Expr Meant → Run → RunTried Run
run_assert q w e r =
    next (refusing (value_in q.context w false Scalar e r.known))
    (λ (d, s). run_assert_value q w e (the_item d) s r)

-- a line has strings and decimal numbers with one space between them
abbrev pub log_words : Environment → Store → List (LogArgument Meant) → ℕ → Ran (List (List ℕ))
log_words env store [] units = gives [] units
log_words env store (Words text ∷ rest) units =
    next (log_words env store rest units) (λ (ws, u1). gives (text ∷ ws) u1)
log_words env store (LogValue e ∷ rest) units =
    number (number_in env store e units) (λ n u1. next (log_words env store rest u1)
    (λ (ws, u2). gives (decimal n ∷ ws) u2))

abbrev pub log_line : List (List ℕ) → List ℕ
log_line [] = []
log_line (w ∷ []) = w
log_line (w ∷ (v ∷ vs)) = w ++ (32 ∷ log_line (v ∷ vs))

abbrev pub run_log : Running → Where → List (LogArgument Meant) → Run → RunTried Run
run_log q w arguments r =
    next (refusing (log_values q.context w arguments r.known)) (λ s.
    next (stepping w r (log_words (environment q.context w q.call r.known r)
    (store_of r.known r.numbers) arguments q.fuel)) (λ words.
    Ok record r { known = s; log = r.log ++ log_line words ∷ [] }))

abbrev mutual
  pub run : Running → Statement Spot Meant → Run → RunTried Run
  run q (Block spot ss) r = next (run_counted q spot r) (run_all q ss)
  run q (If spot c a) r =
      run_branch q spot c (λ r1. Ok r1) (run q a) (run_undecided q spot (fault_of a) (If spot c a))
      r
  run q (IfElse spot c a b) r =
      run_branch q spot c (run q b) (run q a) (run_undecided q spot
      (first_of (fault_of a) (fault_of b)) (IfElse spot c a b)) r
  run q (While spot c a) r =
      next (run_counted q spot r) (run_turns most_turns q spot c (run q a)
      (run_undecided q spot (fault_of a) (While spot c a)))
  run q (For spot first_spot f c step_spot a body) r =
      next (run_counted q spot r) (λ r1.
      next (run_simple q first_spot (first_simple f) r1) (λ r2.
      next (run_counted q spot r2)
      (run_turns most_turns q spot c
      (λ r3. next (run_counted q spot r3) (λ r4. next (run q body r4)
      (run_simple q step_spot (Assigned a))))
      (run_undecided q spot (first_of (assign_fault step_spot a) (fault_of body))
      (loop_of spot c body step_spot a)))))
  run q (Return spot e) r = refusing (refused (at q.context spot) WrongKind)
  run q (Assert spot e) r = next (run_assert q (at q.context spot) e r) (run_counted q spot)
  run q (Log spot arguments) r =
      next (run_log q (at q.context spot) arguments r) (run_counted q spot)
  run q (Ended spot x) r = run_simple q spot x r

  pub run_all : Running → Statements Spot Meant → Run → RunTried Run
  run_all q empty r = Ok r
  run_all q (then_more a rest) r = next (run q a r) (run_all q rest)

-- the tables of the components of a body, and of those in them
abbrev pub port_tables : List Part → List RunPart → List Table
port_tables [] rs = []
port_tables (p ∷ ps) [] = []
port_tables (p ∷ ps) (r ∷ rs) =
    record { signals = p.signals; wires = r.ports } ∷ (r.inside ++ port_tables ps rs)

abbrev pub run_begun : Template → List Datum → List ℕ → World → Wires → List (List ℕ) → Run
run_begun t arguments path world given log = record {
  known = template_state t arguments path world;
  numbers = [];
  own = given;
  parts = [];
  log = log;
}

abbrev pub run_ended : Context → Run → RunTried Outcome
run_ended k r =
    next (refusing (ended k r.known)) (λ u. Ok record {
      own = r.own;
      inside = port_tables
          r.known.frame.parts r.parts;
      log = r.log;
    })

abbrev pub run_template_body : Program → (size fuel : ℕ) → Caller → Option Maker
    → (Direction → List ℕ → Group) → Runner → Runner
run_template_body p size fuel call make group body w n arguments path world given log =
    next (refusing (found w WrongKind (slice_get p.templates n))) (λ t.
    let k : Context = template_context p size call make group t path world in
    next (run_all record { context = k; fuel = fuel; call = run_call p most_open; body = body }
    t.body (run_begun t arguments path world given log))
    (run_ended k))

-- with room for n open templates, as they are made
abbrev pub body_at : Program → (size fuel : ℕ) → ℕ → Runner
body_at p size fuel zero w n arguments path world given log = refusing (refused w WrongKind)
body_at p size fuel (suc room) w n arguments path world given log =
    run_template_body p size fuel (call_at p size most_open) (make_at p size room) numbered_others
    (body_at p size fuel room) w n arguments path world given log

-- the inputs of main stand behind signal 0 and the outputs, by their final numbers
abbrev pub input_wires : ℕ → Sizes → List ℕ → Signals → Wires
input_wires size sizes inputs signals n k = of_entry (entry_at signals n)
  where
    of_entry : Option SignalEntry → Option ℕ
    of_entry None = None
    of_entry (Some e) =
        if is_input e.direction then slice_get inputs (final_number size sizes (e.first + k) -
        (1 + sizes.outputs)) else None

-- main is the first of the 256 templates that may be open, so 255 more may be
abbrev pub run_program : Program → (size fuel : ℕ) → Main → Meant → (given : Wires)
    → RunTried Outcome
run_program p size fuel m (meant.Template t) given =
    next (refusing (arguments_in (main_context p size m) (at (main_context p size m) m.spot)
    m.arguments main_state)) (λ (ds, s).
    run_template_body p size fuel (call_at p size most_open) (make_at p size 255)
    (main_group m.public_names) (body_at p size fuel 255)
    (at (main_context p size m) m.spot) t ds (codes "main") s.world given [])
run_program p size fuel m _ given = refusing (refused (at (main_context p size m) m.spot) WrongKind)

-- the number of a signal, wherever it stands
abbrev pub or_else : {A : Type 0} → Option A → Option A → Option A
or_else (Some a) other = Some a
or_else None other = other

abbrev pub signal_wire : (wanted n : ℕ) → Signals → Wires → Option ℕ
signal_wire wanted n [] wires = None
signal_wire wanted n (None ∷ rest) wires = signal_wire wanted (suc n) rest wires
signal_wire wanted n (Some e ∷ rest) wires =
    if nat_le e.first wanted && nat_lt wanted (e.first + length e.written) then wires n
    (wanted - e.first)
    else signal_wire wanted (suc n) rest wires

abbrev pub table_wire : List Table → ℕ → Option ℕ
table_wire [] wanted = None
table_wire (t ∷ ts) wanted = or_else (signal_wire wanted 0 t.signals t.wires) (table_wire ts wanted)

abbrev pub group_wires : ℕ → Sizes → List Table → Group → List (Option ℕ)
group_wires size sizes tables g =
    map (table_wire tables) (numbers_from (1 + before_group size g) (size_in g sizes))

-- signal 0 is 1; the others stand by their final numbers
abbrev pub all_wires : ℕ → Sizes → List Table → List (Option ℕ)
all_wires size sizes tables =
    Some 1 ∷ (group_wires size sizes tables Outputs ++ (group_wires size sizes tables PublicInputs
    ++ (group_wires size sizes tables PrivateInputs ++ group_wires size sizes tables Others)))

pub record Ending : Type 0 where
  pub values : List (Option ℕ)
  pub log : List (List ℕ)

-- the run of a program that compiles, with main's inputs and the units of each step
abbrev pub run_with : ℕ → Program → (fuel : ℕ) → List ℕ → RunTried Ending
run_with size p fuel inputs =
    next (refusing (the_main p)) (λ m. next (refusing (exec_main p size m m.meant))
    (λ (signals, world).
    next (run_program p size fuel m m.meant (input_wires size world.sizes inputs signals)) (λ o.
    Ok record {
      values = all_wires size world.sizes (record { signals = signals; wires = o.own } ∷
          o.inside);
      log = o.log;
    })))

abbrev pub ran : Program → (fuel : ℕ) → List ℕ → RunTried Ending
ran p fuel inputs = run_with group_size p fuel inputs
