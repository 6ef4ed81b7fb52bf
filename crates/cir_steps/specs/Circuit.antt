-- The circuit of a program: all steps in the order in which they run, and what its cells are.
use Rattle.std.specs.Prelude.{ℕ, Bool, if◌then◌else◌, not, ◌&&◌, List, [], ◌∷◌, ◌++◌, map, length}
use Rattle.std.specs.Prelude.{Option, Some, None, Ok, codes, suc, bytes_eq}
use Rattle.std.specs.List.{list_any}
use Rattle.cir_ast.specs.declared.program.Meant.{Meant}
use Rattle.cir_ast.specs.declared.program.Meant.TheVariants as meant
use Rattle.cir_ast.specs.declared.refusal.Kind.TheVariants.{WrongKind}
use Rattle.cir_ast.specs.Program.{Program, Main}
use Rattle.cir_meaning.specs.Tried.{Tried, next, refused}
use Rattle.cir_meaning.specs.Places.{numbers_from}
use Rattle.cir_meaning.specs.Frame.{SignalEntry, Signals, Outputs, PublicInputs, PrivateInputs}
use Rattle.cir_meaning.specs.Frame.{Others, Sizes, at, is_input}
use Rattle.cir_meaning.specs.Evaluate.{arguments_in}
use Rattle.cir_meaning.specs.Bodies.{call_at, make_at, most_open}
use Rattle.cir_meaning.specs.Compile.{main_group, main_context, main_state, the_main, exec_main}
use Rattle.cir_meaning.specs.Compile.{group_size}
use Rattle.cir_meaning.specs.RunStatements.{run_call}
use Rattle.cir_meaning.specs.Run.{RunTried, Wires, Table}
use Rattle.cir_meaning.specs.RunBodies.{group_wires, Ending}
use Rattle.cir_steps.specs.Step.{Step}
use Rattle.cir_steps.specs.Emission.{wire_cell}
use Rattle.cir_steps.specs.Making.{Cast}
use Rattle.cir_steps.specs.Statements.{emit_body, cast_at}
use Rattle.cir_steps.specs.RunSteps.{in_cell, put_cells, Progress, run_steps}

-- `cells` counts all cells, `starts` are those that have a number at first, and `homes` are the
-- cells of the signals, by their final numbers
pub record Circuit : Type 0 where
  pub steps : List Step
  pub cells : ℕ
  pub starts : List ℕ
  pub homes : List (Option ℕ)

-- the cells of inputs, in order
abbrev pub entry_cells : Wires → (n : ℕ) → SignalEntry → List ℕ
entry_cells wires n e = map (wire_cell wires n) (numbers_from 0 (length e.written))

abbrev pub input_cells : (SignalEntry → Bool) → Wires → (n : ℕ) → Signals → List ℕ
input_cells test wires n [] = []
input_cells test wires n (None ∷ rest) = input_cells test wires (suc n) rest
input_cells test wires n (Some e ∷ rest) =
    (if is_input e.direction && test e then entry_cells wires n e else []) ++ input_cells test
    wires (suc n) rest

abbrev pub is_public : Main → SignalEntry → Bool
is_public m e = list_any (λ n. bytes_eq n e.name) m.public_names

-- cell 0, which holds 1, and the cells of main's inputs, the public ones first
abbrev pub start_cells : Main → Wires → Signals → List ℕ
start_cells m wires signals =
    0 ∷ (input_cells (is_public m) wires 0 signals ++ input_cells (λ e. not (is_public m e)) wires 0
    signals)

-- signal 0 has cell 0
abbrev pub all_homes : ℕ → Sizes → List Table → List (Option ℕ)
all_homes size sizes tables =
    Some 0 ∷ (group_wires size sizes tables Outputs ++ (group_wires size sizes tables PublicInputs
    ++ (group_wires size sizes tables PrivateInputs ++ group_wires size sizes tables Others)))

-- main is the first of the 256 templates that may be open, so 255 more may be
abbrev pub emit_main : Program → (size : ℕ) → Main → Meant → Tried Cast
emit_main p size m (meant.Template t) =
    next (arguments_in (main_context p size m) (at (main_context p size m) m.spot)
    m.arguments main_state) (λ (ds, s).
    emit_body p size (call_at p size most_open) (make_at p size 255)
    (main_group m.public_names) (cast_at p size 255)
    (at (main_context p size m) m.spot) t ds (codes "main") s.world 1)
emit_main p size m _ = refused (at (main_context p size m) m.spot) WrongKind

abbrev pub circuit_with : ℕ → Program → Tried Circuit
circuit_with size p =
    next (the_main p) (λ m. next (exec_main p size m m.meant) (λ (signals, world).
    next (emit_main p size m m.meant) (λ o.
    Ok record {
      steps = o.steps;
      cells = o.next;
      starts = start_cells m o.own signals;
      homes = all_homes size world.sizes (record { signals = signals; wires = o.own } ∷ o.inside);
    })))

abbrev pub circuit_of : Program → Tried Circuit
circuit_of p = circuit_with group_size p

-- its steps, from the inputs by their numbers on
abbrev pub at_start : Circuit → (inputs : List ℕ) → Progress
at_start c inputs =
    record { cells = put_cells c.starts (1 ∷ inputs) (λ cell. None); log = [] }

abbrev pub run_circuit : Program → (fuel : ℕ) → List ℕ → Circuit → RunTried Ending
run_circuit p fuel inputs c =
    next (run_steps (run_call p most_open) fuel c.steps (at_start c inputs)) (λ end. Ok record {
      values = map (in_cell end.cells) c.homes;
      log = end.log;
    })
