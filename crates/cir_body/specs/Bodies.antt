-- What a body gives with its steps: its signals at compile time, and what its steps are.
use Rattle.std.specs.Prelude.{◌≡◌, ℕ, List, [], Option, None, Some, Ok, slice_get}
use Rattle.cir_ast.specs.declared.operators.Direction.{Direction}
use Rattle.cir_ast.specs.declared.program.Spot.{Spot}
use Rattle.cir_ast.specs.declared.program.Meant.{Meant}
use Rattle.cir_ast.specs.Program.{Program, Template}
use Rattle.cir_ast.specs.Tree.{Statements}
use Rattle.cir_meaning.specs.Tried.{Tried, next}
use Rattle.cir_meaning.specs.Arrays.{Datum}
use Rattle.cir_meaning.specs.Frame.{Caller, Group, Maker, Signals, State, World}
use Rattle.cir_meaning.specs.Statement.{Going, exec_all}
use Rattle.cir_meaning.specs.Bodies.{ended_flow, template_context, template_state}
use Rattle.cir_meaning.specs.Compile.{group_size}
use Rattle.cir_steps.specs.Emission.{Emission, known_in}
use Rattle.cir_steps.specs.Making.{Cast, Caster, Emitting}
use Rattle.cir_steps.specs.Statements.{emit_all, emit_ended}
use Rattle.cir_make.specs.declared.cells.VariableCells.{VariableCells}

-- a body that begins in a state has no cell
abbrev pub emission_at : State → (next : ℕ) → Emission
emission_at s next_cell = record {
  cells = record { known = s; numbers = []; own = λ n k. None; parts = []; log = [] };
  sources = [];
  bodies = [];
  next = next_cell;
}

-- none of these variables has a cell
abbrev pub AreWithoutCells : List VariableCells → Type 0
AreWithoutCells vs =
    (n : ℕ) (v : VariableCells) → slice_get vs n ≡ Some v → v.sources.items ≡ []

-- as at compile time, with what is known behind the steps
abbrev pub Follows : Emitting → Statements Spot Meant → State → (next : ℕ) → Type 0
Follows q ss s next_cell =
    exec_all q.context ss s
    ≡ next (emit_all q ss (emission_at s next_cell)) (λ y. Ok (Going (known_in y.state)))

abbrev pub body_cast : Emitting → Statements Spot Meant → State → (next : ℕ)
    → Tried ((Signals × World) × Cast)
body_cast q ss s next_cell =
    next (next (exec_all q.context ss s) (ended_flow q.context)) (λ made.
    next (next (emit_all q ss (emission_at s next_cell)) (emit_ended q.context)) (λ o.
    Ok (made, o)))

abbrev pub template_cast : Program → Caller → Option Maker → (Direction → List ℕ → Group) → Caster
    → Template → List Datum → (path : List ℕ) → World → (next : ℕ)
    → Tried ((Signals × World) × Cast)
template_cast p call make group cast t arguments path world next_cell =
    body_cast record {
      context = template_context p group_size call make group t path world;
      cast = cast;
    } t.body (template_state t arguments path world) next_cell
