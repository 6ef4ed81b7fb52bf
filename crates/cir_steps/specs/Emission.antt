-- What a template's body keeps while its steps are made: what the compile meaning has here, and
-- cells where a run has numbers.
use Rattle.std.specs.Prelude.{ℕ, ◌+◌, if◌then◌else◌, nat_eq, nat_lt, ◌&&◌, List, [], ◌∷◌, ◌++◌}
use Rattle.std.specs.Prelude.{flat_map, Option, Some, None, Ok, Err, slice_get, slice_index_or}
use Rattle.std.specs.Prelude.{unwrap_or}
use Rattle.std.specs.List.{list_any}
use Rattle.cir_meaning.specs.Tried.{Where, Tried, next}
use Rattle.cir_meaning.specs.Places.{elements}
use Rattle.cir_meaning.specs.Limits.{is_too_large}
use Rattle.cir_meaning.specs.Frame.{State, Context}
use Rattle.cir_meaning.specs.Costs.{Cell as Read, Element, Wire, Cost}
use Rattle.cir_meaning.specs.Steps.{same_cell}
use Rattle.cir_meaning.specs.RunValues.{missing}
use Rattle.cir_meaning.specs.Run.{Wires, Table, RunPart, Run, environment}
use Rattle.cir_meaning.specs.RunBodies.{or_else, port_tables, table_wire}
use Rattle.cir_steps.specs.Step.{Source, Constant, Cell, listed, Work, LogPart, Step}
use Rattle.cir_steps.specs.Step.{variable_sources}

-- `cells` is a run that has cells for the numbers of signals, and no log and no numbers of
-- variables: `sources` tells where those come from. The steps of a component wait for its inputs.
-- Cells from `next` on are new.
pub record Emission : Type 0 where
  pub cells : Run
  pub sources : List (List Source)
  pub bodies : List (List Step)
  pub next : ℕ

-- an execution makes steps; those of what comes first stand in front
pub record Emitted : Type 0 where
  pub state : Emission
  pub steps : List Step

abbrev pub quiet : Emission → Tried Emitted
quiet x = Ok record { state = x; steps = [] }

abbrev pub behind : List Step → Tried Emitted → Tried Emitted
behind steps m = next m (λ y. Ok record { state = y.state; steps = steps ++ y.steps })

abbrev pub then_emit : Tried Emitted → (Emission → Tried Emitted) → Tried Emitted
then_emit m go = next m (λ x. behind x.steps (go x.state))

-- what the compile meaning has
abbrev pub known_in : Emission → State
known_in x = x.cells.known

abbrev pub with_state : State → Emission → Emission
with_state s x = record x { cells = record (x.cells) { known = s } }

-- what only the compile meaning does
abbrev pub emit_known : (State → Tried State) → Emission → Tried Emitted
emit_known go x = next (go (known_in x)) (λ s. quiet (with_state s x))

-- the cell of an element of a signal
abbrev pub wire_cell : Wires → (n place : ℕ) → ℕ
wire_cell wires n place = unwrap_or (wires n place) 0

abbrev pub part_ports : Option RunPart → Wires
part_ports None n place = None
part_ports (Some p) n place = p.ports n place

abbrev pub ports_of : Option ℕ → Emission → Wires
ports_of None x = x.cells.own
ports_of (Some j) x = part_ports (slice_get x.cells.parts j)

-- the cell of what may be read
abbrev pub tables_in : Emission → List Table
tables_in x =
    record { signals = (known_in x).frame.signals; wires = x.cells.own } ∷ port_tables
    (known_in x).frame.parts x.cells.parts

abbrev pub cells_in : Source → List ℕ
cells_in (Constant k) = []
cells_in (Cell c) = c ∷ []

abbrev pub cells_of : Emission → Read → List ℕ
cells_of x (Element n k) = cells_in (slice_index_or (listed x.sources n) k (Constant 0))
cells_of x (Wire j) = unwrap_or (table_wire (tables_in x) j) 0 ∷ []

-- each cell that may be read is read once
abbrev pub each_once : List Read → List Read
each_once [] = []
each_once (c ∷ cs) = if list_any (same_cell c) cs then each_once cs else c ∷ each_once cs

-- a step at a place; `s` tells which calls are known
abbrev pub step_of : Context → Where → State → Cost → Work → (targets : List ℕ)
    → Option (List LogPart) → Emission → Step
step_of k w s cost work targets line x = record {
  place = w;
  work = work;
  variables = variable_sources (known_in x).frame.variables x.sources;
  names = environment k w (λ n ds units. Err missing) s x.cells;
  reads = flat_map (cells_of x) (each_once cost.reads);
  targets = targets;
  line = line;
}

-- elements of a signal that is declared have new cells, unless they have cells already; an array
-- that is too large has none
abbrev pub made_elements : List ℕ → ℕ
made_elements dims = if is_too_large dims then 0 else elements dims

abbrev pub put_signal : (n first count : ℕ) → Wires → Wires
put_signal n first count wires m k =
    or_else (wires m k) (if nat_eq n m && nat_lt k count then Some (first + k) else None)

abbrev pub with_signal : (n count : ℕ) → Emission → Emission
with_signal n count x = record x {
  cells = record (x.cells) { own = put_signal n x.next count x.cells.own };
  next = x.next + count;
}

-- the steps of a component stand behind the write of its last input
abbrev pub steps_in : Option (List Step) → List Step
steps_in None = []
steps_in (Some steps) = steps

abbrev pub waiting_steps : Emission → ℕ → List Step
waiting_steps x j = steps_in (slice_get x.bodies j)
