-- The steps that statements make, and what is behind them.
use Rattle.std.specs.Prelude.{ℕ, ◌+◌, not, ◌&&◌, Bool, if◌then◌else◌, List, [], ◌∷◌, ◌++◌, map}
use Rattle.std.specs.Prelude.{filter, length, Option, Some, None, Ok, slice_get}
use Rattle.cir_ast.specs.declared.program.Spot.{Spot}
use Rattle.cir_ast.specs.declared.program.Meant.{Meant}
use Rattle.cir_ast.specs.Tree.{Expr, Accessors, Assign, LogArgument, Words, LogValue, Statement}
use Rattle.cir_meaning.specs.Tried.{Where, Tried, next}
use Rattle.cir_meaning.specs.Places.{numbers_from}
use Rattle.cir_meaning.specs.Arrays.{Datum, item_at, is_known, put_items}
use Rattle.cir_meaning.specs.Values.{Value}
use Rattle.cir_meaning.specs.Frame.{Part, World, State, Context, is_fed, variable_at}
use Rattle.cir_meaning.specs.Writing.{VariableAssignment, write_variable, SignalAssignment}
use Rattle.cir_meaning.specs.Declaring.{Creation}
use Rattle.cir_meaning.specs.Steps.{variable_cost, signal_cost, equal_cost, assert_cost, log_cost}
use Rattle.cir_meaning.specs.Steps.{logged_cells, undecided_cost}
use Rattle.cir_meaning.specs.Unknown.{outer_assigned}
use Rattle.cir_meaning.specs.Run.{Wires, Table}
use Rattle.cir_meaning.specs.RunSimple.{waiting}
use Rattle.cir_steps.specs.Step.{Source, Cell, sources_of, listed, put_sources, Elements, Valuing}
use Rattle.cir_steps.specs.Step.{Assigning, Comparing, Asserting, Logging, Deciding, LogPart, Text}
use Rattle.cir_steps.specs.Step.{Logged, Step}
use Rattle.cir_steps.specs.Emission.{Emission, Emitted, with_state, known_in, wire_cell, ports_of}
use Rattle.cir_steps.specs.Emission.{step_of, waiting_steps}

-- what a body gives whose steps are made: the cells of its signals, and of those in it
pub record Cast : Type 0 where
  pub own : Wires
  pub inside : List Table
  pub steps : List Step
  pub next : ℕ

-- a template whose steps are made, from a cell on
abbrev pub Caster : Type 0
Caster = Where → ℕ → List Datum → List ℕ → World → (next : ℕ) → Tried Cast

-- what stays the same while the steps of a body are made
pub record Emitting : Type 0 where
  pub context : Context
  pub cast : Caster

abbrev pub made : Step → Emission → Tried Emitted
made step x = Ok record { state = x; steps = step ∷ [] }

-- the elements that an assignment writes and that aren't known behind it have new cells
abbrev pub written_places : ℕ → VariableAssignment → List ℕ
written_places n a = if a.reach.is_sure then a.reach.places else numbers_from 0
    (length (variable_at a.state.frame n).items)

abbrev pub new_places : ℕ → VariableAssignment → List ℕ
new_places n a =
    filter (λ k. not (is_known (item_at (variable_at (write_variable n a).frame n).items k)))
    (written_places n a)

-- the others have the numbers that they have before it, or are known behind it
abbrev pub settled_sources : State → Emission → ℕ → List Source
settled_sources s x n =
    sources_of (variable_at s.frame n).items
    (sources_of (variable_at (known_in x).frame n).items (listed x.sources n))

abbrev pub with_cells : (n : ℕ) → (places : List ℕ) → State → Emission → Emission
with_cells n places s x = record x {
  cells = record (x.cells) { known = s };
  sources = put_sources n (put_items places (map (λ c. Cell c)
      (numbers_from x.next (length places))) (settled_sources s x n)) x.sources;
  next = x.next + length places;
}

abbrev pub make_assignment : Context → Where → (written : Assign Meant) → ℕ → Accessors Meant
    → Expr Meant → VariableAssignment → State → Emission → Tried Emitted
make_assignment k w written n accessors e a s x =
    made (step_of k w (known_in x) (variable_cost k w written n accessors e a (known_in x))
    (Assigning n accessors e (new_places n a)) (numbers_from x.next (length (new_places n a))) None
    x) (with_cells n (new_places n a) s x)

-- an element of a signal is written where there is a value for it, and has its cell already
abbrev pub written_elements : (places : List ℕ) → List Value → List ℕ
written_elements [] vs = []
written_elements (place ∷ places) [] = []
written_elements (place ∷ places) (v ∷ vs) = place ∷ written_elements places vs

abbrev pub signal_targets : SignalAssignment → Emission → List ℕ
signal_targets a x =
    map (wire_cell (ports_of a.target.part x) a.target.number)
    (written_elements a.target.reach.places a.value.items)

abbrev pub wiring : Context → Where → (written : Assign Meant) → Accessors Meant → Expr Meant
    → SignalAssignment → Emission → Step
wiring k w written accessors e a x =
    step_of k w (known_in x) (signal_cost k w written accessors e (known_in x)) (Valuing e)
    (signal_targets a x) None x

-- where a component is fed, and wasn't before, its steps follow
abbrev pub freed : (j : ℕ) → (was_fed : Bool) → Option Part → Emission → List Step
freed j was_fed None x = []
freed j was_fed (Some p) x =
    if not was_fed && is_fed p.signals then waiting_steps x j else []

abbrev pub freed_at : Option ℕ → (was_fed : Bool) → Emission → List Step
freed_at None was_fed x = []
freed_at (Some j) was_fed x = freed j was_fed (slice_get (known_in x).frame.parts j) x

-- a component with its cells, whose steps wait
abbrev pub with_cast : Context → Where → Creation → Cast → State → Emission → Emission
with_cast k w c o s x = record {
  cells = record (x.cells) {
    known = s;
    parts = x.cells.parts ++ record (waiting k w c) { ports = o.own; inside = o.inside } ∷ [];
  };
  sources = x.sources;
  bodies = x.bodies ++ o.steps ∷ [];
  next = o.next;
}

-- a log line's values have new cells
abbrev pub log_parts : (next : ℕ) → List (LogArgument Meant) → List LogPart
log_parts next [] = []
log_parts next (Words text ∷ rest) = Text text ∷ log_parts next rest
log_parts next (LogValue e ∷ rest) = Logged next ∷ log_parts (next + 1) rest

abbrev pub make_line : Context → Where → List (LogArgument Meant) → State → Emission
    → Tried Emitted
make_line k w arguments s x =
    made (step_of k w (known_in x) (log_cost k w arguments (known_in x)) (Logging arguments)
    (numbers_from x.next (logged_cells arguments)) (Some (log_parts x.next arguments)) x)
    (record (with_state s x) { next = x.next + logged_cells arguments })

-- the outer variables that a statement may assign have new cells behind it
abbrev pub wanted_of : List ℕ → State → List Elements
wanted_of ns s =
    map (λ n. record { variable = n; count = length (variable_at s.frame n).items }) ns

abbrev pub new_variables : List Elements → (next : ℕ) → List (List Source) → List (List Source)
new_variables [] next xs = xs
new_variables (e ∷ es) next xs =
    new_variables es (next + e.count)
    (put_sources e.variable (map (λ c. Cell c) (numbers_from next e.count)) xs)

abbrev pub count_of : List Elements → ℕ
count_of [] = 0
count_of (x ∷ xs) = x.count + count_of xs

abbrev pub with_variables : List Elements → State → Emission → Emission
with_variables wanted s x = record x {
  cells = record (x.cells) { known = s };
  sources = new_variables wanted x.next x.sources;
  next = x.next + count_of wanted;
}

abbrev pub make_decision : Context → Where → Statement Spot Meant → State → Emission
    → Tried Emitted
make_decision k w a s x =
    made (step_of k w s (undecided_cost k w a (known_in x) s)
    (Deciding a (wanted_of (outer_assigned a) (known_in x)))
    (numbers_from x.next (count_of (wanted_of (outer_assigned a) (known_in x)))) None x)
    (with_variables (wanted_of (outer_assigned a) (known_in x)) s x)

abbrev pub make_comparison : Context → Where → Expr Meant → Expr Meant → State → Emission
    → Tried Emitted
make_comparison k w a b s x =
    made (step_of k w (known_in x) (equal_cost k w a b (known_in x)) (Comparing a b) [] None x)
    (with_state s x)

abbrev pub make_assertion : Context → Where → Expr Meant → State → Emission → Tried Emitted
make_assertion k w e s x =
    made (step_of k w (known_in x) (assert_cost k w e (known_in x)) (Asserting e) [] None x)
    (with_state s x)
