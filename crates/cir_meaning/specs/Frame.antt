-- What the execution of one body keeps, its frame, and what the whole program keeps, the world.
-- Variables, signals and components stand by the number of their declaration.
use Rattle.std.specs.Prelude.{ℕ, zero, suc, ◌+◌, ◌*◌, Bool, true, false, ◌&&◌, if◌then◌else◌, List}
use Rattle.std.specs.Prelude.{[], ◌∷◌, ◌++◌, replicate, Option, Some, None, Ok, slice_get}
use Rattle.std.specs.Prelude.{unwrap_or, is_some}
use Rattle.std.specs.List.{list_all}
use Rattle.cir_ast.specs.declared.program.Spot.{Spot}
use Rattle.cir_ast.specs.declared.operators.Direction.{Direction}
use Rattle.cir_ast.specs.declared.operators.Direction.TheVariants.{Inner, Input, Output}
use Rattle.cir_ast.specs.Program.{Program}
use Rattle.cir_lc.specs.Number.{signal}
use Rattle.cir_meaning.specs.Tried.{Where, Tried, next}
use Rattle.cir_meaning.specs.Limits.{Counts, nothing, count_sum, plus, limits, tested}
use Rattle.cir_meaning.specs.Arrays.{Datum, single}
use Rattle.cir_meaning.specs.Values.{Value, Known, Linear}
use Rattle.cir_meaning.specs.Source.{Equation}

-- a signal that is declared: the number of its first element, and which elements are written
pub record SignalEntry : Type 0 where
  pub name : List ℕ
  pub direction : Direction
  pub spot : Spot
  pub dims : List ℕ
  pub first : ℕ
  pub written : List Bool

abbrev pub Signals : Type 0
Signals = List (Option SignalEntry)

-- a component that is created: where, its template, and the signals that it has declared; its
-- inputs are written by its parent
pub record Part : Type 0 where
  pub spot : Spot
  pub template : ℕ
  pub signals : Signals

-- a component that is declared: each element names its part once it is created
pub record ComponentEntry : Type 0 where
  pub name : List ℕ
  pub dims : List ℕ
  pub parts : List (Option ℕ)

-- the parts stand in order of creation; what the statement at hand adds to the counts isn't counted
-- yet
pub record Frame : Type 0 where
  pub variables : List Datum
  pub signals : Signals
  pub components : List (Option ComponentEntry)
  pub parts : List Part
  pub added : Counts

-- the groups in which the signals are numbered
pub data Group : Type 0 where
  Outputs : Group
  PublicInputs : Group
  PrivateInputs : Group
  Others : Group

pub record Sizes : Type 0 where
  pub outputs : ℕ
  pub public_inputs : ℕ
  pub private_inputs : ℕ
  pub others : ℕ

-- a declared signal in the table of all signals
pub record Row : Type 0 where
  pub group : Group
  pub instance : ℕ
  pub name : List ℕ
  pub dims : List ℕ

-- rows, equations and the paths of the instances stand in order of creation
pub record World : Type 0 where
  pub rows : List Row
  pub sizes : Sizes
  pub equations : List Equation
  pub instances : List (List ℕ)
  pub counts : Counts

pub record State : Type 0 where
  pub frame : Frame
  pub world : World

-- a function called with known arguments, and a template made into a component of this path: its
-- signals
abbrev pub Caller : Type 0
Caller = Where → ℕ → List Datum → World → Tried (Datum × World)

abbrev pub Maker : Type 0
Maker = Where → ℕ → List Datum → List ℕ → World → Tried (Signals × World)

-- what stays the same while a body is executed. A group has room for fewer than `group_size`
-- signals. There is no `make` where no further template may be opened.
pub record Context : Type 0 where
  pub program : Program
  pub group_size : ℕ
  pub file : ℕ
  pub instance : ℕ
  pub path : List ℕ
  pub group : Direction → List ℕ → Group
  pub named_components : ℕ
  pub call : Caller
  pub make : Option Maker

abbrev pub at : Context → Spot → Where
at k spot = record { file = k.file; spot = spot; instance = k.instance; path = k.path }

-- signal 0 and all signals of the four groups have numbers below
abbrev pub all_numbers : Context → ℕ
all_numbers k = 4 * k.group_size

-- the first number of a group, less 1
abbrev pub before_group : ℕ → Group → ℕ
before_group size Outputs = 0
before_group size PublicInputs = size
before_group size PrivateInputs = 2 * size
before_group size Others = 3 * size

abbrev pub size_in : Group → Sizes → ℕ
size_in Outputs s = s.outputs
size_in PublicInputs s = s.public_inputs
size_in PrivateInputs s = s.private_inputs
size_in Others s = s.others

abbrev pub more_in : Group → ℕ → Sizes → Sizes
more_in Outputs n s = record s { outputs = count_sum s.outputs n }
more_in PublicInputs n s = record s { public_inputs = count_sum s.public_inputs n }
more_in PrivateInputs n s = record s { private_inputs = count_sum s.private_inputs n }
more_in Others n s = record s { others = count_sum s.others n }

abbrev pub next_number : Context → Group → World → ℕ
next_number k group world = 1 + before_group k.group_size group + size_in group world.sizes

abbrev pub is_input : Direction → Bool
is_input Inner = false
is_input Input = true
is_input Output = false

abbrev pub is_inner : Direction → Bool
is_inner Inner = true
is_inner Input = false
is_inner Output = false

-- elements of an array that wasn't made, as it is too large, need no write
abbrev pub is_written : SignalEntry → ℕ → Bool
is_written e k = unwrap_or (slice_get e.written k) true

abbrev pub is_all_written : SignalEntry → Bool
is_all_written e = list_all (λ b. b) e.written

abbrev pub signal_item : SignalEntry → ℕ → Value
signal_item e k = if is_some (slice_get e.written k) then Linear (signal (e.first + k)) else Known 0

-- all inputs are written
abbrev pub is_fed : Signals → Bool
is_fed [] = true
is_fed (None ∷ rest) = is_fed rest
is_fed (Some e ∷ rest) = (if is_input e.direction then is_all_written e else true) && is_fed rest

-- at a place that may lie behind the end
abbrev pub put_at : {A : Type 0} → ℕ → A → List (Option A) → List (Option A)
put_at zero a [] = Some a ∷ []
put_at zero a (x ∷ xs) = Some a ∷ xs
put_at (suc n) a [] = None ∷ put_at n a []
put_at (suc n) a (x ∷ xs) = x ∷ put_at n a xs

abbrev pub entry_at : {A : Type 0} → List (Option A) → ℕ → Option A
entry_at entries n = unwrap_or (slice_get entries n) None

abbrev pub variable_at : Frame → ℕ → Datum
variable_at f n = unwrap_or (slice_get f.variables n) (single (Known 0))

-- a body begins with its parameters; the other variables, the signals and the components aren't
-- declared yet
abbrev pub begun : List Datum → (variables signals components : ℕ) → Frame
begun arguments variables signals components = record {
  variables = arguments ++ replicate variables (single (Known 0));
  signals = replicate signals None;
  components = replicate components None;
  parts = [];
  added = nothing;
}

abbrev pub in_frame : (Frame → Frame) → State → State
in_frame change s = record s { frame = change s.frame }

abbrev pub adding : (Counts → Counts) → State → State
adding change s = in_frame (λ f. record f { added = change f.added }) s

-- what was added is counted, and the limits are tested
abbrev pub settle : Where → State → Tried State
settle w s = next (tested limits w (plus s.world.counts s.frame.added)) (λ c.
    Ok record {
      frame = record (s.frame) { added = nothing };
      world = record (s.world)
          { counts = record c { elements = 0 } };
    })

abbrev pub one_statement : Counts → Counts
one_statement c = record c { statements = count_sum c.statements 1 }

-- a statement or a turn is counted
abbrev pub counted : Where → State → Tried State
counted w s = settle w (adding one_statement s)

-- the same state with nothing counted, where a value is asked for once more
abbrev pub uncounted : State → State
uncounted s =
    record {
      frame = record (s.frame) { added = nothing };
      world = record (s.world)
          { counts = nothing };
    }
