-- The arrays of a step, as they stand in the frame and the cells.
use Rattle.std.specs.Prelude.{◌≡◌, ◌==◌, ℕ, Bool, true, false, nat_lt, if◌then◌else◌, List, []}
use Rattle.std.specs.Prelude.{◌∷◌, length, map, Option, Some, None, Ok, not, slice_get, option_map}
use Rattle.std.specs.Prelude.{is_some}
use Rattle.std.specs.List.{AllByRecursion}
use Rattle.cir_arrays.specs.Shown.{datum_of}
use Rattle.cir_meaning.specs.Limits.{is_too_large}
use Rattle.cir_meaning.specs.Arrays.{Datum, Shaped}
use Rattle.cir_meaning.specs.Values.{Value}
use Rattle.cir_meaning.specs.Frame.{ComponentEntry, Part, State, entry_at, is_inner}
use Rattle.cir_meaning.specs.Reading.{find_signal}
use Rattle.cir_meaning.specs.Run.{Wires, RunPart, component_signal, entry_wires, found_port}
use Rattle.cir_frame.specs.declared.frame.Frame.{Frame}
use Rattle.cir_frame.specs.Shown.{component_of, part_of, signals_of}
use Rattle.cir_steps.specs.Step as S
use Rattle.cir_steps.specs.Step.{source_of, sources_of, variable_sources}
use Rattle.cir_steps.specs.RunSteps.{shaped_map}
use Rattle.cir_emit.specs.Lowered.{IsIn, cell_input, source_input}
use Rattle.cir_emit.specs.Sourced.{AreSized, IsThere}
use Rattle.wit_lower.specs.Homes.{Name, Variable, Signal, Port, same_name, slots_of}
use Rattle.wit_lower.specs.Sources.{Input, Shape}
use Rattle.wit_lower.specs.Steps.{IsBelow}
use Rattle.wit_sourced.specs.declared.names.Key.{Key}
use Rattle.wit_sourced.specs.Named.{key_of, sought_name}
use Rattle.cir_make.specs.declared.arrays.Stands.{Stands}
use Rattle.cir_make.specs.declared.arrays.Stands.TheVariants as stands
use Rattle.cir_make.specs.declared.arrays.StepArray.{StepArray}
use Rattle.cir_make.specs.declared.cells.Cells.{Cells}
use Rattle.cir_make.specs.declared.make.Before.{Before}
use Rattle.cir_make.specs.Cells.{cell_in, source_by, wires_by}
use Rattle.cir_make.specs.Shows.{AreSourced, HavePorts, SameWires, source_in}
use Rattle.cir_make.specs.Steps.{put_before}

-- where an element has its number from
abbrev pub stored_at : Option Value → S.Source → Option Input
stored_at None x = None
stored_at (Some v) x = source_input (source_of v x)

abbrev pub input_at : Stands → ℕ → Option Input
input_at (stands.Stored d xs) k =
    stored_at (slice_get (datum_of d.now).items k) (source_in (map source_by xs.now) k)
input_at (stands.Wired rows count) k =
    if nat_lt k count then cell_input (cell_in rows.now k) else None

-- it stands for an array
pub record IsArray (array : Shaped (Option Input)) (a : StepArray) : Type 0 where
  pub dims : array.dims ≡ a.dims.now
  pub count : length array.items ≡ slots_of a.dims.now
  pub each : (k : ℕ) (i : Input) → input_at a.stands k ≡ Some i
      → slice_get array.items k ≡ Some (Some i)
  pub small : is_too_large a.dims.now ≡ false

-- for the one that its name is in the step
pub record IsArrayOf (step : S.Step) (components : ℕ → List ℕ) (a : StepArray) : Type 0 where
  pub array : Shaped (Option Input)
  pub is : IsIn step components (sought_name a.name) array
  pub stands : IsArray array a
  pub below : IsBelow (length step.variables) (sought_name a.name)

-- a variable with where its elements come from
abbrev pub sourced_by : Datum → List S.Source → Shaped (Option Input)
sourced_by d xs = shaped_map source_input record { dims = d.dims; items = sources_of d.items xs }

-- the value of a variable, where variables had other values before
abbrev pub value_behind : List Before → ℕ → Datum → Datum
value_behind [] n d = d
value_behind (b ∷ bs) n d =
    value_behind bs n (if b.variable == n then datum_of b.value else d)

abbrev pub values_in : Frame → List Before → List Datum
values_in f befores = put_before befores (map datum_of f.variables.items)

-- what the names of a step mean stands in the frame and the cells
pub record StandsIn (f : Frame) (c : Cells) (befores : List Before) (step : S.Step)
    : Type 0 where
  pub sources : List (List S.Source)
  pub variables : step.variables ≡ variable_sources (values_in f befores) sources
  pub sourced : AreSourced (values_in f befores) sources c.variables.items
  pub own : Wires
  pub own_cells : SameWires own (wires_by c.signals.items)
  pub signal : (n : ℕ) → step.names.signal n
      ≡ entry_wires own n (entry_at (signals_of f.signals.items) n)
  pub state : State
  pub state_parts : state.frame.parts ≡ map part_of f.parts.items
  pub parts : List RunPart
  pub ports : HavePorts parts c.parts.items
  pub part : (n : ℕ) (indices name : List ℕ) → step.names.part n indices name
      ≡ component_signal state parts
      (entry_at (map (option_map component_of) f.components.items) n) indices name

-- the dimensions of arrays of components
pub record IsSizedBy (f : Frame) (components : ℕ → List ℕ) : Type 0 where
  pub there : (n : ℕ) (c : ComponentEntry)
      → entry_at (map (option_map component_of) f.components.items) n ≡ Some c
      → components n ≡ c.dims
  pub none : (n : ℕ)
      → entry_at (map (option_map component_of) f.components.items) n ≡ None → components n ≡ []

-- the input or output of a component, as the meaning has it
pub record IsPortOf (n element : ℕ) (name : List ℕ) (p : Part) (wires : Wires) (a : StepArray)
    : Type 0 where
  pub named : sought_name a.name ≡ Port n element name
  pub wired : Shaped (Option ℕ)
  pub found : found_port wires
      (find_signal (λ e. not (is_inner e.direction)) name 0 p.signals) ≡ Ok wired
  pub stands : IsArray (shaped_map cell_input wired) a

-- what its name is looked up by
abbrev pub array_key : StepArray → Key
array_key a = key_of (sought_name a.name)

-- the array of a name; the last of several counts
abbrev pub last_named : Name → List StepArray → Option StepArray → Option StepArray
last_named x [] found = found
last_named x (a ∷ rest) found =
    last_named x rest (if same_name x (sought_name a.name) then Some a else found)

abbrev pub found_input : Option StepArray → ℕ → Option Input
found_input None k = None
found_input (Some a) k = input_at a.stands k

-- where an element of a name has its number from
abbrev pub input_in : List StepArray → Name → ℕ → Option Input
input_in arrays x k = found_input (last_named x arrays None) k

abbrev pub shape_by : StepArray → Shape
shape_by a = record { name = sought_name a.name; dims = a.dims.now }

-- all are arrays of each step that stands there
abbrev pub AreArrays : Frame → Cells → List Before → List StepArray → Type 0
AreArrays f c befores arrays =
    (step : S.Step) (components : ℕ → List ℕ) → StandsIn f c befores step → IsSizedBy f components
    → AllByRecursion (IsArrayOf step components) arrays

-- which names have an array where a step stands
abbrev pub is_signal : Option Part → (name : List ℕ) → Bool
is_signal None name = false
is_signal (Some p) name =
    is_some (find_signal (λ e. not (is_inner e.direction)) name 0 p.signals)

abbrev pub is_part : List Part → Option ℕ → (name : List ℕ) → Bool
is_part parts None name = false
is_part parts (Some j) name = is_signal (slice_get parts j) name

abbrev pub part_at : Option ComponentEntry → (element : ℕ) → Option ℕ
part_at None k = None
part_at (Some c) k = entry_at c.parts k

abbrev pub is_there : Frame → Name → Bool
is_there f (Variable n) = nat_lt n (length f.variables.items)
is_there f (Signal n) = is_some (entry_at (signals_of f.signals.items) n)
is_there f (Port n k name) =
    is_part (map part_of f.parts.items)
    (part_at (entry_at (map (option_map component_of) f.components.items) n) k) name

-- they are all that the step has
pub record AreArraysOf (f : Frame) (step : S.Step) (components : ℕ → List ℕ)
    (arrays : List StepArray) : Type 0 where
  pub each : AllByRecursion (IsArrayOf step components) arrays
  pub sized : AreSized step components
  pub there : (x : Name) → IsThere step components x → is_there f x ≡ true
