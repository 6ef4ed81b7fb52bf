-- What the code's signals, components, frames and worlds stand for.
use Rattle.std.specs.Prelude.{◌≡◌, ℕ, List, map, Option, option_map}
use Rattle.cir_ast.specs.declared.operators.Direction.{Direction}
use Rattle.cir_meaning.specs.Bodies.{numbered_others}
use Rattle.cir_meaning.specs.Compile.{group_size, main_group}
use Rattle.cir_meaning.specs.Source.{Equation}
use Rattle.cir_meaning.specs.Limits.{Counts}
use Rattle.cir_meaning.specs.Frame as M
use Rattle.cir_arrays.specs.Counted.{counts_of}
use Rattle.cir_arrays.specs.Shown.{datum_of}
use Rattle.cir_frame.specs.declared.signal.SignalEntry.{SignalEntry}
use Rattle.cir_frame.specs.declared.frame.Part.{Part}
use Rattle.cir_frame.specs.declared.frame.ComponentEntry.{ComponentEntry}
use Rattle.cir_frame.specs.declared.frame.Frame.{Frame}
use Rattle.cir_frame.specs.declared.world.Group.{Group}
use Rattle.cir_frame.specs.declared.world.Group.TheVariants as group
use Rattle.cir_frame.specs.declared.world.Grouping.{Grouping}
use Rattle.cir_frame.specs.declared.world.Grouping.TheVariants as grouping
use Rattle.cir_frame.specs.declared.world.Sizes.{Sizes}
use Rattle.cir_frame.specs.declared.world.Row.{Row}
use Rattle.cir_frame.specs.declared.world.World.{World}

abbrev pub signal_of : SignalEntry → M.SignalEntry
signal_of e = record {
  name = e.name;
  direction = e.direction;
  spot = e.spot;
  dims = e.dims.items;
  first = e.first;
  written = e.written.items;
}

abbrev pub signals_of : List (Option SignalEntry) → M.Signals
signals_of = map (option_map signal_of)

-- how many inputs aren't written is for the code alone
abbrev pub part_of : Part → M.Part
part_of p = record {
  spot = p.spot;
  template = p.template;
  signals = signals_of p.signals.items;
}

-- and so is the first element that is created
abbrev pub component_of : ComponentEntry → M.ComponentEntry
component_of c = record { name = c.name; dims = c.dims.items; parts = c.parts.items }

-- the frame, with what is added to the counts
abbrev pub frame_of : Frame → Counts → M.Frame
frame_of f added = record {
  variables = map datum_of f.variables.items;
  signals = signals_of f.signals.items;
  components = map (option_map component_of) f.components.items;
  parts = map part_of f.parts.items;
  added = added;
}

abbrev pub group_of : Group → M.Group
group_of group.Outputs = M.Outputs
group_of group.PublicInputs = M.PublicInputs
group_of group.PrivateInputs = M.PrivateInputs
group_of group.Others = M.Others

-- the groups to which declarations come
abbrev pub group_by : Grouping → Direction → List ℕ → M.Group
group_by (grouping.Main names) = main_group names.now
group_by grouping.Inside = numbered_others

-- a context of the meaning in which a signal is declared so
pub record Declares (grouping : Grouping) (instance : ℕ) (k : M.Context) : Type 0 where
  pub size : k.group_size ≡ group_size
  pub group : k.group ≡ group_by grouping
  pub same_instance : k.instance ≡ instance

abbrev pub sizes_of : Sizes → M.Sizes
sizes_of s = record {
  outputs = s.outputs;
  public_inputs = s.public_inputs;
  private_inputs = s.private_inputs;
  others = s.others;
}

abbrev pub row_of : Row → M.Row
row_of r = record {
  group = group_of r.group;
  instance = r.instance;
  name = r.name;
  dims = r.dims.items;
}

-- the world whose equations these are: the code keeps their normal constraints alone
abbrev pub world_of : World → List Equation → M.World
world_of w es = record {
  rows = map row_of w.rows.items;
  sizes = sizes_of w.sizes;
  equations = es;
  instances = w.instances.items;
  counts = counts_of w.counts;
}

abbrev pub state_of : Frame → World → List Equation → M.State
state_of f w es = record { frame = frame_of f (counts_of w.added); world = world_of w es }
