-- The ground of a task, where the variables that the task changes are told.
use Rattle.std.specs.Prelude.{ℕ, List}
use Rattle.cir_meaning.specs.Costs.{Made}
use Rattle.wit_lower.specs.Homes.{Ground}
use Rattle.wit_lower.specs.Known.{number_known}
use Rattle.wit_lower.specs.Sources.{Sources}

abbrev pub ground_by : List Made → Sources → (changed : List ℕ) → Ground
ground_by keys sources changed = record {
  keys = keys;
  known = number_known sources changed;
  called = sources.called;
  components = sources.components;
}
