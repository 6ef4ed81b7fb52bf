-- What the sources of a task tell.
use Rattle.std.specs.Prelude.{◌≡◌, ◌<◌, List, Some}
use Rattle.std.specs.List.{AllByRecursion}
use Rattle.cir_meaning.specs.Costs.{Made}
use Rattle.wit_lower.specs.Homes.{Home, find, slots_of}
use Rattle.wit_lower.specs.Sources.{Input, Sources, scope_of, input_of}
use Rattle.wit_lower.specs.Tasks.{Task, step_ground}
use Rattle.cir_emit.specs.Reads.{Reading, task_reads}
use Rattle.cir_emit.specs.Sourced.{StandsFor}
use Rattle.wit_sources.specs.Given.{Offer}

abbrev pub reads_of : List Made → Sources → Task → List Reading
reads_of keys sources task =
    task_reads (step_ground keys sources task) (scope_of sources).homes task

abbrev pub AreFew : Sources → List Reading → Type 0
AreFew sources reads = AllByRecursion (StandsFor sources.list reads) sources.list

-- an element of an array with a home that is offered has that source
abbrev pub HasOffered : Offer → Sources → Reading → Type 0
HasOffered offer sources r =
    (h : Home) (i : Input) → find r.name (scope_of sources).homes ≡ Some h
    → r.element < slots_of h.dims → offer r.name r.element ≡ Some i
    → input_of r.name sources.list r.element ≡ Some i
