-- What the code of this crate stands for.
use Rattle.std.specs.Prelude.{List, [], map}
use Rattle.std.specs.Option.{option_copied}
use Rattle.wit_lower.specs.Homes as L
use Rattle.wit_lower.specs.Known.{number_known}
use Rattle.wit_lower.specs.Sources as R
use Rattle.cir_emit.specs.Reads as E
use Rattle.wit_sourced.specs.Loaded.{called_in, changed_of, components_in}
use Rattle.wit_sourced.specs.Loads.{shape_of, source_of}
use Rattle.wit_sources.specs.declared.found.Found.{Found}
use Rattle.wit_sources.specs.declared.setting.Setting.{Setting}
use Rattle.wit_sources.specs.Given.{Offer, Seen, Reads}

abbrev pub shapes_in : Found → List R.Shape
shapes_in f = map shape_of f.sources.named.now.shapes

abbrev pub seen : Found → Seen
seen f = record { list = map source_of f.sources.list; whole = f.is_whole }

abbrev pub homes_of : List R.Shape → L.Homes
homes_of shapes = (R.homes_from shapes record { homes = []; top = 0 }).homes

abbrev pub homes_in : Found → L.Homes
homes_in f = homes_of (shapes_in f)

-- what is known over a list of sources
abbrev pub sources_with : Setting → List R.Shape → List R.Source → R.Sources
sources_with s shapes list = record {
  shapes = shapes;
  components = components_in s.components.now;
  called = called_in s.calls.now;
  list = list;
}

abbrev pub ground_with : Setting → List R.Shape → List R.Source → L.Ground
ground_with s shapes list = record {
  keys = [];
  known = number_known (sources_with s shapes list) (changed_of (option_copied s.changed));
  called = called_in s.calls.now;
  components = components_in s.components.now;
}

-- what is read over the sources that are there then
abbrev pub Collects : Setting → Offer → (one two : Found)
    → (L.Ground → L.Homes → List E.Reading) → Type 0
Collects s offer one two reads =
    Reads (homes_in one) offer (seen one) (seen two)
    (reads (ground_with s (shapes_in one) (seen two).list) (homes_in one))
