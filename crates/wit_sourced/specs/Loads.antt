-- What a step reads, as the code has it.
use Rattle.wit_lower.specs.Sources as R
use Rattle.wit_sourced.specs.declared.sources.Input.{Input}
use Rattle.wit_sourced.specs.declared.sources.Input.TheVariants as input
use Rattle.wit_sourced.specs.declared.sources.Shape.{Shape}
use Rattle.wit_sourced.specs.declared.sources.Source.{Source}
use Rattle.wit_sourced.specs.Shown.{sought_name}

abbrev pub shape_of : Shape → R.Shape
shape_of s = record { name = sought_name s.name; dims = s.dims.now }

abbrev pub input_of : Input → R.Input
input_of (input.Constant n) = R.Constant n
input_of (input.Cell c) = R.Cell c

abbrev pub source_of : Source → R.Source
source_of s = record { name = sought_name s.name; element = s.element; input = input_of s.input }
