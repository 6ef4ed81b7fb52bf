use Rattle.std.proofs.Common.{◌≡◌, drop}
use Rattle.std.specs.Prelude.{map}
use Rattle.wit_lower.specs.Sources as R
use Rattle.wit_sourced.specs.Loads.{source_of}
use Rattle.wit_sourced.specs.Told.{AreTold}
use Rattle.wit_sourced.proofs.reads.Reads.of.Given as goal

abbrev pub invariant-loop-source : goal.invariant-loop-source
invariant-loop-source l =
    AreTold l.places l.cells
    × (R.cells_from l.cells (map source_of (drop l.source-index l.list))
    ≡ R.cells_read (map source_of l.list))
