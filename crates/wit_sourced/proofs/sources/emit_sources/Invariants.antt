use Rattle.std.proofs.Common.{◌≡◌, ◌++◌, drop}
use Rattle.std.specs.Prelude.{map}
use Rattle.wit_lower.specs.Sources as R
use Rattle.wit_sourced.specs.Loads.{source_of}
use Rattle.wit_sourced.specs.Shown.{homes_of}
use Rattle.wit_sourced.proofs.sources.emit_sources.Given as goal

abbrev pub invariant-loop-source : goal.invariant-loop-source
invariant-loop-source l =
    l.code ++ R.sources_code l.reads.cells (homes_of l.scope.homes.items)
    (map source_of (drop l.source-index l.list))
    ≡ l.initial.code ++ R.sources_code l.reads.cells (homes_of l.scope.homes.items)
    (map source_of l.list)
