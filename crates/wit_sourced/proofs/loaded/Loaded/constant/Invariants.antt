use Rattle.std.proofs.Common.{◌≡◌, drop}
use Rattle.std.specs.Prelude.{map}
use Rattle.wit_lower.specs.Homes.{Variable}
use Rattle.wit_lower.specs.Known.{constant_of}
use Rattle.wit_lower.specs.Sources.{input_of}
use Rattle.wit_sourced.specs.Loads.{source_of}
use Rattle.wit_sourced.proofs.Constants.{constant_from}
use Rattle.wit_sourced.proofs.loaded.Loaded.constant.Given as goal

abbrev pub invariant-loop-source : goal.invariant-loop-source
invariant-loop-source l =
    constant_from l.found (Variable l.n)
    (map source_of (drop l.source-index l.self.sources.now.list)) l.element
    ≡ constant_of (input_of (Variable l.n) (map source_of l.self.sources.now.list) l.element)
