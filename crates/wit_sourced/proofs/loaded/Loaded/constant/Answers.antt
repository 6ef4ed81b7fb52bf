use Rattle.std.specs.Prelude.{map}
use Rattle.wit_lower.specs.Homes.{Variable}
use Rattle.wit_sourced.specs.Loads.{source_of}
use Rattle.wit_sourced.proofs.Constants.{last_constant}
use Rattle.wit_sourced.proofs.loaded.Loaded.constant.Goals as goal

pub loop-source-init : goal.loop-source-init
loop-source-init c =
    last_constant (Variable c.args.n) (map source_of c.args.self.now.sources.now.list)
    c.args.element
