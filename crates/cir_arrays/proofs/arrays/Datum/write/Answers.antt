use Rattle.std.proofs.Common.{◌∙◌}
use Rattle.cir_arrays.specs.Shown.{datum_of}
use Rattle.cir_arrays.proofs.Writes.{known_write}
use Rattle.cir_arrays.proofs.arrays.Datum.write.Goals as goal

pub returns-in-Known : goal.returns-in-Known
returns-in-Known c =
    λ indices m r. c.put.ensures ∙ known_write c.args.self.now (datum_of c.args.new) indices
    c.args.reach.now c.in-Known.first c.in-Known.count m c.in-Known.is r
