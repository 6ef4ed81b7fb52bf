use Rattle.std.proofs.Common.{◌∙◌, ap}
use Rattle.cir_lc.specs.Number.{added, value_of}
use Rattle.cir_lc.proofs.Values.{scaled-one}
use Rattle.cir_lc.proofs.sums.add.Goals as goal

pub returns-clause-value : goal.returns-clause-value
returns-clause-value c =
    c.in_ok-f.ensures.value ∙ ap (added (value_of c.args.a.now)) (scaled-one c.args.b.now)
