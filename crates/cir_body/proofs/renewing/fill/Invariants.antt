use Rattle.std.proofs.Common.{◌≡◌, map}
use Rattle.cir_make.specs.Cells.{source_by}
use Rattle.cir_body.specs.Renewed.{cells_from}
use Rattle.cir_body.proofs.renewing.fill.Given as goal

abbrev pub invariant-loop-at : goal.invariant-loop-at
invariant-loop-at l = map source_by l.sources.items ≡ cells_from l.first l.at
