use Rattle.std.proofs.Common.{List, ◌∙◌, ap, map}
use Rattle.cir_make.specs.Cells.{source_by}
use Rattle.cir_make.specs.Shows.{source_in}
use Rattle.cir_make.specs.declared.cells.Source.{Source}
use Rattle.cir_write.proofs.CodeSources.{source_longer}
use Rattle.cir_write.proofs.assigning.lengthen.Goals as goal

pub loop-at-preserved : goal.loop-at-preserved
loop-at-preserved c = λ k.
    ap (λ (l : List Source). source_in (map source_by l) k) c.in_ok-push.ensures.items
    ∙ source_longer c.loop-at.sources.items k
    ∙ c.loop-at.invariant k
