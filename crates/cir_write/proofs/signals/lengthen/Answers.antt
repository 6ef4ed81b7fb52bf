use Rattle.std.proofs.Common.{List, ◌∙◌, ap, sym}
use Rattle.std.specs.declared.vec.Vec.{Vec}
use Rattle.std.specs.declared.alloc.Global.{Global}
use Rattle.cir_make.specs.Cells.{wires_by}
use Rattle.cir_make.specs.declared.cells.Run.{Run}
use Rattle.cir_write.proofs.Wires.{wires_longer}
use Rattle.cir_write.proofs.signals.lengthen.Goals as goal

pub loop-at-preserved : goal.loop-at-preserved
loop-at-preserved c = λ own same n k.
    c.loop-at.invariant own same n k
    ∙ wires_longer c.loop-at.signals.items c.new.result c.new.ensures.items n k
    ∙ ap (λ (l : List (Vec Run Global)). wires_by l n k) (sym c.in_ok-push.ensures.items)
