use Rattle.std.proofs.Common.{sym, subst}
use Rattle.cir_evaluate.specs.Within.{where_at}
use Rattle.cir_cost.specs.Adds.{Adds, read_alone}
use Rattle.cir_cost.proofs.Adding.{adds_none}
use Rattle.cir_cost.proofs.Cells.{reads_lost}
use Rattle.cir_cost.proofs.cost.Cost.read.Goals as goal

pub returns-in-Lost : goal.returns-in-Lost
returns-in-Lost g c =
    rw c.in-Lost.is (subst (λ cells. Adds c.args.self.now c.args.self.now (read_alone cells))
    (sym (reads_lost (where_at c.args.here.now) c.args.meant c.args.indices.now))
    (adds_none c.args.self.now))
