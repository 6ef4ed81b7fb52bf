use Rattle.cir_determined.specs.Marks.{opening}
use Rattle.cir_determined.proofs.Closed.{closed_knows}
use Rattle.cir_determined.proofs.laws.order_is_free.Goals as goal

pub returns : goal.returns
returns c = λ k rs all a b none w e. closed_knows k.constraints (opening k) rs all a b none w e
