use Rattle.cir_frame.specs.Shown.{frame_of}
use Rattle.cir_assign.proofs.LongerSums.{linear_at}
use Rattle.cir_assign.proofs.growing.is_linear.Goals as goal

pub returns-in-Some-Number-Linear : goal.returns-in-Some-Number-Linear
returns-in-Some-Number-Linear c = λ t counts.
    let there = c.in-Some-Number-Linear in
    linear_at (frame_of c.args.frame.now counts).variables c.args.n there.field-0.now
    there.field-0-0 there.field-0-0-0 there.field-0-is there.field-0-0-is (there.ensures counts)
