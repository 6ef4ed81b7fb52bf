use Rattle.std.proofs.Common.{ap}
use Rattle.cir_frame.specs.Shown.{sizes_of}
use Rattle.cir_cost.proofs.Seeing.{taken_back, back_state, back_kept}
use Rattle.cir_cost.proofs.seen.seen.Goals as goal

pub returns-in-Ok-clause-same : goal.returns-in-Ok-clause-same
returns-in-Ok-clause-same g c =
    λ m f qs. back_state _ _ f qs
    (taken_back c.args.world.now c.datum-result.new.world c.restore.new.self
    c.marks-marks.result.rows c.marks-marks.result.instances c.marks-marks.result.constraints
    (sizes_of c.marks-marks.result.sizes) c.marks-marks.ensures.rows
    c.marks-marks.ensures.constraints c.marks-marks.ensures.instances
    (ap sizes_of c.marks-marks.ensures.sizes) (c.datum-result.ensures.keeps m)
    c.restore.ensures.world c.restore.ensures.constraints)

pub returns-in-Err-Refused-clause-same : goal.returns-in-Err-Refused-clause-same
returns-in-Err-Refused-clause-same g c =
    λ m f qs. back_state _ _ f qs
    (taken_back c.args.world.now c.datum-result.new.world c.restore.new.self
    c.marks-marks.result.rows c.marks-marks.result.instances c.marks-marks.result.constraints
    (sizes_of c.marks-marks.result.sizes) c.marks-marks.ensures.rows
    c.marks-marks.ensures.constraints c.marks-marks.ensures.instances
    (ap sizes_of c.marks-marks.ensures.sizes) (c.datum-result.ensures.keeps m)
    c.restore.ensures.world c.restore.ensures.constraints)

pub returns-in-Ok-clause-keeps : goal.returns-in-Ok-clause-keeps
returns-in-Ok-clause-keeps g c =
    λ m. back_kept _ _
    (taken_back c.args.world.now c.datum-result.new.world c.restore.new.self
    c.marks-marks.result.rows c.marks-marks.result.instances c.marks-marks.result.constraints
    (sizes_of c.marks-marks.result.sizes) c.marks-marks.ensures.rows
    c.marks-marks.ensures.constraints c.marks-marks.ensures.instances
    (ap sizes_of c.marks-marks.ensures.sizes) (c.datum-result.ensures.keeps m)
    c.restore.ensures.world c.restore.ensures.constraints)

pub returns-in-Err-Refused-clause-keeps : goal.returns-in-Err-Refused-clause-keeps
returns-in-Err-Refused-clause-keeps g c =
    λ m. back_kept _ _
    (taken_back c.args.world.now c.datum-result.new.world c.restore.new.self
    c.marks-marks.result.rows c.marks-marks.result.instances c.marks-marks.result.constraints
    (sizes_of c.marks-marks.result.sizes) c.marks-marks.ensures.rows
    c.marks-marks.ensures.constraints c.marks-marks.ensures.instances
    (ap sizes_of c.marks-marks.ensures.sizes) (c.datum-result.ensures.keeps m)
    c.restore.ensures.world c.restore.ensures.constraints)

pub returns-clause-keeps : goal.returns-clause-keeps
returns-clause-keeps g c =
    λ m. back_kept _ _
    (taken_back c.args.world.now c.datum-result.new.world c.restore.new.self
    c.marks-marks.result.rows c.marks-marks.result.instances c.marks-marks.result.constraints
    (sizes_of c.marks-marks.result.sizes) c.marks-marks.ensures.rows
    c.marks-marks.ensures.constraints c.marks-marks.ensures.instances
    (ap sizes_of c.marks-marks.ensures.sizes) (c.datum-result.ensures.keeps m)
    c.restore.ensures.world c.restore.ensures.constraints)
