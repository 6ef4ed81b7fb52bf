use Rattle.std.proofs.Common.{sym, ◌∙◌, refl}
use Rattle.cir_arrays.specs.Stopped.{where_of}
use Rattle.cir_frame.specs.Shown.{signal_of, frame_of}
use Rattle.cir_frame.proofs.Targeting.{targets_found}
use Rattle.cir_frame.proofs.writing.target_of.Goals as goal

pub returns-in-None : goal.returns-in-None
returns-in-None c = λ k. rw (← c.signal_of.ensures k, c.in-None.is) c.refused.ensures

pub returns-in-Some : goal.returns-in-Some
returns-in-Some c =
    λ k. targets_found (frame_of c.args.frame.now k)
    (where_of c.args.r.now.site.now) c.args.part c.args.n
    (signal_of c.in-Some.entry.now) c.args.r.now.indices.now c.targeted.result
    (sym (c.signal_of.ensures k) ∙ rw c.in-Some.is refl) c.targeted.ensures
