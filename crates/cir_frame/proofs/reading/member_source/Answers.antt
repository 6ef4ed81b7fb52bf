use Rattle.cir_frame.specs.Read.{origin_from}
use Rattle.cir_arrays.proofs.Exits.{exits, exit_gives}
use Rattle.cir_frame.proofs.reading.member_source.Goals as goal

pub returns-in_err-part-in-Component : goal.returns-in_err-part-in-Component
returns-in_err-part-in-Component c =
    λ k. rw c.in-Component.is (exit_gives origin_from _ _ _ c.from_residual.ensures.1
    (exits _ _ _ (c.in_err-part-in-Component.ensures k)))

pub returns-in_ok-part-in-Component : goal.returns-in_ok-part-in-Component
returns-in_ok-part-in-Component c =
    λ k. rw c.in-Component.is (rw (c.in_ok-part-in-Component.ensures k) (c.located.ensures k))
