use Rattle.std.proofs.Common.{◌∙◌}
use Rattle.cir_frame.proofs.SignalsRead.{zero_read}
use Rattle.cir_frame.proofs.reading.no_part.Goals as goal

pub returns-in_ok-v-in-Known : goal.returns-in_ok-v-in-Known
returns-in_ok-v-in-Known c =
    λ indices m r. c.in_ok-v-in-Known.ensures ∙ zero_read indices c.args.reach _ _ m c.in-Known.is r
