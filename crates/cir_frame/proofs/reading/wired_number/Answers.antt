use Rattle.std.proofs.Common.{ap, ◌∙◌}
use Rattle.cir_meaning.specs.Arrays.{single}
use Rattle.cir_meaning.specs.Frame.{signal_item}
use Rattle.cir_frame.specs.Shown.{signal_of}
use Rattle.cir_arrays.proofs.PartsRead.{single_read}
use Rattle.cir_frame.proofs.SignalsRead.{unwired}
use Rattle.cir_frame.proofs.reading.wired_number.Goals as goal

pub returns-in_ok-v-in-Known : goal.returns-in_ok-v-in-Known
returns-in_ok-v-in-Known c =
    let e = signal_of c.args.entry.now in
    λ indices m r none. ap single c.in_ok-v-in-Known.ensures
    ∙ single_read (signal_item e) e.dims indices
    c.args.reach.now c.in-Known.first c.in-Known.count m c.in-Known.is r (unwired c.args.entry.now)
    (r.left ∙ none)
