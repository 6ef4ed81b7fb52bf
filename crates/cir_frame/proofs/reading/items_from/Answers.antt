use Rattle.std.proofs.Common.{◌+◌, ap, ◌∙◌}
use Rattle.cir_meaning.specs.Frame.{signal_item}
use Rattle.cir_frame.specs.Shown.{signal_of}
use Rattle.cir_arrays.proofs.PartsRead.{items_more}
use Rattle.cir_frame.proofs.SignalsRead.{signal_standing}
use Rattle.cir_frame.proofs.reading.items_from.Goals as goal

pub loop-k-preserved : goal.loop-k-preserved
loop-k-preserved c =
    let e = signal_of c.args.entry.now in
    items_more (signal_item e) c.loop-k.items.items c.push.new.self.items c.in_ok-v.v c.args.first
    c.loop-k.k c.in_ok-push.ensures.items
    (c.in_ok-v.ensures ∙ (ap (signal_item e) c.saturating_add.ensures
    ∙ signal_standing c.args.entry.now (c.args.first + c.loop-k.k)))
    c.loop-k.invariant
