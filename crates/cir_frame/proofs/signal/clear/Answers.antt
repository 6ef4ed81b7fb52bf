use Rattle.std.proofs.Common.{◌≡◌, ◌<◌, false, length, arith}
use Rattle.cir_arrays.proofs.Lists.{fill_next, fill_end}
use Rattle.cir_frame.proofs.signal.clear.Goals as goal

pub loop-k-preserved : goal.loop-k-preserved
loop-k-preserved c =
    let h : c.loop-k.k < length c.args.marks.now = omega arith in
    fill_next c.args.marks.now c.loop-k.marks c.loop-k.k false h c.loop-k.invariant

pub returns : goal.returns
returns c =
    let end : c.loop-k.k ≡ length c.args.marks.now = omega arith in
    fill_end c.args.marks.now c.loop-k.marks c.loop-k.k false end c.loop-k.invariant
