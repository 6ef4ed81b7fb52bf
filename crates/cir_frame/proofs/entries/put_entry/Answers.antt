use Rattle.std.proofs.Common.{◌≤◌, ◌<◌, length, ap, ◌∙◌, arith}
use Rattle.cir_meaning.specs.Frame.{put_at}
use Rattle.cir_frame.proofs.Numbered.{put_behind, put_set}
use Rattle.cir_frame.proofs.entries.put_entry.Goals as goal

pub loop-entries-preserved : goal.loop-entries-preserved
loop-entries-preserved g c =
    let h : length c.loop-entries.entries.items ≤ c.args.n = omega (arith, c.len.ensures) in
    ap (put_at c.args.n c.args.entry) c.in_ok-push.ensures.items
    ∙ (put_behind c.args.n c.args.entry c.loop-entries.entries.items h ∙ c.loop-entries.invariant)

pub returns : goal.returns
returns g c =
    let h : c.args.n < length c.loop-entries.entries.items = omega (arith, c.len.ensures) in
    put_set c.args.n c.args.entry c.loop-entries.entries.items h ∙ c.loop-entries.invariant
