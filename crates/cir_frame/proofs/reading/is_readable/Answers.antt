use Rattle.std.proofs.Common.{◌∙◌}
use Rattle.cir_frame.proofs.SignalsRead.{readable_outside, readable_never, readable_known}
use Rattle.cir_frame.proofs.reading.is_readable.Goals as goal

pub returns-in-Outside : goal.returns-in-Outside
returns-in-Outside c =
    λ m r. readable_outside c.args.may_read c.args.entry.now c.args.r.now.indices.now
    c.args.reach.now m c.in-Outside.is r

pub returns-then-not-may_read : goal.returns-then-not-may_read
returns-then-not-may_read c =
    λ m r. readable_never c.args.may_read c.args.entry.now c.args.r.now.indices.now m.places
    (rw c.in-Known.is at r.kind) c.if-not-may_read.true

pub returns-else-not-may_read : goal.returns-else-not-may_read
returns-else-not-may_read c =
    λ m r. c.is_run_written.ensures ∙ readable_known c.args.may_read c.args.entry.now
    c.args.r.now.indices.now c.args.reach.now c.in-Known.first c.in-Known.count m c.in-Known.is
    c.if-not-may_read.false r
