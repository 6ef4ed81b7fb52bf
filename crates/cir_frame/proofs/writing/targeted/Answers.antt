use Rattle.std.proofs.Common.{◌≡◌, true, false, is_some}
use Rattle.cir_meaning.specs.Places.{all_known}
use Rattle.cir_arrays.specs.Stopped.{where_of}
use Rattle.cir_frame.specs.Shown.{signal_of}
use Rattle.cir_frame.proofs.Targeting.{targeted_exit, targeted_ok}
use Rattle.cir_frame.proofs.writing.targeted.Goals as goal

pub returns-then-not-is_all_known : goal.returns-then-not-is_all_known
returns-then-not-is_all_known c =
    let unknown : is_some (all_known c.args.r.now.indices.now) ≡ false = cc in
    rw unknown c.refused.ensures

pub returns-in_err-reach : goal.returns-in_err-reach
returns-in_err-reach c =
    let known : is_some (all_known c.args.r.now.indices.now) ≡ true = cc in
    targeted_exit (where_of c.args.r.now.site.now) c.args.part c.args.n (signal_of c.args.entry.now)
    c.args.r.now.indices.now _ _ known c.from_residual.ensures.1
    (rw c.as_slice-dims.ensures.value at c.in_err-reach.ensures.reach)

pub returns : goal.returns
returns c =
    let known : is_some (all_known c.args.r.now.indices.now) ≡ true = cc in
    targeted_ok (where_of c.args.r.now.site.now) c.args.part c.args.n (signal_of c.args.entry.now)
    c.args.r.now.indices.now _ known
    (rw c.as_slice-dims.ensures.value at c.in_ok-reach.ensures.reach)
