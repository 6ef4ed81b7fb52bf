use Rattle.std.proofs.Common.{◌≡◌, ◌+◌, arith, ap, get_or}
use Rattle.cir_steps.specs.Making.{count_of}
use Rattle.cir_body.proofs.Renewals.{elements_at, elements_end}
use Rattle.cir_body.proofs.renewing.count_all.Goals as goal

pub loop-e-preserved : goal.loop-e-preserved
loop-e-preserved c =
    let e = get_or c.args.wanted.now c.loop-e.e-index record { variable = 0; count = 0 } in
    let at = ap count_of (elements_at c.args.wanted.now c.loop-e.e-index c.loop-e-test.true) in
    let more : c.in_ok-count.count ≡ c.loop-e.count + e.count =
    (rw c.in_ok-count.ensures.ok_part at c.checked_add.ensures).1 in
    omega (arith, at, c.loop-e.invariant, more)

pub returns : goal.returns
returns c =
    let end = ap count_of (elements_end c.args.wanted.now c.loop-e.e-index c.loop-e-test.false) in
    omega (arith, end, c.loop-e.invariant)
