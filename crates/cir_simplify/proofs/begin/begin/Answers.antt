use Rattle.std.proofs.Common.{arith}
use Rattle.cir_simplify.proofs.Partly.{same_rows}
use Rattle.cir_simplify.proofs.Starting.{good_copy}
use Rattle.cir_simplify.proofs.begin.begin.Goals as goal

pub set-requires-clause-good : goal.set-requires-clause-good
set-requires-clause-good c =
    good_copy c.args.rules.bound c.args.list.now _ _ c.in_ok-q.q c.index-list-i.is c.in_ok-q.ensures
    c.loop-i-test.true c.requires.normal c.requires.within c.in_order.ensures

pub returns-clause-rows : goal.returns-clause-rows
returns-clause-rows c =
    same_rows c.loop-i.s.rows.items c.args.list.now c.loop-i.invariant.same
    (λ j l. c.loop-i.invariant.copied j (omega (arith, c.loop-i.invariant.same)))
