use Rattle.cir_lc.proofs.Steps.{none_behind}
use Rattle.cir_lc.proofs.Walk.{walk_behind, walk_past}
use Rattle.cir_lc.proofs.sums.push_multiples.Goals as goal

pub loop-t-init : goal.loop-t-init
loop-t-init c = none_behind _ _ _ c.requires

pub loop-t-preserved : goal.loop-t-preserved
loop-t-preserved c =
    walk_behind _ _ _ _ _ _ _ _ c.loop-t-test.true c.t-item.is c.mul.ensures
    c.in_ok-push_term.ensures c.loop-t.invariant

pub returns : goal.returns
returns c = walk_past _ _ _ _ _ c.loop-t-test.false c.loop-t.invariant
