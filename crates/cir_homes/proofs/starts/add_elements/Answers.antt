use Rattle.std.proofs.Common.{◌∙◌}
use Rattle.cir_homes.proofs.Starting.{elements_end, elements_next}
use Rattle.cir_homes.proofs.starts.add_elements.Goals as goal

pub loop-k-preserved : goal.loop-k-preserved
loop-k-preserved c =
    elements_next c.args.ports.now c.args.n c.loop-k.k c.args.count _ c.rows-rows.result.now
    c.loop-k.starts.items c.push.new.self.items c.loop-k-test.true c.rows-rows.ensures
    c.in_ok-cell.ensures c.in_ok-push.ensures.items
    ∙ c.loop-k.invariant

pub returns : goal.returns
returns c =
    elements_end c.args.ports.now c.args.n c.loop-k.k c.args.count c.loop-k.starts.items
    c.loop-k-test.false
    ∙ c.loop-k.invariant
