use Rattle.std.proofs.Common.{length, ap, arith}
use Rattle.flow_core.proofs.Nets.{preds_few}
use Rattle.flow_core.proofs.state.missing_counts.Goals as goal

pub overflow_cast-preds_of : goal.overflow_cast-preds_of
overflow_cast-preds_of c = let few =
    preds_few c.args.graph.now c.facts.ensures.net c.loop-strand.strand in
    let e = ap length c.preds_of.ensures in let t = c.loop-strand-test.true in
    let s = c.facts.ensures.strands in
    let same-strands = ap (λ n. n.strands) c.graph.view_is in omega arith
