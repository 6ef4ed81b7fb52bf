use Rattle.std.proofs.Common.{refl, arith}
use Rattle.gold_ntt.proofs.Merging.{one_merged}
use Rattle.gold_ntt.proofs.coset.halve.Goals as goal

pub loop-j-preserved : goal.loop-j-preserved
loop-j-preserved c =
    one_merged c.args.a.now c.loop-j.a c.args.start c.args.half (λ k. c.args.factor) c.loop-j.j
    c.args.factor
    c.index-a-start.result c.index-a-middle.result c.mul-high.result c.add.result c.sub.result
    (omega arith) (omega arith)
    c.loop-j.invariant refl c.index-a-start.is c.index-a-middle.is
    c.mul-high.ensures
    c.add.ensures c.sub.ensures
