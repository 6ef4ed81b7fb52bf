use Rattle.gold_ntt.proofs.Spreading.{doubled, halved}
use Rattle.gold_ntt.proofs.coset.part.Goals as goal

pub returns-then-count-half : goal.returns-then-count-half
returns-then-count-half c =
    doubled c.args.a.now c.double.new.a c.args.start c.args.half c.args.factor c.args.count
    c.if-count-half.true c.requires.zeros c.double.ensures.high c.double.ensures.others

pub returns-else-count-half : goal.returns-else-count-half
returns-else-count-half c =
    halved c.args.a.now c.halve.new.a c.args.start c.args.half c.args.factor c.args.count
    c.if-count-half.false c.halve.ensures.low c.halve.ensures.high c.halve.ensures.others
