use Rattle.std.proofs.Common.{arith}
use Rattle.gold_field.specs.declared.gold.TheConstants.{P}
use Rattle.gold_ntt.proofs.Dots.{one_more_power}
use Rattle.gold_ntt.proofs.Merging.{next_power}
use Rattle.gold_ntt.proofs.dot.powers.Goals as goal

pub loop-k-preserved : goal.loop-k-preserved
loop-k-preserved c = record {
  count = omega (arith, c.in_ok-push.ensures.len);
  each =
      one_more_power c.loop-k.all.items c.push.new.self.items c.args.x c.loop-k.k c.loop-k.power
      c.loop-k.invariant.count c.loop-k.invariant.each c.loop-k.invariant.power
      c.in_ok-push.ensures.items;
  power =
      next_power P c.args.x c.loop-k.k c.loop-k.power c.mul-power.result
      c.loop-k.invariant.power c.mul-power.ensures;
}
