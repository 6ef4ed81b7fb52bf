use Rattle.gold_field.specs.declared.gold.TheConstants.{P}
use Rattle.gold_ntt.proofs.Merging.{one_merged, next_power}
use Rattle.std.proofs.Common.{◌%◌, ◌^◌, ◌∙◌, ap, arith}
use Rattle.std.proofs.Math.Nat.{mod-mod}
use Rattle.gold_ntt.proofs.transform.merge.Goals as goal

pub loop-j-preserved : goal.loop-j-preserved
loop-j-preserved c = record {
  merged =
      one_merged c.args.a.now c.loop-j.a c.args.start c.args.half (λ k. c.args.root ^ k) c.loop-j.j
      c.loop-j.twiddle
      c.index-a-start.result c.index-a-middle.result c.mul-odd.result c.add.result c.sub.result
      (omega arith) (omega arith)
      c.loop-j.invariant.merged
      (ap (λ (y : _). y % P) c.loop-j.invariant.power ∙ mod-mod (c.args.root ^ c.loop-j.j) P)
      c.index-a-start.is c.index-a-middle.is
      c.mul-odd.ensures
      c.add.ensures c.sub.ensures;
  power = next_power P c.args.root c.loop-j.j c.loop-j.twiddle c.mul-twiddle.result
      c.loop-j.invariant.power c.mul-twiddle.ensures;
}
