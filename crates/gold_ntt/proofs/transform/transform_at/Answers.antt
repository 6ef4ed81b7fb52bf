use Rattle.std.proofs.Common.{arith}
use Rattle.gold_ntt.proofs.Level.{all_values, all_below}
use Rattle.gold_ntt.proofs.transform.transform_at.Goals as goal

pub returns : goal.returns
returns c = record {
  values =
      all_values c.args.a.now c.reverse.new.a c.transform.new.a c.args.log c.args.root
      c.requires.whole (omega arith)
      c.reverse.ensures c.transform.ensures;
  below =
      all_below c.args.a.now c.reverse.new.a c.transform.new.a c.args.log c.args.root
      c.requires.whole c.reverse.ensures
      c.transform.ensures;
}
