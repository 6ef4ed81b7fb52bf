use Rattle.std.proofs.Common.{◌∙◌}
use Rattle.gold_ntt.proofs.Spreading.{all_spread}
use Rattle.gold_ntt.proofs.coset.Coset.transform.Goals as goal

pub returns : goal.returns
returns c =
    all_spread c.args.a.now c.spread.new.a c.reverse.new.a c.args.self.now.log c.requires.whole
    (c.reverse.auto.a ∙ c.spread.auto.a) c.spread.ensures c.reverse.ensures
