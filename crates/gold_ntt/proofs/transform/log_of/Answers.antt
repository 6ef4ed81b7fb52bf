use Rattle.std.proofs.Common.{◌≡◌, ◌^◌, sym, ◌∙◌, ap, arith}
use Rattle.gold_ntt.proofs.Transforms.{log_is}
use Rattle.gold_ntt.proofs.transform.log_of.Goals as goal

pub returns : goal.returns
returns c =
    let is : c.ilog2.result ≡ c.requires.log =
    log_is c.args.n c.ilog2.result c.requires.log c.ilog2.ensures.power_le
    c.ilog2.ensures.next_power_gt c.requires.power in
    record {
      small = omega arith;
      power = c.requires.power ∙ ap (λ (y : _). 2 ^ y) (sym is);
    }
