use Rattle.std.proofs.Common.{◌≡◌, ℕ, ◌%◌, ◌^◌, ap, get_or, sym, arith}
use Rattle.std.proofs.Math.Nat.{pow-zero}
use Rattle.gold_field.specs.declared.gold.TheConstants.{P}
use Rattle.gold_ntt.proofs.Evaluation.{no_terms, one_term}
use Rattle.gold_ntt.proofs.Merging.{next_power}
use Rattle.gold_ntt.proofs.polynomial.eval.Goals as goal

pub loop-coef-init : goal.loop-coef-init
loop-coef-init c = record {
  value = no_terms (λ i. get_or c.args.coefs.now i 0) c.args.x;
  power = sym (first_power c.args.x);
}
  where
    first_power : (x : ℕ) → x ^ 0 % P ≡ 1
    first_power x = ap (λ (y : ℕ). y % P) (pow-zero x)

pub loop-coef-preserved : goal.loop-coef-preserved
loop-coef-preserved c = record {
  value =
      one_term c.args.coefs.now c.args.x c.loop-coef.coef-index c.loop-coef.value c.loop-coef.power
      c.coef-item.result c.mul.result
      c.add-value.result (omega arith) c.loop-coef.invariant.value c.loop-coef.invariant.power
      c.coef-item.is c.mul.ensures c.add-value.ensures;
  power =
      next_power P c.args.x c.loop-coef.coef-index c.loop-coef.power c.mul-power.result
      c.loop-coef.invariant.power
      c.mul-power.ensures;
}
