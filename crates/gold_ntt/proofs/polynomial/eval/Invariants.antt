use Rattle.std.proofs.Common.{◌≡◌, ◌%◌, ◌^◌, get_or}
use Rattle.gold_field.specs.declared.gold.TheConstants.{P}
use Rattle.gold_ntt.specs.Polynomial.{poly}
use Rattle.gold_ntt.proofs.polynomial.eval.Given as goal

abbrev pub invariant-loop-coef : goal.invariant-loop-coef
invariant-loop-coef l = record {
  value : l.value ≡ poly l.coef-index (λ i. get_or l.coefs i 0) l.x % P;
  power : l.power ≡ l.x ^ l.coef-index % P;
}
