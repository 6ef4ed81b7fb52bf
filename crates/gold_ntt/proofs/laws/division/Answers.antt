use Rattle.gold_ntt.proofs.Division.{division_value, division_exact, division_zero}
use Rattle.gold_ntt.proofs.Quotient.{division_exists}
use Rattle.gold_ntt.proofs.laws.division.Goals as goal

pub returns : goal.returns
returns c =
    record {
      exists = division_exists;
      value = division_value;
      exact = division_exact;
      zero = division_zero;
    }
