use Rattle.lig_proof.proofs.Interpolants.{rows_have_polynomials, polynomials_are_one}
use Rattle.lig_proof.proofs.Interpolants.{masked_rows_are_one}
use Rattle.lig_proof.proofs.laws.rows_have_polynomials.Goals as goal

pub returns : goal.returns
returns c =
    record {
      exists = rows_have_polynomials;
      one = polynomials_are_one;
      masked = masked_rows_are_one;
    }
