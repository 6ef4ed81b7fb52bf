use Rattle.std.proofs.Common.{◌≡◌, Option, IsSomeAnd, refl, subst, sym}
use Rattle.circom_files.specs.Reply.{NewFile}
use Rattle.circom_files.specs.declared.outcome.Ran.TheVariants.{Halted}
use Rattle.circom_gold.specs.Witness.{IsWitnessOf}
use Rattle.circom_gold.proofs.WitnessLaws.{status_of, one_answer, written_witness}
use Rattle.circom_laws.proofs.laws.witness_laws.Goals as goal

pub returns : goal.returns
returns c = record {
  status = λ files source input out options running r.
      status_of files source input out options running.fuel r;
  written = λ files source input out options running r answers zero.
      let w = written_witness files source input out options running.fuel r answers zero in
      subst (λ (file : Option NewFile). IsSomeAnd file (λ f. (f.name ≡ out)
      × IsWitnessOf files source input options running.fuel f.bytes)) (sym w.1) (refl, w.2);
  halted = λ files source input out options running r h answers found.
      one_answer files source input out options running.fuel (Halted h) r answers found;
}
