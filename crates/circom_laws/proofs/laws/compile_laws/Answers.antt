use Rattle.circom_gold.proofs.CompileLaws.{reply_of, status_of}
use Rattle.circom_laws.proofs.laws.compile_laws.Goals as goal

pub returns : goal.returns
returns c = record {
  reply = λ files source out options r found answers is.
      reply_of files source out options r found answers is;
  status = λ files source out options r answers. status_of files source out options r answers;
}
