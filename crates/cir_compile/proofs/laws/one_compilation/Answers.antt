use Rattle.cir_compile.proofs.OneFile.{compiled_or_refused, one_file, one_refusal}
use Rattle.cir_compile.proofs.OneFile.{there_or_compiled, there_or_refused}
use Rattle.cir_compile.proofs.laws.one_compilation.Goals as goal

pub returns : goal.returns
returns c = record {
  file = λ files task. one_file files task;
  refusal = λ files task. one_refusal files task;
  either = λ files task. compiled_or_refused files task;
  there = λ files task. there_or_compiled files task;
  missing = λ files task. there_or_refused files task;
}
