use Rattle.cir_names.proofs.OneLoading.{one_program, one_load_fault, loaded_or_refused}
use Rattle.cir_names.proofs.OneLoading.{there_or_loaded, there_or_fault}
use Rattle.cir_names.proofs.laws.one_loading.Goals as goal

pub returns : goal.returns
returns c = record {
  program = λ files name library. one_program files name library;
  refusal = λ files name library. one_load_fault files name library;
  either = λ files name library. loaded_or_refused files name library;
  there = λ files name library. there_or_loaded files name library;
  missing = λ files name library. there_or_fault files name library;
}
