use Rattle.cir_scope.proofs.Loaded.{of_sources, loaded as loaded_program}
use Rattle.cir_scope.proofs.laws.loaded_programs_are_resolved.Goals as goal

pub returns : goal.returns
returns c = record {
  any = λ p o. (of_sources p o).0;
  loaded = λ files name library p l. (loaded_program files name library p l).0;
}
