use Rattle.cir_scope.proofs.Loaded.{of_sources, loaded as loaded_program}
use Rattle.cir_scope.proofs.laws.loaded_templates_are_counted.Goals as goal

pub returns : goal.returns
returns c = record {
  any = λ p o. (of_sources p o).2;
  loaded = λ files name library p l. (loaded_program files name library p l).2;
}
