use Rattle.cir_loaded_names.proofs.Loaded.{of_sources, loaded as loaded_program}
use Rattle.cir_loaded_names.proofs.laws.loaded_names_are_identifiers.Goals as goal

pub returns : goal.returns
returns c = record { any = of_sources; loaded = loaded_program }
