use Rattle.cir_loaded_names.proofs.Identifiers.{identifier_line, identifier_plain}
use Rattle.cir_loaded_names.proofs.laws.identifiers_are_plain.Goals as goal

pub returns : goal.returns
returns c = record { line = identifier_line; plain = identifier_plain }
