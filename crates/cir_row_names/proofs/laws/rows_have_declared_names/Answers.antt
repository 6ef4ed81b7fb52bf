use Rattle.cir_row_names.proofs.Circuits.{compiled_named}
use Rattle.cir_row_names.proofs.laws.rows_have_declared_names.Goals as goal

pub returns : goal.returns
returns c = λ p program circuit fits. compiled_named p fits program circuit
