use Rattle.flow_core.proofs.Values.{one_value}
use Rattle.flow_core.proofs.laws.a_cell_has_one_value.Goals as goal

pub returns : goal.returns
returns c = λ f d x y ok flow a b. one_value f ok flow d x y a b
