use Rattle.sym_file.proofs.Table.{one_answer}
use Rattle.sym_file.proofs.laws.signals_have_one_list.Goals as goal

pub returns : goal.returns
returns c = λ signals instances kept a b named. one_answer signals instances kept named a b
