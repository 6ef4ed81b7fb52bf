use Rattle.cir_tree_names.proofs.Printed.{file}
use Rattle.cir_tree_names.proofs.laws.names_are_among_tokens.Goals as goal

pub returns : goal.returns
returns c = λ p items. file p items
