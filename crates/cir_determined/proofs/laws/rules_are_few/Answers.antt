use Rattle.cir_determined.specs.Marks.{opening}
use Rattle.cir_determined.proofs.Counting.{few_rules}
use Rattle.cir_determined.proofs.laws.rules_are_few.Goals as goal

pub returns : goal.returns
returns c = λ k rs h a. few_rules k.wires k.constraints (opening k) rs h a
