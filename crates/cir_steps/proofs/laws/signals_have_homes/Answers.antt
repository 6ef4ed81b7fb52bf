use Rattle.cir_steps.proofs.HomesLaw.{homes_counted, homes_are_cells}
use Rattle.cir_steps.proofs.laws.signals_have_homes.Goals as goal

pub returns-clause-count : goal.returns-clause-count
returns-clause-count c = λ p k b resolved compiles made.
    homes_counted p resolved k b compiles made

pub returns-clause-cells : goal.returns-clause-cells
returns-clause-cells c = λ p k b i resolved compiles made less.
    homes_are_cells p resolved k b compiles made i less
