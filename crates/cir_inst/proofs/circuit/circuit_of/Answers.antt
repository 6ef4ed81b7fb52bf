use Rattle.cir_inst.proofs.Made.{made_roomy, made_numbered, made_circuit, made_fits}
use Rattle.cir_inst.proofs.circuit.circuit_of.Goals as goal

pub renumbered-requires-clause-roomy : goal.renumbered-requires-clause-roomy
renumbered-requires-clause-roomy c = made_roomy c.args.world c.requires.0 c.requires.1

pub renumbered-requires-clause-numbered : goal.renumbered-requires-clause-numbered
renumbered-requires-clause-numbered c =
    rw c.into_lists-constraints.ensures (made_numbered c.args.world c.requires.0 c.requires.1)

pub returns-clause-circuit : goal.returns-clause-circuit
returns-clause-circuit c = λ es made.
    made_circuit c.args.world es made c.in_ok-signals.signals c.in_ok-constraints.constraints
    c.of.result (c.in_ok-signals.ensures es)
    (rw c.into_lists-constraints.ensures at c.in_ok-constraints.ensures)
    (rw c.into_lists-constraints.ensures at c.of.ensures)

pub returns-clause-fits : goal.returns-clause-fits
returns-clause-fits c =
    made_fits c.args.world c.requires.0 c.requires.1 c.in_ok-signals.signals
    c.in_ok-constraints.constraints c.of.result (c.in_ok-signals.ensures c.requires.0)
    (rw c.into_lists-constraints.ensures at c.in_ok-constraints.ensures)
