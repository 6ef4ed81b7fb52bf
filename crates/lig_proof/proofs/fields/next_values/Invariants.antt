use Rattle.lig_proof.specs.Reading.{next_value}
use Rattle.lig_proof.proofs.Loops.{Reading}
use Rattle.lig_proof.proofs.fields.next_values.Given as goal

abbrev pub invariant-loop : goal.invariant-loop
invariant-loop l =
    Reading next_value l.count l.fields.end l.fn.fields.end l.counter l.values.items
    l.fields.rest.now l.fn.fields.rest.now
