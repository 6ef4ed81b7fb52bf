use Rattle.lig_proof.proofs.Loops.{Opening}
use Rattle.lig_proof.proofs.read.next_openings.Given as goal

abbrev pub invariant-loop : goal.invariant-loop
invariant-loop l =
    Opening l.params l.count l.fields.end l.fn.fields.end l.counter l.columns.items l.paths.items
    l.fields.rest.now l.fn.fields.rest.now
