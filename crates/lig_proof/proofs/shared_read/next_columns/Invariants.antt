use Rattle.std.proofs.Common.{◌+◌}
use Rattle.binary_format.specs.Reading.{repeated}
use Rattle.lig_proof.specs.Reading.{next_value}
use Rattle.lig_proof.proofs.Loops.{Reading}
use Rattle.lig_proof.proofs.shared_read.next_columns.Given as goal

abbrev pub invariant-loop : goal.invariant-loop
invariant-loop l =
    Reading (λ end. repeated (next_value end) (l.params.rows + 6)) l.count l.fields.end
    l.fn.fields.end l.counter l.columns.items l.fields.rest.now l.fn.fields.rest.now
