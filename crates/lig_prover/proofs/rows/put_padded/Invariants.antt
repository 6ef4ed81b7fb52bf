use Rattle.std.proofs.Common.{◌≡◌, ◌++◌, replicate}
use Rattle.lig_prover.proofs.rows.put_padded.Given as goal

abbrev pub invariant-loop : goal.invariant-loop
invariant-loop l = l.out.items ≡ l.fn.out.items ++ (l.values ++ replicate l.counter 0)
