use Rattle.std.proofs.Common.{◌≡◌, get_or, map, take}
use Rattle.lig_prover.proofs.columns.column.Given as goal

abbrev pub invariant-loop-codeword : goal.invariant-loop-codeword
invariant-loop-codeword l = l.values.items ≡ map (λ codeword. get_or codeword l.at 0)
    (take l.codeword-index l.codewords)
