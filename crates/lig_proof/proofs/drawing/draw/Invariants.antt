use Rattle.lig_proof.proofs.Draws.{Drawing}
use Rattle.lig_proof.proofs.drawing.draw.Given as goal

abbrev pub invariant-loop : goal.invariant-loop
invariant-loop l = Drawing l.fn.words l.fn.out.items l.count l.counter l.words l.out.items
