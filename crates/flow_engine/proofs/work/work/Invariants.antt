use Rattle.flow_engine.specs.Lent.{IsHand}
use Rattle.flow_engine.proofs.work.work.Given as goal

abbrev pub invariant-loop : goal.invariant-loop
invariant-loop g l = IsHand l.batch.boards.now l.hand
