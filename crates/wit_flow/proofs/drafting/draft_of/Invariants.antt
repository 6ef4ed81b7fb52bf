use Rattle.wit_flow.specs.Draft.{HasCome}
use Rattle.wit_flow.proofs.drafting.draft_of.Given as goal

abbrev pub invariant-loop-at : goal.invariant-loop-at
invariant-loop-at l = HasCome l.steps l.cells l.at l.draft
