use Rattle.wit_flow.proofs.Shape.{is_flow}
use Rattle.wit_flow.proofs.laws.a_plan_is_a_flow.Goals as goal

pub returns : goal.returns
returns c p start fuel ok each = is_flow p ok start fuel each
