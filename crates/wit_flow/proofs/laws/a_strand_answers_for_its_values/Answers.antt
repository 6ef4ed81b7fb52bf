use Rattle.wit_flow.proofs.Shape.{answers_for}
use Rattle.wit_flow.proofs.laws.a_strand_answers_for_its_values.Goals as goal

pub returns : goal.returns
returns c p start fuel k xs ok each near wide h = answers_for p ok start fuel each k xs near wide h
