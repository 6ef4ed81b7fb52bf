use Rattle.cir_steps.proofs.CheckedPlaces.{checked_places}
use Rattle.cir_steps.proofs.laws.checked_programs_have_places.Goals as goal

pub returns : goal.returns
returns c = λ p h. checked_places p h
