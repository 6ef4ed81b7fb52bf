use Rattle.flow_core.proofs.Keeps.{keeps_sound}
use Rattle.flow_core.proofs.laws.every_event_keeps_a_state_sound.Goals as goal

pub returns : goal.returns
returns c = λ n s e ok h. keeps_sound n ok s h e
