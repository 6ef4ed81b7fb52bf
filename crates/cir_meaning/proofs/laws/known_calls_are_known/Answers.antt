use Rattle.cir_meaning.proofs.RunLaws.{call_known}
use Rattle.cir_meaning.proofs.laws.known_calls_are_known.Goals as goal

pub returns : goal.returns
returns c = call_known
