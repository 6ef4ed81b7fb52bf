use Rattle.cir_determined.proofs.Sound.{certificate_determines}
use Rattle.cir_determined.proofs.laws.certificates_are_sound.Goals as goal

pub returns : goal.returns
returns c = certificate_determines
