use Rattle.gold_ntt.proofs.Interpolation.{same_coefficients}
use Rattle.gold_ntt.proofs.laws.interpolation.Goals as goal

pub returns : goal.returns
returns c = same_coefficients
