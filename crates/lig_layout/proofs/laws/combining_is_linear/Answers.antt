use Rattle.lig_layout.proofs.Products.{linear}
use Rattle.lig_layout.proofs.laws.combining_is_linear.Goals as goal

pub returns : goal.returns
returns c = linear
