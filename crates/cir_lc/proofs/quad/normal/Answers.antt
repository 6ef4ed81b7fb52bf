use Rattle.cir_lc.proofs.Normals.{normal_means}
use Rattle.cir_lc.proofs.quad.normal.Goals as goal

pub returns-clause-value : goal.returns-clause-value
returns-clause-value c = normal_means _ _ c.in_ok-n.ensures.shape
