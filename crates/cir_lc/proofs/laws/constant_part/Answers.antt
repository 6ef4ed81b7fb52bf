use Rattle.std.proofs.Common.{add-one}
use Rattle.cir_lc.proofs.Known.{constant_is}
use Rattle.cir_lc.proofs.laws.constant_part.Goals as goal

pub returns : goal.returns
returns c = λ n f h w. constant_is n f h (rw add-one at w)
