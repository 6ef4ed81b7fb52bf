use Rattle.std.proofs.Common.{refl}
use Rattle.cir_simplify.proofs.Starting.{blank_indexed}
use Rattle.cir_simplify.proofs.begin.blank.Goals as goal

pub returns-clause-indexed : goal.returns-clause-indexed
returns-clause-indexed c =
    blank_indexed _ _ _ _ refl c.in_ok-rows.ensures.empty c.in_ok-holders.ensures
