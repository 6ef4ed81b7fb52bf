use Rattle.gold_ntt.proofs.Division.{powers_vanish, powers_count}
use Rattle.gold_ntt.proofs.laws.powers_of_roots.Goals as goal

pub returns : goal.returns
returns c = record { zero = powers_vanish; number = powers_count }
