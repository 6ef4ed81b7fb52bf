use Rattle.std.proofs.Common.{arith}
use Rattle.cir_determined.proofs.Powers.{power_test}
use Rattle.cir_determined.proofs.bits.is_power_of_two.Goals as goal

pub returns : goal.returns
returns c = power_test c.args.n (omega arith) (omega arith)
