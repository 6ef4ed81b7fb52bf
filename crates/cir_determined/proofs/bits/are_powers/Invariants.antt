use Rattle.std.proofs.Common.{take}
use Rattle.cir_determined.specs.Bits.{ArePowers}
use Rattle.cir_determined.proofs.Powers.{times}
use Rattle.cir_determined.proofs.bits.are_powers.Given as goal

abbrev pub invariant-loop-c : goal.invariant-loop-c
invariant-loop-c l = ArePowers (times l.factor (take l.c-index l.coefs)) l.sum
