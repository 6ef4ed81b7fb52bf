use Rattle.std.proofs.Common.{◌+◌, take, drop, arith}
use Rattle.std.proofs.lemmas.Bool.{false≢true}
use Rattle.cir_determined.proofs.Powers.{times, powers_none, powers_step, powers_rest, powers_end}
use Rattle.cir_determined.proofs.bits.are_powers.Goals as goal

pub loop-c-init : goal.loop-c-init
loop-c-init c = powers_none

pub loop-c-preserved : goal.loop-c-preserved
loop-c-preserved c =
    powers_step c.args.factor c.args.coefs.now c.loop-c.c-index c.c-item.result _ _ (omega arith)
    c.c-item.is (cc)
    (c.in-Some.ensures (times c.args.factor (take c.loop-c.c-index c.args.coefs.now))
    c.loop-c.invariant)

pub returns-in-None : goal.returns-in-None
returns-in-None c = (
  λ f. absurd (false≢true f),
  λ h. absurd (c.in-None.ensures (times c.args.factor (take c.loop-c.c-index c.args.coefs.now))
      c.loop-c.invariant (times c.args.factor (drop (c.loop-c.c-index + 1) c.args.coefs.now)) h.sum
      (powers_rest c.args.factor c.args.coefs.now c.loop-c.c-index c.c-item.result _ h.sum
      (omega arith) c.c-item.is (cc) h.powers)),
)

pub returns : goal.returns
returns c =
    powers_end c.args.factor c.args.coefs.now c.loop-c.c-index c.loop-c.sum (omega arith)
    c.loop-c.invariant
