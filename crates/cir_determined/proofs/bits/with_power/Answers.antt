use Rattle.std.proofs.Common.{refl}
use Rattle.std.proofs.lemmas.Bool.{false≢true}
use Rattle.cir_determined.proofs.Powers.{powers_more, powers_next}
use Rattle.cir_determined.proofs.bits.with_power.Goals as goal

pub returns-then-not-is_power_of_two : goal.returns-then-not-is_power_of_two
returns-then-not-is_power_of_two c = λ ps h rest n all.
    false≢true (c.if-not-is_power_of_two.ensures.1
    (powers_next ps c.args.sum c.args.power rest n h all).0)

pub returns-then-sum-power-ne0 : goal.returns-then-sum-power-ne0
returns-then-sum-power-ne0 c = λ ps h rest n all.
    c.if-sum-power-ne0.true (powers_next ps c.args.sum c.args.power rest n h all).1

pub returns : goal.returns
returns c = λ ps h.
    let e = c.if-not-is_power_of_two.ensures.0 refl in
    powers_more ps c.args.sum e.0 c.args.power h e.1 c.if-sum-power-ne0.false
