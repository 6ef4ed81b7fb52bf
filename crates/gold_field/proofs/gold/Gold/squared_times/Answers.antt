use Rattle.std.proofs.Common.{arith}
use Rattle.gold_field.specs.declared.gold.TheConstants.{P}
use Rattle.gold_field.proofs.PowerSteps.{first_power, square_step, square_end}
use Rattle.gold_field.proofs.gold.Gold.squared_times.Goals as goal

pub loop-i-init : goal.loop-i-init
loop-i-init c = first_power P c.args.self

pub loop-i-preserved : goal.loop-i-preserved
loop-i-preserved c =
    square_step P c.args.self c.loop-i.i c.loop-i.power c.mul-power.result c.loop-i.invariant
    c.mul-power.ensures

pub returns : goal.returns
returns c =
    square_end P c.args.self c.loop-i.i c.args.turns c.loop-i.power c.args.factor c.mul.result
    c.loop-i.invariant
    (omega arith) c.mul.ensures
