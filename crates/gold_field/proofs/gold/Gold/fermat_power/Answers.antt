use Rattle.gold_field.specs.declared.gold.TheConstants.{P}
use Rattle.gold_field.proofs.PowerSteps.{chain}
use Rattle.gold_field.proofs.gold.Gold.fermat_power.Goals as goal

pub returns : goal.returns
returns c =
    chain P c.args.self c.squared_times-ones_2.result c.squared_times-ones_3.result
    c.squared_times-ones_6.result
    c.squared_times-ones_12.result c.squared_times-ones_24.result c.squared_times-ones_30.result
    c.squared_times-ones_31.result c.squared_times-ones_31_twice.result c.squared_times.result
    c.squared_times-ones_2.ensures c.squared_times-ones_3.ensures c.squared_times-ones_6.ensures
    c.squared_times-ones_12.ensures c.squared_times-ones_24.ensures c.squared_times-ones_30.ensures
    c.squared_times-ones_31.ensures c.squared_times-ones_31_twice.ensures c.squared_times.ensures
