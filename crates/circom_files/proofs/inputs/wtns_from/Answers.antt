use Rattle.circom_files.proofs.Numbers.{values_below}
use Rattle.circom_files.proofs.inputs.wtns_from.Goals as goal

pub returns-in-Ok-clause-numbers : goal.returns-in-Ok-clause-numbers
returns-in-Ok-clause-numbers c =
    values_below c.args.bytes.now c.in-Ok.values.items c.in-Ok.ensures.exact
