use Rattle.cir_lc.proofs.Changes.{swap_value}
use Rattle.cir_lc.proofs.change.swapped.Goals as goal

pub returns-clause-value : goal.returns-clause-value
returns-clause-value c =
    swap_value _ _ c.args.by.now _ c.neg.ensures c.in_ok-f.ensures.value
