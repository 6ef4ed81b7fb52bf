use Rattle.cir_lift.proofs.Listed.{tuple_same}
use Rattle.cir_lift.proofs.holding.source_holds.Goals as goal

pub returns-in-Tuple : goal.returns-in-Tuple
returns-in-Tuple c = λ none.
    tuple_same c.in-Tuple.es c.as_slice.result.now c.args.source.now c.in-Tuple.is
    c.as_slice.ensures (c.any_holds.ensures none)
