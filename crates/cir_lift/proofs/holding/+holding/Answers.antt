use Rattle.cir_lift.proofs.Without.{array_without}
use Rattle.cir_lift.proofs.holding.+holding.Goals as goal

pub expr_holds-returns-in-Array : goal.expr_holds-returns-in-Array
expr_holds-returns-in-Array t c = λ none.
    array_without _ _ _ c.in-Array.is c.as_slice.ensures (c.any_holds.ensures none)
