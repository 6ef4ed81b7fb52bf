use Rattle.cir_lc.proofs.Values.{value-multiple}
use Rattle.cir_lc.proofs.sums.scale.Goals as goal

pub returns-clause-value : goal.returns-clause-value
returns-clause-value c =
    rw (c.of.ensures, ← c.as_slice.ensures.terms) (value-multiple _ _ _ c.in_ok-terms.ensures)
