use Rattle.cir_lc.proofs.Values.{value-sum}
use Rattle.cir_lc.proofs.sums.add_multiple.Goals as goal

pub returns-clause-value : goal.returns-clause-value
returns-clause-value c = rw (c.of.ensures, ← c.as_slice.ensures.terms, ← c.as_slice-2.ensures.terms)
    (value-sum _ _ _ _ c.in_ok-terms.ensures)
