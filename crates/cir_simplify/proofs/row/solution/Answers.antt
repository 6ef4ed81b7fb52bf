use Rattle.cir_simplify.proofs.Linear.{solution_known}
use Rattle.cir_simplify.proofs.row.solution.Goals as goal

pub returns-clause-form : goal.returns-clause-form
returns-clause-form c = λ n l w.
    solution_known n c.args.term _ _ _ c.minus_inverse.ensures c.in_ok-f.ensures.value
    c.as_slice-terms.ensures.rises (c.in_ok-f.ensures.within n l w)
