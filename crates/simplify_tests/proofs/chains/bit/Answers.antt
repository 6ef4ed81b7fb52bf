use Rattle.simplify_tests.proofs.chains.bit.Goals as goal

pub returns : goal.returns
returns c n x zero =
    let left = c.in_ok-a.ensures.within n x in
    (left, c.in_ok-b.ensures n zero left, c.no_terms.ensures n)
