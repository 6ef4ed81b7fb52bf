use Rattle.simplify_samples.proofs.chains.difference.Goals as goal

pub returns : goal.returns
returns c n x y = c.in_ok-both.ensures n y (c.in_ok-left.ensures.within n x)
