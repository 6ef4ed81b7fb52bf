use Rattle.simplify_samples.proofs.chains.plus.Goals as goal

pub returns : goal.returns
returns c n below form = c.in_ok-sum.ensures.within n form (c.in_ok-term.ensures.within n below)
