use Rattle.simplify_samples.proofs.chains.push_linear.Goals as goal

pub returns : goal.returns
returns c n form list =
    c.in_ok-push.ensures n (c.no_terms.ensures n, c.no_terms-2.ensures n, form) list
