use Rattle.cir_lc.proofs.sums.multiples.Goals as goal

pub push_multiples-requires : goal.push_multiples-requires
push_multiples-requires c = rw c.in_ok-multiple.ensures.items c.requires

pub returns : goal.returns
returns c = rw c.in_ok-multiple.ensures.items at c.in_ok-push_multiples.ensures
