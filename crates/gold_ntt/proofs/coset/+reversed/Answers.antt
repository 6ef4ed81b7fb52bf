use Rattle.std.proofs.Common.{◌^◌, ◌<◌, sym, subst, ℕ, arith}
use Rattle.gold_ntt.proofs.ReversalLaws.{reversed_below}
use Rattle.gold_ntt.proofs.Spreading.{reversed_step}
use Rattle.gold_ntt.proofs.coset.+reversed.Goals as goal

pub returns-else-k-eq0-clause-value : goal.returns-else-k-eq0-clause-value
returns-else-k-eq0-clause-value t c =
    reversed_step c.args.k c.args.bits c.reversed.result (omega arith) c.requires
    c.reversed.ensures.value

pub returns-else-k-eq0-clause-below : goal.returns-else-k-eq0-clause-below
returns-else-k-eq0-clause-below t c =
    let is = reversed_step c.args.k c.args.bits c.reversed.result (omega arith) c.requires
    c.reversed.ensures.value in
    let Below : ℕ → Type 0 = λ y. y < 2 ^ c.args.k in
    subst Below (sym is) (reversed_below c.args.k c.args.bits)
