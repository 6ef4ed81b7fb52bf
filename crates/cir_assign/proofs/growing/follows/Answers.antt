use Rattle.std.proofs.Common.{arith, ap}
use Rattle.std.proofs.lemmas.Bool.{ltb-true}
use Rattle.gold_field.specs.declared.form.Term.{Term}
use Rattle.cir_assign.proofs.LongerSums.{behind_last}
use Rattle.cir_assign.proofs.growing.follows.Goals as goal

pub returns : goal.returns
returns c = λ e.
    behind_last 0 c.args.terms.now c.args.more.now c.last-item.result c.first-item.result
    c.in-len1-up.len_at_least c.in-len1-up-more.len_at_least c.first-item.is
    (omega (arith, ltb-true _ _ e, ap (λ (t : Term). t.signal) c.last-item.is)) c.requires.left
    c.requires.right
