use Rattle.std.proofs.Common.{sym, ◌∙◌}
use Rattle.cir_lc.proofs.Known.{known}
use Rattle.cir_lc.proofs.laws.one_normal.Goals as goal

pub returns : goal.returns
returns c = λ n q j k a b p r v w.
    let left = a.left ∙ sym b.left in
    let right = a.right ∙ sym b.right in
    let rest = known n j.c k.c p r v w (a.rest ∙ sym b.rest) in
    λ i. record { a = left i; b = right i; c = rest i }
