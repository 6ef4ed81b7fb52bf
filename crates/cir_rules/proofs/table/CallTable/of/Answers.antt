use Rattle.std.proofs.Common.{◌∙◌, ◌∷◌, [], ap, refl}
use Rattle.std.specs.Prelude.{map}
use Rattle.cir_meaning.specs.Functions.{same_made}
use Rattle.cir_rules.specs.Queue.{with_new}
use Rattle.cir_rules.specs.Shown.{made_of}
use Rattle.cir_rules.proofs.Reaching.{walked}
use Rattle.cir_rules.proofs.table.CallTable.of.Goals as goal

pub loop-call-preserved : goal.loop-call-preserved
loop-call-preserved c =
    let known = map made_of c.loop-call.table.calls.items in
    walked same_made (map made_of) c.args.made.now c.loop-call.call-index c.call-item.result
    (made_of c.call-item.result ∷ []) known _ _ c.loop-call-test.true c.call-item.is refl
    (c.in_ok-add.ensures ∙ ap (λ x. with_new same_made known (x ∷ [])) c.in_ok-call.ensures)
    c.loop-call.invariant
