use Rattle.std.proofs.Common.{◌∷◌, [], refl}
use Rattle.std.specs.Prelude.{map, ◌==◌}
use Rattle.cir_rules.specs.Shown.{made_of}
use Rattle.cir_rules.proofs.Reaching.{walked}
use Rattle.cir_rules.proofs.verdict.functions_in.Goals as goal

pub loop-call-preserved : goal.loop-call-preserved
loop-call-preserved c =
    walked ◌==◌ (λ ms. map (λ m. m.function) (map made_of ms)) c.args.made.now
    c.loop-call.call-index c.call-item.result (c.call-item.result.function ∷ [])
    c.loop-call.known.items _ _ c.loop-call-test.true c.call-item.is refl
    c.in_ok-add_function.ensures c.loop-call.invariant
