use Rattle.std.proofs.Common.{◌≡◌, ℕ, ◌+◌, List, [], ◌∷◌, ◌++◌, ◌∙◌, ap, sym, arith}
use Rattle.cir_meaning.specs.Places.{numbers_from}
use Rattle.cir_write.proofs.Wires.{one_more}
use Rattle.cir_write.proofs.assigning.all_places.Goals as goal

pub loop-at-preserved : goal.loop-at-preserved
loop-at-preserved c =
    let same : c.loop-at.at ≡ 0 + c.loop-at.at = omega arith in
    c.in_ok-push.ensures.items
    ∙ ap (λ (l : List ℕ). l ++ c.loop-at.at ∷ []) c.loop-at.invariant
    ∙ ap (λ (n : ℕ). numbers_from 0 c.loop-at.at ++ n ∷ []) same
    ∙ sym (one_more 0 c.loop-at.at)
