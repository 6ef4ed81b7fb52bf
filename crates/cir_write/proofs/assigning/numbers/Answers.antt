use Rattle.std.proofs.Common.{ℕ, ◌+◌, List, [], ◌∷◌, ◌++◌, ◌∙◌, ap, sym}
use Rattle.cir_meaning.specs.Places.{numbers_from}
use Rattle.cir_write.proofs.Wires.{one_more}
use Rattle.cir_write.proofs.assigning.numbers.Goals as goal

pub loop-at-preserved : goal.loop-at-preserved
loop-at-preserved c =
    c.in_ok-push.ensures.ok
    ∙ ap (λ (l : List ℕ). l ++ c.in_ok-behind.field-0 ∷ []) c.loop-at.invariant
    ∙ ap (λ (n : ℕ). numbers_from c.args.first c.loop-at.at ++ n ∷ []) c.in_ok-behind.ensures.ok
    ∙ sym (one_more c.args.first c.loop-at.at)
