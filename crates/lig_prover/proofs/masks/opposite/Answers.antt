use Rattle.std.proofs.Common.{◌+◌, ◌-◌, ◌%◌, ap, ◌∙◌}
use Rattle.gold_field.specs.declared.gold.TheConstants.{P}
use Rattle.gold_field.proofs.FieldLaws.{sum_of_rests}
use Rattle.lig_prover.proofs.masks.opposite.Goals as goal

pub returns : goal.returns
returns c =
    c.add.ensures ∙ ap (λ x. (x + c.neg-2.result) % P) c.neg.ensures
    ∙ ap (λ x. ((P - c.args.first) % P + x) % P) c.neg-2.ensures
    ∙ sum_of_rests P (P - c.args.first) (P - c.args.second)
