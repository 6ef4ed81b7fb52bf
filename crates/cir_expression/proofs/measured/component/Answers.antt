use Rattle.std.proofs.Common.{refl, ap, ◌∙◌}
use Rattle.cir_ast.specs.Plain.{plain}
use Rattle.cir_expression.proofs.Lists.{listed_seen, is_above}
use Rattle.cir_expression.proofs.measured.component.Goals as goal

pub returns : goal.returns
returns g c =
    is_above _ _ _ (ap plain c.in_ok-anonymous.ensures ∙ rw (listed_seen _ _ c.tight.ensures) refl)
    (rw (c.requires.arguments.0, c.requires.inputs) refl) (rw c.max.ensures refl)
