use Rattle.std.proofs.Common.{refl, ap, ◌∙◌}
use Rattle.cir_ast.specs.Plain.{plain}
use Rattle.cir_expression.proofs.Lists.{listed_seen, is_above}
use Rattle.cir_expression.proofs.measured.array.Goals as goal

pub returns : goal.returns
returns g c =
    is_above _ _ _ (ap plain c.array.ensures ∙ rw (listed_seen _ _ c.tight.ensures) refl)
    (rw c.requires.0 refl) refl
