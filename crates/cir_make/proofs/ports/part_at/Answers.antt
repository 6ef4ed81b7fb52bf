use Rattle.std.proofs.Common.{◌∙◌, ap}
use Rattle.cir_meaning.specs.Limits.{nothing}
use Rattle.cir_make.specs.Arrays.{part_at}
use Rattle.cir_make.proofs.ports.part_at.Goals as goal

pub returns-in-Some : goal.returns-in-Some
returns-in-Some c =
    c.part.ensures ∙ ap (λ o. part_at o c.args.element) (c.in-Some.ensures nothing)

pub returns-in-None : goal.returns-in-None
returns-in-None c = ap (λ o. part_at o c.args.element) (c.in-None.ensures nothing)
