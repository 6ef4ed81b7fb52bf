use Rattle.std.proofs.Common.{◌∙◌, sym}
use Rattle.std.proofs.lemmas.Bool.{eq-eqb, eqb-true}
use Rattle.wit_sources.proofs.parts.is_of.Goals as goal

pub returns-then-is : goal.returns-then-is
returns-then-is c = λ same. (
  sym c.is.ensures ∙ c.if-is.true,
  eq-eqb c.args.element c.args.source.now.element
      (sym (eqb-true c.args.source.now.element c.args.element same)),
)
