use Rattle.cir_meaning.proofs.LazyLaws.{choice_is, both_shaded, choice_opaque}
use Rattle.cir_meaning.proofs.laws.choices.Goals as goal

pub returns : goal.returns
returns c = record {
  number = λ d x y s. choice_is s d x y;
  shaded = both_shaded;
  opaque = choice_opaque;
}
