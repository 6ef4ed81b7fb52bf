use Rattle.cir_meaning.proofs.LazyLaws.{or_is, or_class, or_decided, or_shaded, or_one}
use Rattle.cir_meaning.proofs.LazyLaws.{or_opaque, truth_opaque}
use Rattle.cir_meaning.proofs.laws.disjunctions.Goals as goal

pub returns : goal.returns
returns c = record {
  number = λ x y s. or_is s x y;
  known = or_class;
  decided = or_decided;
  shaded = or_shaded;
  one = or_one;
  opaque = or_opaque;
  right = truth_opaque;
}
