use Rattle.std.proofs.Common.{refl}
use Rattle.cir_meaning.proofs.LazyLaws.{and_is, and_class, and_shaded, and_opaque, and_right}
use Rattle.cir_meaning.proofs.laws.conjunctions.Goals as goal

pub returns : goal.returns
returns c = record {
  number = λ x y s. and_is s x y;
  known = and_class;
  decided = refl;
  shaded = and_shaded;
  zero = λ y. refl;
  opaque = and_opaque;
  right = and_right;
}
