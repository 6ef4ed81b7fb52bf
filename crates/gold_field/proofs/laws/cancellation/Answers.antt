use Rattle.std.proofs.Common.{lit<}
use Rattle.gold_field.specs.declared.gold.TheConstants.{P}
use Rattle.gold_field.proofs.FieldLaws.{sum_cancel, product_cancel}
use Rattle.gold_field.proofs.laws.cancellation.Goals as goal

pub returns : goal.returns
returns c = record {
  sum = λ a b d. sum_cancel P a b d (lit< tt);
  product = product_cancel;
}
