use Rattle.std.proofs.Common.{length, sym, subst}
use Rattle.gold_field.specs.Form.{ConstraintBelow}
use Rattle.iden_files.proofs.failing.first_failing_of.Goals as goal

pub holds-requires : goal.holds-requires
holds-requires c = record {
  below = subst (λ k. ConstraintBelow (length c.args.w.now) k) (sym c.index-constraints-i.is)
      (c.requires.below c.loop-i.i c.index-constraints-i.result c.loop-i-test.true);
}
