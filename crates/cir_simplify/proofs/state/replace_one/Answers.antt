use Rattle.std.proofs.Common.{sym, subst}
use Rattle.cir_lc.specs.Normal.{IsConstraintWithin}
use Rattle.cir_simplify.proofs.state.replace_one.Goals as goal

pub set-requires-clause-good : goal.set-requires-clause-good
set-requires-clause-good c =
    let within =
    subst (IsConstraintWithin c.args.rules.bound) (sym c.at.ensures)
    (c.requires.indexed.good c.args.i).within in
    record {
      normal = c.in_ok-q.ensures.normal;
      rises = c.in_ok-q.ensures.rises;
      within = c.in_ok-q.ensures.within c.args.rules.bound c.requires.below within c.requires.by;
    }
