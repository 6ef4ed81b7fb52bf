use Rattle.std.proofs.Common.{length}
use Rattle.cir_determined.proofs.Kept.{named_below}
use Rattle.cir_determined.proofs.step.is_last_unknown.Goals as goal

pub is_known-requires : goal.is_known-requires
is_known-requires c =
    named_below (length c.args.marks.now) c.args.wire c.args.k.now.c c.requires.within.c
    c.requires.named
