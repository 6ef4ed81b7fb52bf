use Rattle.std.proofs.Common.{length}
use Rattle.cir_determined.proofs.search.visit.Goals as goal

pub visit_normal-requires-2 : goal.visit_normal-requires-2
visit_normal-requires-2 c = c.in_ok-normal.ensures.below (length c.args.marks.now) c.requires
