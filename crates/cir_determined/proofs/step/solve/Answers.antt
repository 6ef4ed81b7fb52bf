use Rattle.std.proofs.Common.{length, ap, sym, ◌∙◌}
use Rattle.cir_determined.specs.Rules.{is_named}
use Rattle.cir_determined.proofs.Kept.{named_below}
use Rattle.cir_determined.proofs.step.solve.Goals as goal

pub mark_known-requires : goal.mark_known-requires
mark_known-requires c =
    named_below (length c.args.marks.now) c.args.wire c.args.k.now.c c.requires.c
    (sym (c.if-not-names.ensures ∙ ap (is_named c.args.wire) c.as_slice.ensures.terms))
