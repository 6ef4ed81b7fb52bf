use Rattle.std.proofs.Common.{take}
use Rattle.cir_determined.specs.Marks.{marks_of}
use Rattle.cir_determined.specs.Rules.{unknown}
use Rattle.cir_determined.proofs.Marking.{AreBoolean}
use Rattle.cir_determined.proofs.marks.are_boolean.Given as goal

abbrev pub invariant-loop-t : goal.invariant-loop-t
invariant-loop-t l =
    AreBoolean (marks_of l.marks) (unknown (marks_of l.marks) (take l.t-index l.terms))
