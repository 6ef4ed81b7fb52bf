use Rattle.std.proofs.Common.{take}
use Rattle.cir_determined.specs.Marks.{marks_of}
use Rattle.cir_determined.specs.Rules.{AreKnownBut}
use Rattle.cir_determined.proofs.marks.are_known_but.Given as goal

abbrev pub invariant-loop-t : goal.invariant-loop-t
invariant-loop-t l = AreKnownBut (marks_of l.marks) l.wire (take l.t-index l.terms)
