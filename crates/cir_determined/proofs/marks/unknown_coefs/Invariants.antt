use Rattle.std.proofs.Common.{◌≡◌, take}
use Rattle.cir_determined.specs.Marks.{marks_of}
use Rattle.cir_determined.specs.Rules.{unknown_coefs}
use Rattle.cir_determined.proofs.marks.unknown_coefs.Given as goal

abbrev pub invariant-loop-t : goal.invariant-loop-t
invariant-loop-t l =
    l.coefs.items ≡ unknown_coefs (marks_of l.marks) (take l.t-index l.terms)
