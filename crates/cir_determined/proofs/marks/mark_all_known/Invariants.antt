use Rattle.std.proofs.Common.{◌≡◌, take, length}
use Rattle.cir_determined.specs.Marks.{marks_of}
use Rattle.cir_determined.specs.Rules.{with_all_known}
use Rattle.cir_determined.proofs.marks.mark_all_known.Given as goal

abbrev pub invariant-loop-t : goal.invariant-loop-t
invariant-loop-t l =
    (marks_of l.marks ≡ with_all_known (take l.t-index l.terms) (marks_of l.initial.marks))
    × (length l.marks ≡ length l.initial.marks)
