use Rattle.std.proofs.Common.{◌≡◌, length, map}
use Rattle.cir_determined.specs.Marks.{marks_of}
use Rattle.cir_determined.specs.Circuit.{normalized}
use Rattle.cir_determined.proofs.Found.{HasSwept}
use Rattle.cir_determined.proofs.search.sweep.Given as goal

abbrev pub invariant-loop-k : goal.invariant-loop-k
invariant-loop-k l =
    HasSwept (map (normalized (length l.initial.marks)) l.constraints) l.k-index
    (marks_of l.initial.marks) (marks_of l.marks) l.initial.rules.items l.rules.items l.more
    × (l.place ≡ l.k-index) × (length l.marks ≡ length l.initial.marks)
