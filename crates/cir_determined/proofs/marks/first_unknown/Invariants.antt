use Rattle.std.proofs.Common.{◌≡◌, ℕ, ◌<◌, ◌≤◌, true}
use Rattle.cir_determined.specs.Marks.{marks_of}
use Rattle.cir_determined.proofs.marks.first_unknown.Given as goal

abbrev pub invariant-loop-wire : goal.invariant-loop-wire
invariant-loop-wire l =
    (w : ℕ) → 1 ≤ w → w < l.wire → (marks_of l.marks).known w ≡ true
