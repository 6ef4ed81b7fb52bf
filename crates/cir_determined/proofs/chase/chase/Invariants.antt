use Rattle.std.proofs.Common.{◌≡◌, length, map}
use Rattle.cir_determined.specs.Marks.{marks_of}
use Rattle.cir_determined.specs.Circuit.{normalized}
use Rattle.cir_determined.specs.Search.{AddsRules}
use Rattle.cir_determined.proofs.chase.chase.Given as goal

abbrev pub invariant-loop-turn : goal.invariant-loop-turn
invariant-loop-turn l =
    AddsRules (map (normalized (length l.initial.marks)) l.constraints) (marks_of l.initial.marks)
    (marks_of l.marks) l.initial.rules.items l.rules.items
    × (length l.marks ≡ length l.initial.marks)
