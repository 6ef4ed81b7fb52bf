use Rattle.std.proofs.Common.{◌≡◌, true, take, All}
use Rattle.cir_determined.specs.Marks.{marks_of}
use Rattle.cir_determined.proofs.search.unknown_wire.Given as goal

abbrev pub invariant-loop-t : goal.invariant-loop-t
invariant-loop-t l =
    All (λ t. (marks_of l.marks).known t.signal ≡ true) (take l.t-index l.terms)
