use Rattle.cir_make.specs.Arrays.{AreArrays}
use Rattle.cir_make.proofs.collecting.arrays_of.Given as goal

abbrev pub invariant-loop-n : goal.invariant-loop-n
invariant-loop-n l =
    AreArrays l.standing.frame.now l.standing.cells.now l.standing.befores.now l.arrays.items

abbrev pub invariant-loop-n-2 : goal.invariant-loop-n-2
invariant-loop-n-2 l =
    AreArrays l.standing.frame.now l.standing.cells.now l.standing.befores.now l.arrays.items

abbrev pub invariant-loop-member : goal.invariant-loop-member
invariant-loop-member l =
    AreArrays l.standing.frame.now l.standing.cells.now l.standing.befores.now l.arrays.items
