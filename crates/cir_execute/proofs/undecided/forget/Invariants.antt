use Rattle.std.proofs.Common.{◌≡◌, List, drop}
use Rattle.cir_frame.specs.declared.world.World.{World}
use Rattle.cir_frame.specs.Shown.{state_of}
use Rattle.cir_meaning.specs.Source.{Equation}
use Rattle.cir_meaning.specs.Scan.{forget}
use Rattle.cir_execute.proofs.undecided.forget.Given as goal

abbrev pub invariant-loop-n : goal.invariant-loop-n
invariant-loop-n l =
    (w : World) (qs : List Equation) → forget (drop l.n-index l.variables) (state_of l.frame w qs)
    ≡ forget l.variables (state_of l.initial.frame w qs)
