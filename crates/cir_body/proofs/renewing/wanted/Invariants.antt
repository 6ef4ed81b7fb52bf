use Rattle.std.proofs.Common.{◌≡◌, ◌++◌, List, drop, map}
use Rattle.cir_frame.specs.declared.world.World.{World}
use Rattle.cir_frame.specs.Shown.{state_of}
use Rattle.cir_meaning.specs.Source.{Equation}
use Rattle.cir_steps.specs.Making.{wanted_of}
use Rattle.cir_make.specs.Steps.{elements_of}
use Rattle.cir_body.proofs.renewing.wanted.Given as goal

abbrev pub invariant-loop-n : goal.invariant-loop-n
invariant-loop-n l =
    (w : World) (qs : List Equation) → map elements_of l.wanted.items
    ++ wanted_of (drop l.n-index l.variables) (state_of l.frame w qs)
    ≡ wanted_of l.variables (state_of l.frame w qs)
