use Rattle.std.proofs.Common.{◌≡◌, Option, map, drop}
use Rattle.cir_meaning.specs.Frame.{Caller, Maker}
use Rattle.cir_meaning.specs.Bodies.{all_fed}
use Rattle.cir_frame.specs.Shown.{part_of}
use Rattle.cir_evaluate.specs.Within.{context_of}
use Rattle.cir_inst.proofs.bodies.all_fed.Given as goal

abbrev pub invariant-loop-part : goal.invariant-loop-part
invariant-loop-part g l =
    (call : Caller) (make : Option Maker)
    → all_fed (context_of l.context call make) (map part_of (drop l.part-index l.parts))
    ≡ all_fed (context_of l.context call make) (map part_of l.parts)
