use Rattle.std.proofs.Common.{◌≡◌, Option, drop}
use Rattle.cir_meaning.specs.Frame.{Caller, Maker}
use Rattle.cir_meaning.specs.Bodies.{all_written}
use Rattle.cir_frame.specs.Shown.{signals_of}
use Rattle.cir_evaluate.specs.Within.{context_of}
use Rattle.cir_inst.proofs.bodies.all_written.Given as goal

abbrev pub invariant-loop-signal : goal.invariant-loop-signal
invariant-loop-signal g l =
    (call : Caller) (make : Option Maker)
    → all_written (context_of l.context call make) (signals_of (drop l.signal-index l.signals))
    ≡ all_written (context_of l.context call make) (signals_of l.signals)
