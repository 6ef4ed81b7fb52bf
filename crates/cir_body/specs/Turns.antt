-- A turn of a loop while its steps are made.
use Rattle.std.specs.Prelude.{Option, Some, None}
use Rattle.std.proofs.Common.{Bor}
use Rattle.cir_ast.specs.declared.program.Spot.{Spot}
use Rattle.cir_ast.specs.declared.program.Meant.{Meant}
use Rattle.cir_ast.specs.declared.marked.Step.{Step}
use Rattle.cir_ast.specs.Tree.{Assign, Statement, Assigned, bare_assign}
use Rattle.cir_meaning.specs.Tried.{Tried}
use Rattle.cir_steps.specs.Emission.{Emission, Emitted, then_emit}
use Rattle.cir_steps.specs.Making.{Emitting}
use Rattle.cir_steps.specs.Emit.{emit_counted, emit_simple}
use Rattle.cir_steps.specs.Statements.{emit}

-- a turn of a `for`: a block of the body and the step
abbrev pub loop_turn : Emitting → Spot → Statement Spot Meant → Spot → Assign Meant → Emission
    → Tried Emitted
loop_turn q spot body step_spot a x =
    then_emit (emit_counted q spot x) (λ x1. then_emit (emit q body x1)
    (emit_simple q step_spot (Assigned a)))

-- a turn of a `while`, or of a `for`, which has a step
abbrev pub turn_of : Emitting → Spot → Statement Spot Meant → Option (Bor (Step Spot Meant))
    → Emission → Tried Emitted
turn_of q spot body None = emit q body
turn_of q spot body (Some step) =
    loop_turn q spot body step.now.spot (bare_assign step.now.assign)
