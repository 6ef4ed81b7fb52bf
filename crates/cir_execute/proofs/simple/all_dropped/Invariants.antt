use Rattle.std.proofs.Common.{List, drop}
use Rattle.std.specs.Prelude.{◌≡◌, map, false}
use Rattle.cir_ast.specs.Tree.{bare}
use Rattle.cir_meaning.specs.Source.{Equation}
use Rattle.cir_meaning.specs.Simple.{each, dropped}
use Rattle.cir_frame.specs.Shown.{state_of}
use Rattle.cir_evaluate.specs.Within.{Means, context_at, where_at}
use Rattle.cir_create.proofs.Turns.{Left}
use Rattle.cir_execute.proofs.simple.all_dropped.Given as goal

abbrev pub invariant-loop-e : goal.invariant-loop-e
invariant-loop-e g l =
    (m : Means (goal.C-post g l.here.context.now.call.now) l.here.context.now)
    (qs : List Equation) → l.here.shaded ≡ false
    → Left qs l.initial.world l.frame l.world
    (each (dropped (context_at l.here m) (where_at l.here)) (map bare l.es)
    (state_of l.frame l.initial.world qs))
    (each (dropped (context_at l.here m) (where_at l.here)) (map bare (drop l.e-index l.es)))
