use Rattle.std.proofs.Common.{List, drop}
use Rattle.std.specs.Prelude.{map}
use Rattle.cir_ast.specs.Tree.{bare_simple}
use Rattle.cir_meaning.specs.Source.{Equation}
use Rattle.cir_meaning.specs.Simple.{each, execute_counted}
use Rattle.cir_frame.specs.Shown.{state_of}
use Rattle.cir_lift.specs.Turned.{turned}
use Rattle.cir_create.specs.Makes.{BodyMeans, context_in}
use Rattle.cir_create.proofs.Turns.{Left}
use Rattle.cir_execute.proofs.simple.lifted.Given as goal

abbrev pub invariant-loop-before : goal.invariant-loop-before
invariant-loop-before g l =
    (m : BodyMeans (goal.C-post g l.body.context.now.call.now) (goal.M-post g l.body.make.now)
    l.body) (qs : List Equation) → Left qs l.initial.world l.frame l.world
    (each (execute_counted (context_in l.body m) l.spot)
    (map (λ x. turned (bare_simple x)) l.before-items)
    (state_of l.initial.frame l.initial.world qs))
    (each (execute_counted (context_in l.body m) l.spot)
    (map (λ x. turned (bare_simple x)) (drop l.before-index l.before-items)))
