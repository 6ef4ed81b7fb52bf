use Rattle.std.proofs.Common.{List}
use Rattle.std.specs.Prelude.{◌≡◌, map, false}
use Rattle.cir_ast.specs.Tree.{bare, bare_slot}
use Rattle.cir_meaning.specs.Source.{Equation}
use Rattle.cir_meaning.specs.Simple as S
use Rattle.cir_frame.specs.Shown.{state_of}
use Rattle.cir_evaluate.specs.Within.{Means, context_at, where_at}
use Rattle.cir_create.proofs.Turns.{Left}
use Rattle.cir_execute.proofs.Tuples.{slots_from}
use Rattle.cir_execute.proofs.simple.all_slots.Given as goal

abbrev pub invariant-loop-at : goal.invariant-loop-at
invariant-loop-at g l =
    (m : Means (goal.C-post g l.here.context.now.call.now) l.here.context.now)
    (qs : List Equation) → l.here.shaded ≡ false
    → Left qs l.initial.world l.frame l.world
    (S.slots (context_at l.here m) (where_at l.here) l.arrow (map bare_slot l.slots)
    (map bare l.es) (state_of l.initial.frame l.initial.world qs))
    (slots_from (context_at l.here m) (where_at l.here) l.arrow l.slots l.es l.at)
