use Rattle.std.proofs.Common.{List}
use Rattle.cir_ast.specs.Tree.{bare, bare_statement}
use Rattle.cir_meaning.specs.Source.{Equation}
use Rattle.cir_meaning.specs.Statement.{most_turns, turns}
use Rattle.cir_frame.specs.Shown.{state_of}
use Rattle.cir_create.specs.Makes.{BodyMeans, context_in}
use Rattle.cir_execute.specs.Rests.{turn_of}
use Rattle.cir_execute.proofs.Branching.{Rests, TurnsLeft, all_from}
use Rattle.cir_execute.proofs.Flowing.{unknown_by}
use Rattle.cir_execute.proofs.statement.+statements.Given as goal

-- what the rest leaves is what all leaves
abbrev pub invariant-execute_all-loop-statement : goal.invariant-execute_all-loop-statement
invariant-execute_all-loop-statement g l =
    (m : BodyMeans (goal.C-post g l.body.context.now.call.now) (goal.M-post g l.body.make.now)
    l.body) (qs : List Equation) → Rests qs l.initial.world l.frame l.world
    (all_from (context_in l.body m) l.statements 0 (state_of l.initial.frame l.initial.world qs))
    (all_from (context_in l.body m) l.statements l.statement-index)

abbrev pub invariant-turns-loop-turn : goal.invariant-turns-loop-turn
invariant-turns-loop-turn g l =
    (m : BodyMeans (goal.C-post g l.body.context.now.call.now) (goal.M-post g l.body.make.now)
    l.body) (qs : List Equation)
    → TurnsLeft (context_in l.body m) l.spot (bare l.condition)
    (turn_of (context_in l.body m) l.spot (bare_statement l.repeated) l.step)
    (unknown_by (context_in l.body m) l.spot l.rest) l._turn qs l.initial.world l.frame l.world
    (turns most_turns (context_in l.body m) l.spot (bare l.condition)
    (turn_of (context_in l.body m) l.spot (bare_statement l.repeated) l.step)
    (unknown_by (context_in l.body m) l.spot l.rest)
    (state_of l.initial.frame l.initial.world qs))
