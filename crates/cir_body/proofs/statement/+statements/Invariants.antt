use Rattle.cir_ast.specs.Tree.{bare, bare_statement}
use Rattle.cir_meaning.specs.Statement.{most_turns}
use Rattle.cir_execute.specs.Rests.{rest_by, rest_fault}
use Rattle.cir_steps.specs.Emission.{Emitted}
use Rattle.cir_steps.specs.Statements.{emit_turns, emit_undecided}
use Rattle.cir_make.specs.Emits.{go_on}
use Rattle.cir_make.specs.Means.{BodyMeans, emitting_in}
use Rattle.cir_make.specs.Shows.{Shows}
use Rattle.cir_body.specs.Turns.{turn_of}
use Rattle.cir_body.proofs.Branching.{all_from}
use Rattle.cir_make.proofs.Going.{Rests}
use Rattle.cir_body.proofs.Turning.{TurnsLeft}
use Rattle.cir_body.proofs.statement.+statements.Given as goal

-- what the rest emits is what all emit
abbrev pub invariant-execute_all-loop-statement : goal.invariant-execute_all-loop-statement
invariant-execute_all-loop-statement g l =
    (m : BodyMeans (goal.C-post g l.body.context.now.call.now) (goal.M-post g l.body.make.now)
    l.body) (d : Emitted) → Shows m.first l.initial.inside l.initial.whole d
    → Rests m.first l.inside l.whole
    (go_on d (all_from (emitting_in l.body m) l.statements 0))
    (all_from (emitting_in l.body m) l.statements l.statement-index)

abbrev pub invariant-turns-loop-turn : goal.invariant-turns-loop-turn
invariant-turns-loop-turn g l =
    (m : BodyMeans (goal.C-post g l.body.context.now.call.now) (goal.M-post g l.body.make.now)
    l.body) (d : Emitted) → Shows m.first l.initial.inside l.initial.whole d
    → TurnsLeft (emitting_in l.body m) l.spot (bare l.condition)
    (turn_of (emitting_in l.body m) l.spot (bare_statement l.repeated) l.step)
    (emit_undecided (emitting_in l.body m) l.spot (rest_fault l.rest) (rest_by l.spot l.rest))
    m.first l._turn l.inside l.whole
    (go_on d (emit_turns most_turns (emitting_in l.body m) l.spot (bare l.condition)
    (turn_of (emitting_in l.body m) l.spot (bare_statement l.repeated) l.step)
    (emit_undecided (emitting_in l.body m) l.spot (rest_fault l.rest)
    (rest_by l.spot l.rest))))
