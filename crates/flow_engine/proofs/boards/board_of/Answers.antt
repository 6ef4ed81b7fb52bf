use Rattle.std.proofs.Common.{subst, sym}
use Rattle.flow_core.specs.Flow.{IsFlow}
use Rattle.flow_engine.specs.Task.{Task, answers_of}
use Rattle.flow_engine.proofs.Laws.{laws}
use Rattle.flow_engine.proofs.boards.board_of.Goals as goal

pub make-requires-clause-flow : goal.make-requires-clause-flow
make-requires-clause-flow c κs =
    let P : Task → Type 0 = λ t. IsFlow (answers_of t) in
    subst P (sym c.again.ensures) (laws c.args.answers.now c.facts.ensures).flow
