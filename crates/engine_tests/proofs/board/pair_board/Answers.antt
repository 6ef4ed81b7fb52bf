use Rattle.std.proofs.Common.{sym, ◌∙◌, ap, subst, length}
use Rattle.flow_core.specs.Flow.{IsFlow}
use Rattle.engine_tests.specs.Examples.{pair}
use Rattle.engine_tests.proofs.Examples.{pair_is_flow}
use Rattle.engine_tests.proofs.board.pair_board.Goals as goal

pub make-requires-clause-flow : goal.make-requires-clause-flow
make-requires-clause-flow c = λ _. subst (λ n. IsFlow (pair n)) (sym c.of.ensures)
    (pair_is_flow c.args.graph.now (sym c.facts.ensures.net.reads_each
    ∙ ap length c.requires.reads) c.requires.cells c.requires.reads c.requires.writes)
