use Rattle.flow_core.specs.Events.{hold}
use Rattle.engine_tests.proofs.board.read_taken.Goals as goal

pub read-requires-clause-reads : goal.read-requires-clause-reads
read-requires-clause-reads g c = λ _ _. (hold c.args.strand 0 0, c.requires.held, c.requires.reads)
