use Rattle.std.proofs.Common.{length}
use Rattle.std.specs.Prelude.{vec_len}
use Rattle.flow_engine.proofs.Closing.{Closes}
use Rattle.flow_engine.proofs.boards.close_boards.Given as goal

abbrev pub invariant-loop-board : goal.invariant-loop-board
invariant-loop-board l =
    Closes l.tasks (vec_len l.hands) l.boards.items l.own.items l.hands.items l.outcomes.items

abbrev pub decreases-loop-board : goal.decreases-loop-board
decreases-loop-board l = length l.boards.items
