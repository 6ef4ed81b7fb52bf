use Rattle.std.proofs.Common.{◌≡◌, take}
use Rattle.std.specs.Prelude.{All, vec_len}
use Rattle.std.specs.List.{AllZip}
use Rattle.flow_engine.specs.Lent.{AreBoards, IsHand, IsOwn}
use Rattle.flow_engine.proofs.boards.make_boards.Given as goal

abbrev pub invariant-loop-answers : goal.invariant-loop-answers
invariant-loop-answers l = record {
  boards : AreBoards (take l.answers-index l.tasks) l.boards.items;
  own : AllZip (IsOwn l.workers) l.boards.items l.own.items;
  hands : All (λ h. IsHand l.boards.items h.items) l.hands.items;
  each : vec_len l.hands ≡ l.workers;
}
