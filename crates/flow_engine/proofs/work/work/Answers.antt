use Rattle.std.proofs.Common.{List, subst, sym}
use Rattle.flow_board.specs.Seats.{Worker}
use Rattle.flow_engine.specs.Lent.{IsHandBack}
use Rattle.flow_engine.proofs.Hands.{hand_back}
use Rattle.flow_engine.proofs.work.work.Goals as goal
use Rattle.flow_engine.proofs.work.work.Goals.{in-None, in-Some+in_default}
use Rattle.flow_engine.proofs.work.work.Goals.{in-Some+in-Some-next+then-is_err}

pub returns : goal.returns
returns g c =
    let H : List Worker → Type 0 = IsHandBack c.args.batch.now.boards.now in
    let back = hand_back c.args.batch.now.boards.now c.loop.hand c.loop.invariant in
    elim c.match-next.branch [
      | in-None w ↦ subst H (sym w.hand-is) back
      | in-Some+in_default w ↦ subst H (sym w.hand-is) back
      | in-Some+in-Some-next+then-is_err w ↦ subst H (sym w.hand-is) w.attend_item.ensures.back
    ]
