use Rattle.std.proofs.Common.{◌≡◌, ◌<◌, ◌/◌, ◌∙◌, None, ap, arith, get_or}
use Rattle.std.proofs.Common.{length, set}
use Rattle.flow_board.specs.Seats.{Worker}
use Rattle.flow_engine.specs.Task.{Task}
use Rattle.flow_engine.specs.Lent.{IsHand}
use Rattle.flow_engine.proofs.Hands.{board_flow, boards_long, fresh_at, hand_after, hand_back}
use Rattle.flow_engine.proofs.Hands.{hand_free, hand_long}
use Rattle.flow_engine.proofs.Numbered.{item_fits}
use Rattle.flow_engine.proofs.Orders.{if_ok}
use Rattle.flow_engine.proofs.work.attend_item.Goals as goal

pub returns-then-strands-eq0-clause-back : goal.returns-then-strands-eq0-clause-back
returns-then-strands-eq0-clause-back g c =
    hand_back c.args.batch.now.boards.now c.args.hand.now c.requires.free

pub bounds-tasks-at : goal.bounds-tasks-at
bounds-tasks-at g c =
    let long = boards_long c.args.batch.now.tasks.now c.args.batch.now.boards.now c.requires.boards
    in let lt = c.if-item-strands.false in omega arith

pub bounds-hand-at : goal.bounds-hand-at
bounds-hand-at g c =
    let long = hand_long c.args.batch.now.boards.now c.args.hand.now c.requires.free in
    let lt = c.if-item-strands.false in omega arith

pub attend-requires-clause-flow : goal.attend-requires-clause-flow
attend-requires-clause-flow g c κs within =
    let ts = c.args.batch.now.tasks.now in let ps = c.args.batch.now.boards.now in
    let long = boards_long ts ps c.requires.boards in let lt = c.if-item-strands.false in
    board_flow ts ps (c.args.item / c.args.batch.now.strands) c.index-tasks-at.result
    c.index-boards-at.result c.requires.boards (omega arith) c.index-tasks-at.is
    c.index-boards-at.is

pub attend-requires-clause-items : goal.attend-requires-clause-items
attend-requires-clause-items g c κs within =
    let ts = c.args.batch.now.tasks.now in let ps = c.args.batch.now.boards.now in
    let long = boards_long ts ps c.requires.boards in let lt = c.if-item-strands.false in
    let k = c.args.item / c.args.batch.now.strands in
    let near : k < length ts = omega arith in
    let each = ap (λ (t : Task). t.plan.graph.strands) c.index-tasks-at.is
    ∙ c.requires.items.each k c.index-tasks-at.result near in
    let fits = item_fits c.args.item (length ts) c.args.batch.now.strands near in
    let few = c.requires.items.few in omega arith

pub attend-requires-clause-own : goal.attend-requires-clause-own
attend-requires-clause-own g c κs within =
    let k = c.args.item / c.args.batch.now.strands in let lt = c.if-item-strands.false in
    let was = ap (λ (w : Worker). get_or c.args.hand.now k w) c.index-hand-at.is in
    (fresh_at c.args.batch.now.boards.now c.args.hand.now k c.index-boards-at.result
    (get_or c.args.hand.now k c.index-hand-at.result) c.requires.free (omega arith)
    c.index-boards-at.is was).own

pub attend-requires-clause-near : goal.attend-requires-clause-near
attend-requires-clause-near g c κs within =
    let ts = c.args.batch.now.tasks.now in let ps = c.args.batch.now.boards.now in
    let long = boards_long ts ps c.requires.boards in let lt = c.if-item-strands.false in
    let k = c.args.item / c.args.batch.now.strands in
    let near : k < length ts = omega arith in
    let each = ap (λ (t : Task). t.plan.graph.strands) c.index-tasks-at.is
    ∙ c.requires.items.each k c.index-tasks-at.result near in
    let some = c.if-strands-eq0.false in omega arith

pub attend-requires-clause-free : goal.attend-requires-clause-free
attend-requires-clause-free g c κs within =
    let k = c.args.item / c.args.batch.now.strands in let lt = c.if-item-strands.false in
    let was = ap (λ (w : Worker). get_or c.args.hand.now k w) c.index-hand-at.is in
    (fresh_at c.args.batch.now.boards.now c.args.hand.now k c.index-boards-at.result
    (get_or c.args.hand.now k c.index-hand-at.result) c.requires.free (omega arith)
    c.index-boards-at.is was).free

pub returns-clause-free : goal.returns-clause-free
returns-clause-free g c =
    let ps = c.args.batch.now.boards.now in let ws = c.args.hand.now in
    let k = c.args.item / c.args.batch.now.strands in let lt = c.if-item-strands.false in
    let was = ap (λ (w : Worker). get_or ws k w) c.index-hand-at.is in
    if_ok (λ _. c.attend.new.seat.view.holding ≡ None)
    (λ _. IsHand ps (set ws k c.attend.new.seat)) c.attend.result
    (λ _ free. hand_free ps ws k c.index-boards-at.result (get_or ws k c.index-hand-at.result)
    c.requires.free (omega arith) c.index-boards-at.is was c.attend.new.seat
    c.attend.ensures.own c.attend.ensures.share free) c.attend.ensures.free

pub returns-clause-back : goal.returns-clause-back
returns-clause-back g c =
    let ps = c.args.batch.now.boards.now in let ws = c.args.hand.now in
    let k = c.args.item / c.args.batch.now.strands in let lt = c.if-item-strands.false in
    let was = ap (λ (w : Worker). get_or ws k w) c.index-hand-at.is in
    hand_after ps ws k c.index-boards-at.result (get_or ws k c.index-hand-at.result)
    c.requires.free (omega arith) c.index-boards-at.is was c.attend.new.seat
    c.attend.ensures.own c.attend.ensures.share
