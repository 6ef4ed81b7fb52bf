use Rattle.std.proofs.Common.{◌≡◌, ℕ, ◌∷◌, ◌++◌, [], List, Vec, Global, arith}
use Rattle.std.proofs.Common.{get_or, length}
use Rattle.std.proofs.Common.{subst, sym, vec_len}
use Rattle.std.specs.Prelude.{All}
use Rattle.std.specs.List.{AllZip}
use Rattle.std.proofs.lemmas.List.{nil_from_length}
use Rattle.flow_board.specs.Seats.{Place, Worker}
use Rattle.wit_flow.specs.declared.Outcome.{Outcome}
use Rattle.flow_engine.specs.Task.{IsOneThread}
use Rattle.flow_engine.specs.Lent.{IsHandBack}
use Rattle.flow_engine.proofs.Closing.{none_closed, all_closed, task_near, flow_is, has_seat}
use Rattle.flow_engine.proofs.Closing.{hands_are, seat_is, closes_more}
use Rattle.flow_engine.proofs.boards.close_boards.Goals as goal

pub loop-board-init : goal.loop-board-init
loop-board-init c =
    none_closed c.args.tasks.now (vec_len c.args.hands) c.args.boards.items c.args.own.items
    c.args.hands.items c.in_ok-outcomes.outcomes.items c.requires.boards c.requires.own
    c.requires.hands c.in_ok-outcomes.ensures.items

pub unreachable-requires : goal.unreachable-requires
unreachable-requires c =
    let l = c.loop-board in
    let none : length l.own.items ≡ 0 =
    let e = c.in_default-pop.ensures.cases.0 in omega (arith, l.own.ok) in
    has_seat c.args.tasks.now (vec_len l.hands) l.boards.items l.own.items l.hands.items
    l.outcomes.items l.invariant c.pop.new.self.items c.in-Some.board c.in-Some.ensures.items none

pub take_back-requires-clause-own : goal.take_back-requires-clause-own
take_back-requires-clause-own c =
    let l = c.loop-board in
    (seat_is c.args.tasks.now (vec_len l.hands) l.boards.items l.own.items l.hands.items
    l.outcomes.items l.invariant c.pop.new.self.items c.in-Some.board c.in-Some.ensures.items
    c.pop-in-Some.new.self.items c.in-Some-pop.seat c.in-Some-pop.ensures.items).own

pub take_back-requires-clause-free : goal.take_back-requires-clause-free
take_back-requires-clause-free c =
    let l = c.loop-board in
    (seat_is c.args.tasks.now (vec_len l.hands) l.boards.items l.own.items l.hands.items
    l.outcomes.items l.invariant c.pop.new.self.items c.in-Some.board c.in-Some.ensures.items
    c.pop-in-Some.new.self.items c.in-Some-pop.seat c.in-Some-pop.ensures.items).free

pub take_back-requires-clause-hands : goal.take_back-requires-clause-hands
take_back-requires-clause-hands c =
    let l = c.loop-board in let p : Place = c.in-Some.board in
    let A : List Place → Type 0 =
    λ ps. All (λ (h : Vec Worker Global). IsHandBack (ps ++ p ∷ []) h.items) l.hands.items in
    subst A (sym c.as_slice.ensures.value)
    (hands_are c.args.tasks.now (vec_len l.hands) l.boards.items l.own.items l.hands.items
    l.outcomes.items l.invariant c.pop.new.self.items p c.in-Some.ensures.items)

pub bounds-tasks-len : goal.bounds-tasks-len
bounds-tasks-len c =
    let l = c.loop-board in
    let near = task_near c.args.tasks.now (vec_len l.hands) l.boards.items l.own.items
    l.hands.items l.outcomes.items l.invariant c.pop.new.self.items c.in-Some.board
    c.in-Some.ensures.items in
    let e = c.len.ensures in omega (arith, c.pop.new.self.ok)

pub close_board-requires-clause-flow : goal.close_board-requires-clause-flow
close_board-requires-clause-flow c =
    let l = c.loop-board in let t = c.index-tasks-len.result in
    let n : c.len.result ≡ length c.pop.new.self.items =
    let e = c.len.ensures in omega (arith, c.pop.new.self.ok) in
    flow_is c.args.tasks.now (vec_len l.hands) l.boards.items l.own.items l.hands.items
    l.outcomes.items l.invariant c.pop.new.self.items c.in-Some.board c.in-Some.ensures.items t
    (subst (λ (k : ℕ). t ≡ get_or c.args.tasks.now k t) n c.index-tasks-len.is)

pub close_board-requires-clause-whole : goal.close_board-requires-clause-whole
close_board-requires-clause-whole c =
    let l = c.loop-board in
    let seat = (seat_is c.args.tasks.now (vec_len l.hands) l.boards.items l.own.items
    l.hands.items l.outcomes.items l.invariant c.pop.new.self.items c.in-Some.board
    c.in-Some.ensures.items c.pop-in-Some.new.self.items c.in-Some-pop.seat
    c.in-Some-pop.ensures.items).share in
    let part = c.in_ok-hands.ensures.share in omega arith

pub loop-board-preserved : goal.loop-board-preserved
loop-board-preserved c =
    let l = c.loop-board in let t = c.index-tasks-len.result in
    let n : c.len.result ≡ length c.pop.new.self.items =
    let e = c.len.ensures in omega (arith, c.pop.new.self.ok) in
    closes_more c.args.tasks.now (vec_len l.hands) l.boards.items l.own.items l.hands.items
    l.outcomes.items l.invariant c.pop.new.self.items c.in-Some.board c.in-Some.ensures.items
    c.pop-in-Some.new.self.items c.in-Some-pop.seat c.in-Some-pop.ensures.items
    c.in_ok-hands.hands.items (vec_len c.in_ok-hands.hands) t c.in_ok-outcome.outcome
    c.push.new.self.items c.in_ok-hands.ensures.each
    (subst (λ (ps : List Place). All (λ (h : Vec Worker Global). IsHandBack ps h.items)
    c.in_ok-hands.hands.items) c.as_slice.ensures.value c.in_ok-hands.ensures.hands)
    (subst (λ (k : ℕ). t ≡ get_or c.args.tasks.now k t) n c.index-tasks-len.is)
    c.in_ok-outcome.ensures c.in_ok-push.ensures.items

pub returns : goal.returns
returns c =
    let l = c.loop-board in
    let none : length l.boards.items ≡ 0 =
    let e = c.in_default.ensures.cases.0 in omega (arith, l.boards.ok) in
    let O : List Outcome → Type 0 = AllZip IsOneThread c.args.tasks.now in
    subst O (sym c.reverse.ensures.items)
    (all_closed c.args.tasks.now (vec_len l.hands) l.boards.items l.own.items l.hands.items
    l.outcomes.items l.invariant (nil_from_length l.boards.items none))
