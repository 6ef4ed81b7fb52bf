use Rattle.std.proofs.Common.{◌≡◌, ℕ, ◌+◌, refl, subst, arith}
use Rattle.flow_core.specs.Flow.{HasValue}
use Rattle.flow_board.proofs.Calls.{sits, read_asks, read_gives, read_leaves}
use Rattle.flow_board.proofs.board.Board.read.Goals as goal

pub load-word-requires : goal.load-word-requires
load-word-requires g c = read_asks
    (sits c.self.invariant c.seat.view_is c.self.view_is c.requires.own c.seat.invariant) _
    c.args.cell c.requires.reads

pub overflow_sub-word : goal.overflow_sub-word
overflow_sub-word g c = let v = read_gives
    (sits c.self.invariant c.seat.view_is c.self.view_is c.requires.own c.seat.invariant)
    c.args.cell c.load-word.result c.load-word.new.seat.me c.requires.reads
    c.load-word.ensures.2 in let e = v.1 in omega arith

pub unreachable-requires : goal.unreachable-requires
unreachable-requires g c = let v = read_gives
    (sits c.self.invariant c.seat.view_is c.self.view_is c.requires.own c.seat.invariant)
    c.args.cell c.load-word.result c.load-word.new.seat.me c.requires.reads
    c.load-word.ensures.2 in let e = v.1 in let less = v.3 in
    let big = c.in_default.ensures.none.0 refl in absurd (omega arith)

pub returns-clause-value : goal.returns-clause-value
returns-clause-value g c = let v = read_gives
    (sits c.self.invariant c.seat.view_is c.self.view_is c.requires.own c.seat.invariant)
    c.args.cell c.load-word.result c.load-word.new.seat.me c.requires.reads
    c.load-word.ensures.2 in let e = v.1 in let is = c.in-Some.ensures.value in
    let same-value : v.0 ≡ c.in-Some.value = omega arith in
    let H : ℕ → Type 0 = λ x. HasValue c.args.self.now.flow c.args.cell x in subst H same-value v.2

pub returns-clause-seat : goal.returns-clause-seat
returns-clause-seat g c = let v = read_gives
    (sits c.self.invariant c.seat.view_is c.self.view_is c.requires.own c.seat.invariant)
    c.args.cell c.load-word.result c.load-word.new.seat.me c.requires.reads
    c.load-word.ensures.2 in let e = v.1 in let is = c.in-Some.ensures.value in
    let found : c.load-word.result ≡ c.in-Some.value + 1 = omega arith in
    read_leaves
    (sits c.self.invariant c.seat.view_is c.self.view_is c.requires.own c.seat.invariant)
    c.load-word.new.seat.table_id c.load-word.new.seat.me c.args.cell c.load-word.result
    c.in-Some.value c.load-word.ensures.0 c.load-word.ensures.2.0 found
