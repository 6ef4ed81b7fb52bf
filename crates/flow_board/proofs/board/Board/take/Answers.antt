use Rattle.std.proofs.Common.{◌≡◌, ◌+◌, ◌==◌, Bool, true, false, cond, refl, sym, ◌∙◌, ap, Some}
use Rattle.std.proofs.lemmas.Bool.{eq-eqb, ne_eqb}
use Rattle.flow_core.specs.Events.{hold}
use Rattle.flow_board.specs.Views.{after_take}
use Rattle.flow_board.proofs.Calls.{sits, take_asks, take_leaves, take_found, seat_fits}
use Rattle.flow_board.proofs.board.Board.take.Goals as goal

pub compare_exchange_with-found-requires : goal.compare_exchange_with-found-requires
compare_exchange_with-found-requires g c = take_asks
    (sits c.self.invariant c.seat.view_is c.self.view_is c.requires.own c.seat.invariant) _
    c.args.strand c.requires.free c.requires.near

pub invariant_of-seat : goal.invariant_of-seat
invariant_of-seat g c = let h : cond (c.compare_exchange_with-found.result == 0)
    (Some (hold c.args.strand 0 0)) c.seat.inside.seat.me.0.holding
    ≡ c.seat.inside.seat.me.0.holding =
    ap (λ (b : Bool). cond b (Some (hold c.args.strand 0 0)) c.seat.inside.seat.me.0.holding)
    (ne_eqb c.compare_exchange_with-found.result 0 c.if-found-ne0.true) in
    seat_fits c.compare_exchange_with-found.new.seat.me
    (after_take c.seat.inside.seat.me.0 (1 + c.self.inside.cells + c.args.strand)
    c.compare_exchange_with-found.result c.args.strand
    (c.compare_exchange_with-found.result == 0))
    c.seat.inside.seat.me.1 c.seat.inside.held
    (c.compare_exchange_with-found.ensures.2 c.args.strand refl)
    (h ∙ c.seat.invariant.0) c.seat.invariant.1 c.seat.invariant.2

pub returns-then-found-ne0-clause-found : goal.returns-then-found-ne0-clause-found
returns-then-found-ne0-clause-found g c = take_found
    (sits c.self.invariant c.seat.view_is c.self.view_is c.requires.own c.seat.invariant)
    c.compare_exchange_with-found.result false c.compare_exchange_with-found.new.seat.me
    (after_take c.seat.inside.seat.me.0 (1 + c.self.inside.cells + c.args.strand)
    c.compare_exchange_with-found.result c.args.strand
    (c.compare_exchange_with-found.result == 0))
    (sym (ne_eqb c.compare_exchange_with-found.result 0 c.if-found-ne0.true))
    (c.compare_exchange_with-found.ensures.2 c.args.strand refl) refl

pub returns-then-found-ne0-clause-seat : goal.returns-then-found-ne0-clause-seat
returns-then-found-ne0-clause-seat g c = take_leaves
    (sits c.self.invariant c.seat.view_is c.self.view_is c.requires.own c.seat.invariant)
    c.compare_exchange_with-found.new.seat.table_id c.compare_exchange_with-found.new.seat.me
    c.compare_exchange_with-found.result c.args.strand false
    c.compare_exchange_with-found.ensures.0
    (c.compare_exchange_with-found.ensures.2 c.args.strand refl)
    (sym (ne_eqb c.compare_exchange_with-found.result 0 c.if-found-ne0.true))

pub invariant_of-seat-2 : goal.invariant_of-seat-2
invariant_of-seat-2 g c = let h : cond (c.compare_exchange_with-found.result == 0)
    (Some (hold c.args.strand 0 0)) c.seat.inside.seat.me.0.holding
    ≡ Some (hold c.args.strand 0 0) =
    ap (λ (b : Bool). cond b (Some (hold c.args.strand 0 0)) c.seat.inside.seat.me.0.holding)
    (eq-eqb c.compare_exchange_with-found.result 0 c.if-found-ne0.false) in
    seat_fits c.compare_exchange_with-found.new.seat.me
    (after_take c.seat.inside.seat.me.0 (1 + c.self.inside.cells + c.args.strand)
    c.compare_exchange_with-found.result c.args.strand
    (c.compare_exchange_with-found.result == 0))
    c.seat.inside.seat.me.1 (Some (hold c.args.strand 0 0))
    (c.compare_exchange_with-found.ensures.2 c.args.strand refl) h c.seat.invariant.1
    c.seat.invariant.2

pub returns-clause-found : goal.returns-clause-found
returns-clause-found g c = take_found
    (sits c.self.invariant c.seat.view_is c.self.view_is c.requires.own c.seat.invariant)
    c.compare_exchange_with-found.result true c.compare_exchange_with-found.new.seat.me
    (after_take c.seat.inside.seat.me.0 (1 + c.self.inside.cells + c.args.strand)
    c.compare_exchange_with-found.result c.args.strand
    (c.compare_exchange_with-found.result == 0))
    (sym (eq-eqb c.compare_exchange_with-found.result 0 c.if-found-ne0.false))
    (c.compare_exchange_with-found.ensures.2 c.args.strand refl) refl

pub returns-clause-seat : goal.returns-clause-seat
returns-clause-seat g c = take_leaves
    (sits c.self.invariant c.seat.view_is c.self.view_is c.requires.own c.seat.invariant)
    c.compare_exchange_with-found.new.seat.table_id c.compare_exchange_with-found.new.seat.me
    c.compare_exchange_with-found.result c.args.strand true
    c.compare_exchange_with-found.ensures.0
    (c.compare_exchange_with-found.ensures.2 c.args.strand refl)
    (sym (eq-eqb c.compare_exchange_with-found.result 0 c.if-found-ne0.false))
