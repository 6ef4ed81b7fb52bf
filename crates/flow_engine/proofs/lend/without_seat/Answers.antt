use Rattle.std.proofs.Common.{◌∷◌, ◌++◌, [], List, arith, subst, length-append}
use Rattle.flow_board.specs.Seats.{Worker}
use Rattle.flow_engine.specs.Lent.{IsBack, IsHandBack}
use Rattle.flow_engine.proofs.Zips.{zip_last, zip_length}
use Rattle.flow_engine.proofs.lend.without_seat.Goals as goal

pub unreachable-requires : goal.unreachable-requires
unreachable-requires c =
    let long = zip_length IsBack (c.args.boards.now ++ c.args.board.now ∷ []) c.args.hand.items
    c.requires in
    let more = length-append c.args.boards.now (c.args.board.now ∷ []) in
    let none = c.in_default.ensures.cases.0 in omega (arith, c.args.hand.ok)

pub returns : goal.returns
returns c =
    let H : List Worker → Type 0 = IsHandBack (c.args.boards.now ++ c.args.board.now ∷ []) in
    let parts = zip_last IsBack c.args.boards.now c.args.board.now c.pop.new.self.items
    c.in-Some.seat (subst H c.in-Some.ensures.items c.requires) in
    record { hand = parts.0; seat = parts.1 }
