use Rattle.std.proofs.Common.{◌∷◌, ◌++◌, [], List, subst, sym}
use Rattle.std.proofs.lemmas.Slice.Zip.{all_zipped_more}
use Rattle.flow_board.specs.Seats.{Worker}
use Rattle.flow_engine.specs.Lent.{IsFresh, IsHand}
use Rattle.flow_engine.proofs.lend.with_seat.Goals as goal

pub returns : goal.returns
returns c =
    let H : List Worker → Type 0 = IsHand (c.args.boards.now ++ c.args.board.now ∷ []) in
    subst H (sym c.in_ok-push.ensures.items)
    (all_zipped_more IsFresh c.args.boards.now c.args.hand.items c.args.board.now c.args.seat
    c.requires.hand c.requires.fresh)
