use Rattle.std.proofs.Common.{◌≡◌, ◌∙◌, ◌+◌, ◌∷◌, ◌++◌, [], List, Vec}
use Rattle.std.proofs.Common.{Global, ap, arith, subst}
use Rattle.std.proofs.Common.{subst₂, sym, take}
use Rattle.std.specs.Prelude.{All}
use Rattle.std.specs.List.{AllZip}
use Rattle.std.proofs.lemmas.Slice.Zip.{all_zipped_more}
use Rattle.flow_board.specs.Seats.{Place, Worker}
use Rattle.flow_engine.specs.Lent.{AreBoards, IsHand, IsOwn}
use Rattle.flow_engine.proofs.Zips.{zip_more}
use Rattle.flow_engine.proofs.Hands.{Shows}
use Rattle.flow_engine.proofs.boards.make_boards.Goals as goal

pub loop-answers-preserved : goal.loop-answers-preserved
loop-answers-preserved c =
    let ts = c.args.tasks.now in let i = c.loop-answers.answers-index in
    let was = c.loop-answers.invariant in let lt = c.loop-answers-test.true in
    let b : Place = c.in_ok-board.board in let w : Worker = c.deal.new.seat in
    let bs : List Place = c.loop-answers.boards.items in
    let boards : c.push.new.self.items ≡ bs ++ b ∷ [] = c.in_ok-push.ensures.items in
    let part = c.in_ok-hands-2.ensures.share in let each = was.each in
    let own : IsOwn c.args.workers b w = record {
      own = c.in_ok-hands-2.ensures.own;
      free = c.in_ok-hands-2.ensures.free;
      share = omega arith;
    } in
    let hands : c.as_slice.result.now ++ b ∷ [] ≡ c.push.new.self.items =
    ap (λ (ps : List Place). ps ++ b ∷ []) c.as_slice.ensures.value ∙ sym boards in record {
      boards = subst (λ (ps : List Place). AreBoards (take (i + 1) ts) ps) (sym boards)
          (zip_more Shows ts bs c.answers-item.result b i (i + 1) (omega arith) was.boards
          (omega arith) c.answers-item.is c.in_ok-board.ensures.flow);
      own = subst₂ (AllZip (IsOwn c.args.workers)) (sym boards) (sym c.in_ok-push-2.ensures.items)
          (all_zipped_more (IsOwn c.args.workers) bs c.loop-answers.own.items b w was.own own);
      hands = subst (λ (ps : List Place). All (λ (h : Vec Worker Global). IsHand ps h.items)
          c.in_ok-hands-2.hands.items) hands c.in_ok-hands-2.ensures.hands;
      each = c.in_ok-hands-2.ensures.each ∙ was.each;
    }
