-- Boards and hands of seats, as workers change them
use Rattle.std.proofs.Common.{◌≡◌, ℕ, ◌<◌, List, length, get_or, set, ◌∙◌, None}
use Rattle.flow_board.specs.Seats.{Place, Worker, place_of}
use Rattle.flow_engine.specs.Task.{Task, answers_of}
use Rattle.flow_engine.specs.Lent.{AreBoards, IsFresh, IsBack, IsHand, IsHandBack}
use Rattle.flow_engine.proofs.Zips.{zip_all, zip_length, zip_read, zip_set}

abbrev pub Shows : Task → Place → Type 0
Shows t p = p.flow ≡ answers_of t

pub boards_long : (ts : List Task) (ps : List Place) → AreBoards ts ps → length ps ≡ length ts
boards_long ts ps h = zip_length Shows ts ps h

pub board_flow : (ts : List Task) (ps : List Place) (k : ℕ) (t : Task) (p : Place)
    → AreBoards ts ps → k < length ts → t ≡ get_or ts k t → p ≡ get_or ps k p
    → p.flow ≡ answers_of t
board_flow ts ps k t p h lt t-is p-is = zip_read Shows ts ps k t p h lt t-is p-is

pub hand_long : (ps : List Place) (ws : List Worker) → IsHand ps ws → length ws ≡ length ps
hand_long ps ws h = zip_length IsFresh ps ws h

pub hand_back : (ps : List Place) (ws : List Worker) → IsHand ps ws → IsHandBack ps ws
hand_back ps ws h =
    zip_all IsFresh IsBack (λ p w f. record { own = f.own; share = f.share }) ps ws h

-- one seat, at the board p, has made steps
module _ (ps : List Place) (ws : List Worker) (k : ℕ) (p : Place) (v : Worker) (h : IsHand ps ws)
    (lt : k < length ps) (here : p ≡ get_or ps k p) (was : v ≡ get_or ws k v) where
  pub fresh_at : IsFresh p v
  fresh_at = zip_read IsFresh ps ws k p v h lt here was

  pub hand_after : (w : Worker) → place_of w ≡ p → w.view.share ≡ v.view.share
      → IsHandBack ps (set ws k w)
  hand_after w own share = zip_set IsBack ps ws k p w (hand_back ps ws h) lt here
      (record { own = own; share = share ∙ fresh_at.share })

  pub hand_free : (w : Worker) → place_of w ≡ p → w.view.share ≡ v.view.share
      → w.view.holding ≡ None → IsHand ps (set ws k w)
  hand_free w own share free = zip_set IsFresh ps ws k p w h lt here
      (record { own = own; free = free; share = share ∙ fresh_at.share })
