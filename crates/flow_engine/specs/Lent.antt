-- The boards of a run, and their seats as they are lent to workers and come back
use Rattle.std.specs.Prelude.{◌≡◌, ℕ, ◌+◌, List, None}
use Rattle.std.specs.List.{AllZip}
use Rattle.flow_board.specs.Seats.{Place, Worker, place_of}
use Rattle.flow_engine.specs.Task.{Task, answers_of}

-- a board for each task, of what the task's strands answer
abbrev pub AreBoards : List Task → List Place → Type 0
AreBoards ts ps = AllZip (λ t p. p.flow ≡ answers_of t) ts ps

-- a seat that a worker gets, and one that it gives back
pub record IsFresh (p : Place) (w : Worker) : Type 0 where
  pub own : place_of w ≡ p
  pub free : w.view.holding ≡ None
  pub share : w.view.share ≡ 1

pub record IsBack (p : Place) (w : Worker) : Type 0 where
  pub own : place_of w ≡ p
  pub share : w.view.share ≡ 1

-- a worker's hand: such a seat at each board
abbrev pub IsHand : List Place → List Worker → Type 0
IsHand ps ws = AllZip IsFresh ps ws

abbrev pub IsHandBack : List Place → List Worker → Type 0
IsHandBack ps ws = AllZip IsBack ps ws

-- the caller's own seat at a board, of whose 65 parts so many are lent
pub record IsOwn (lent : ℕ) (p : Place) (w : Worker) : Type 0 where
  pub own : place_of w ≡ p
  pub free : w.view.holding ≡ None
  pub share : w.view.share + lent ≡ 65
