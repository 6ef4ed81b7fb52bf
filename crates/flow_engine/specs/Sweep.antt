-- How far a run in order has come
use Rattle.std.specs.Prelude.{◌≡◌, ℕ, ◌+◌, ◌<◌, IsTrue, List, Option, Some, None}
use Rattle.wit_code.specs.declared.Stop.{Stop}
use Rattle.flow_core.specs.Flow.{Flow, Gives, answer_of}
use Rattle.flow_board.specs.Closed.{ClosedWords, IsClosed, done_in, least_in}
use Rattle.wit_flow.specs.declared.Outcome.TheVariants.{Refused as RefusedAt}
use Rattle.wit_flow.specs.Cells.{Shows}
use Rattle.wit_flow.specs.OneThread.{IsOutcome, one_thread}
use Rattle.flow_engine.specs.Task.{Task, answers_of, cells_at}

-- each strand below k answers a list
abbrev pub GiveBelow : Task → ℕ → Type 0
GiveBelow t k = (j : ℕ) → j < k → (xs : List ℕ) × (answer_of (answers_of t) j ≡ Gives xs)

-- the words are those of a board over the flow
abbrev pub AreClosed : Flow → ClosedWords → Type 0
AreClosed f w = (done : List ℕ) × (refused : List ℕ) × IsClosed f done refused w

-- no strand is refused, and each one's word is that of a strand that was taken
pub record AreAllDone (w : ClosedWords) : Type 0 where
  pub none_refused : least_in w ≡ None
  pub done : (k : ℕ) → k < w.strands → IsTrue (done_in w k)

-- the strands below k have answered lists, and the cells are as they then are
pub record HasCome (t : Task) (k : ℕ) (cells : List (Option ℕ)) : Type 0 where
  pub give : GiveBelow t k
  pub shows : Shows t.plan.graph.cells cells (cells_at t k)

-- one more strand has answered, or it stops, and that is where one thread stops
abbrev pub Goes : Task → ℕ → List (Option ℕ) → Option (ℕ × Stop) → Type 0
Goes t k cells None = HasCome t (k + 1) cells
Goes t k cells (Some x) =
    IsOutcome t.plan.graph.cells (RefusedAt x.0 x.1 cells) (one_thread t.plan t.start t.fuel)
