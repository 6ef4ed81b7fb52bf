-- What each strand of a graph answers
use Rattle.std.specs.Prelude.{◌≡◌, ℕ, ◌<◌, ◌↔◌, ◌⊎◌, List, length, slice_index, slice_index_or}
use Rattle.std.specs.Prelude.{Option, Some, None}
use Rattle.flow_core.specs.Counts.{IsIn}
use Rattle.flow_core.specs.Net.{Net, reads_of, writes_of}

pub data Answer : Type 0 where
  Unreached : Answer
  Refuses : Answer
  Gives : List ℕ → Answer

-- A graph, for each cell its start value or None, and for each strand its answer
pub record Flow : Type 0 where
  pub net : Net
  pub start : List (Option ℕ)
  pub answers : List Answer

abbrev pub start_of : Flow → ℕ → Option ℕ
start_of f c = slice_index_or f.start c None

abbrev pub answer_of : Flow → ℕ → Answer
answer_of f k = slice_index_or f.answers k Unreached

-- the strand k answers a list, which has x at the place of the cell c among those that it writes
pub record Writes (f : Flow) (c x k : ℕ) : Type 0 where
  pub values : List ℕ
  pub place : ℕ
  pub gives : answer_of f k ≡ Gives values
  pub near : place < length (writes_of f.net k)
  pub cell : slice_index (writes_of f.net k) place ≡ c
  pub value : slice_index values place ≡ x

-- the cell c has the value x: it starts with it, or a strand's answer has it
abbrev pub HasValue : Flow → ℕ → ℕ → Type 0
HasValue f c x = (start_of f c ≡ Some x) ⊎ ((k : ℕ) × Writes f c x k)

-- some cell that the strand k reads has no value
abbrev pub LacksRead : Flow → ℕ → Type 0
LacksRead f k = (c : ℕ) × IsIn c (reads_of f.net k) × ((x : ℕ) → ¬ HasValue f c x)

-- the shape of the answers, whatever the strands compute
pub record IsFlow (f : Flow) : Type 0 where
  pub answer_each : length f.answers ≡ f.net.strands
  pub start_each : length f.start ≡ f.net.cells
  -- each cell is a start cell or is written by a strand, and not both
  pub written_or_start : (c : ℕ) → c < f.net.cells → start_of f c ≡ None
      → (k : ℕ) × IsIn c (writes_of f.net k)
  pub written_no_start : (k c : ℕ) → IsIn c (writes_of f.net k) → start_of f c ≡ None
  -- a list has one value for each cell that its strand writes
  pub values_each : (k : ℕ) (xs : List ℕ) → answer_of f k ≡ Gives xs
      → length xs ≡ length (writes_of f.net k)
  -- a strand is Unreached exactly where a cell that it reads has no value
  pub unreached : (k : ℕ) → k < f.net.strands → (answer_of f k ≡ Unreached) ↔ LacksRead f k
