-- What a state keeps, whatever events come
use Rattle.std.specs.Prelude.{◌≡◌, ◌≢◌, ℕ, ◌+◌, ◌<◌, ◌≤◌, List, length, take, slice_index}
use Rattle.std.specs.Prelude.{slice_index_or, Option, Some, None, is_some, nat_lt, MatchOption}
use Rattle.flow_core.specs.declared.state.Phase.{Phase}
use Rattle.flow_core.specs.declared.state.Phase.TheVariants.{Waiting, Held, Done, Refused}
use Rattle.flow_core.specs.declared.state.State.{State}
use Rattle.flow_core.specs.Counts.{total, times}
use Rattle.flow_core.specs.Net.{Net, writes_of, preds_of, succs_of}
use Rattle.flow_core.specs.Flow.{Flow, Refuses, Gives, start_of, answer_of, HasValue}

abbrev pub cell_of : State → ℕ → Option ℕ
cell_of s c = slice_index_or s.cells c None

abbrev pub missing_of : State → ℕ → ℕ
missing_of s k = slice_index s.missing k

abbrev pub phase_of : State → ℕ → Phase
phase_of s k = slice_index_or s.phase k Waiting

-- how many of its cells a strand has published, and how many of its successors it has released
abbrev pub published_at : Net → ℕ → Phase → ℕ
published_at n k Waiting = 0
published_at n k (Held w a b) = a
published_at n k Done = length (writes_of n k)
published_at n k Refused = 0

abbrev pub released_at : Net → ℕ → Phase → ℕ
released_at n k Waiting = 0
released_at n k (Held w a b) = b
released_at n k Done = length (succs_of n k)
released_at n k Refused = 0

-- 1 where the strand p has released the strand k, else 0
abbrev pub releases : Net → State → ℕ → ℕ → ℕ
releases n s k p = times k (take (released_at n p (phase_of s p)) (succs_of n p))

-- how many predecessors of the strand k have released it
abbrev pub received : Net → State → ℕ → ℕ
received n s k = total (releases n s k) (preds_of n k)

-- the state's lists have the graph's lengths
pub record FitsNet (n : Net) (s : State) : Type 0 where
  pub cells_each : length s.cells ≡ n.cells
  pub missing_each : length s.missing ≡ n.strands
  pub phase_each : length s.phase ≡ n.strands

-- 1. a cell is empty or holds its value, and start cells are filled
pub record HoldsValues (f : Flow) (s : State) : Type 0 where
  pub starts : (c x : ℕ) → start_of f c ≡ Some x → cell_of s c ≡ Some x
  pub values : (c x : ℕ) → cell_of s c ≡ Some x → HasValue f c x

-- 2. a worker holds at most one strand
abbrev pub HoldsOne : State → Type 0
HoldsOne s = (w j k a b a' b' : ℕ) → phase_of s j ≡ Held w a b → phase_of s k ≡ Held w a' b' → j ≡ k

-- 3. a waiting strand's missing count is the number of its predecessors that haven't released it
abbrev pub CountsMissing : Net → State → Type 0
CountsMissing n s = (k : ℕ) → phase_of s k ≡ Waiting
    → missing_of s k + received n s k ≡ length (preds_of n k)

-- 4. a strand that isn't waiting has been released by all its predecessors
abbrev pub BegunReleased : Net → State → Type 0
BegunReleased n s = (k : ℕ) → phase_of s k ≢ Waiting → received n s k ≡ length (preds_of n k)

-- 5. of the cells that a strand writes exactly the first `published_at` are filled, which are all
-- of them once it releases
pub record FillsFirst (n : Net) (s : State) : Type 0 where
  pub filled : (k i : ℕ) → i < length (writes_of n k)
      → is_some (cell_of s (slice_index (writes_of n k) i))
      ≡ nat_lt i (published_at n k (phase_of s k))
  pub few : (k w a b : ℕ) → phase_of s k ≡ Held w a b → (a ≤ length (writes_of n k))
      × (b ≤ length (succs_of n k))
  pub published_first : (k w a b : ℕ) → phase_of s k ≡ Held w a b → 0 < b
      → a ≡ length (writes_of n k)

-- 6. a done strand's answer is a list, and a refused strand's is a refusal
pub record AnswersKept (f : Flow) (s : State) : Type 0 where
  pub done_gives : (k : ℕ) → phase_of s k ≡ Done → (xs : List ℕ) × (answer_of f k ≡ Gives xs)
  pub refused_refuses : (k : ℕ) → phase_of s k ≡ Refused → answer_of f k ≡ Refuses

-- 7. `least` is the least of the refused strands, or None
abbrev pub IsLeastRefused : State → Type 0
IsLeastRefused s = MatchOption s.least ((k : ℕ) → phase_of s k ≢ Refused)
    (λ l. (phase_of s l ≡ Refused) × ((k : ℕ) → phase_of s k ≡ Refused → l ≤ k))

-- parts 2 to 5 and 7, which every event keeps
pub record IsSound (n : Net) (s : State) : Type 0 where
  pub fits : FitsNet n s
  pub holds_one : HoldsOne s
  pub counts_missing : CountsMissing n s
  pub begun_released : BegunReleased n s
  pub fills_first : FillsFirst n s
  pub least_refused : IsLeastRefused s

-- all seven parts, which every honest list of events keeps
pub record IsKept (f : Flow) (s : State) : Type 0 where
  pub sound : IsSound f.net s
  pub holds_values : HoldsValues f s
  pub answers_kept : AnswersKept f s
