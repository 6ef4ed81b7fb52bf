-- The words of a board, and the state of the core that they show
use Rattle.std.specs.Prelude.{◌≡◌, ℕ, ◌+◌, ◌<◌, List, length, slice_index, Option, Some, None}
use Rattle.std.specs.Prelude.{unwrap_or}
use Rattle.flow_core.specs.declared.Phase.{Phase}
use Rattle.flow_core.specs.declared.Phase.TheVariants.{Waiting, Held, Done, Refused}
use Rattle.flow_core.specs.declared.State.{State}
use Rattle.flow_core.specs.Flow.{Flow}
use Rattle.flow_core.specs.Core.{cell_of, missing_of, phase_of}
use Rattle.flow_board.specs.declared.rule.TheConstants.{TAKEN}

-- the places of a cell's word and of a strand's counter word; the word 0 is `least`
abbrev pub cell_at : ℕ → ℕ
cell_at c = 1 + c

abbrev pub counter_at : Flow → ℕ → ℕ
counter_at f k = 1 + f.net.cells + k

-- the number of strands stands for None
abbrev pub least_word : Flow → Option ℕ → ℕ
least_word f o = unwrap_or o f.net.strands

abbrev pub cell_word : Option ℕ → ℕ
cell_word None = 0
cell_word (Some x) = x + 1

abbrev pub counter_word : Phase → ℕ → ℕ
counter_word Waiting m = m
counter_word (Held w a b) m = TAKEN
counter_word Done m = TAKEN
counter_word Refused m = TAKEN

pub record Shows (f : Flow) (s : State) (ws : List ℕ) : Type 0 where
  pub wide : length ws ≡ 1 + f.net.cells + f.net.strands
  pub least_is : slice_index ws 0 ≡ least_word f s.least
  pub cell_is : (c : ℕ) → c < f.net.cells → slice_index ws (cell_at c) ≡ cell_word (cell_of s c)
  pub counter_is : (k : ℕ) → k < f.net.strands
      → slice_index ws (counter_at f k) ≡ counter_word (phase_of s k) (missing_of s k)
