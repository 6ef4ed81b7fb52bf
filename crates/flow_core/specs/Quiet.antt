-- States in which nothing is left to do, and what they show
use Rattle.std.specs.Prelude.{◌≡◌, ◌≢◌, ℕ, ◌<◌, length, slice_index, Option, Some, MatchOption, ⊤}
use Rattle.flow_core.specs.declared.state.Phase.{Phase}
use Rattle.flow_core.specs.declared.state.Phase.TheVariants.{Waiting, Held, Done, Refused}
use Rattle.flow_core.specs.declared.state.State.{State}
use Rattle.flow_core.specs.Net.{Net, writes_of}
use Rattle.flow_core.specs.Flow.{Flow, Refuses, answer_of, HasValue}
use Rattle.flow_core.specs.Core.{cell_of, missing_of, phase_of}

-- nobody holds the strand, and nobody can take it
abbrev pub IsAtRest : Phase → ℕ → Type 0
IsAtRest Waiting m = 0 < m
IsAtRest (Held w a b) m = ⊥
IsAtRest Done m = ⊤
IsAtRest Refused m = ⊤

abbrev pub IsQuiet : Net → State → Type 0
IsQuiet n s = (k : ℕ) → k < n.strands → IsAtRest (phase_of s k) (missing_of s k)

-- the strand is below the least refused one, if there is one
abbrev pub IsBelow : Option ℕ → ℕ → Type 0
IsBelow o k = MatchOption o ⊤ (λ l. k < l)

-- no strand is held, and every strand below `least` is done
pub record IsSettled (n : Net) (s : State) : Type 0 where
  pub none_held : (k w a b : ℕ) → phase_of s k ≢ Held w a b
  pub done_below : (k : ℕ) → k < n.strands → IsBelow s.least k → phase_of s k ≡ Done

-- the least strand whose answer is a refusal, or None where there is none
abbrev pub IsFirstRefusal : Flow → Option ℕ → Type 0
IsFirstRefusal f o = MatchOption o ((k : ℕ) → k < f.net.strands → answer_of f k ≢ Refuses)
    (λ l. (answer_of f l ≡ Refuses) × ((k : ℕ) → k < l → answer_of f k ≢ Refuses))

-- `least` is the first refusal, and each cell of a strand below it has its value
pub record IsAnswered (f : Flow) (s : State) : Type 0 where
  pub first_refusal : IsFirstRefusal f s.least
  pub values : (k i : ℕ) → k < f.net.strands → IsBelow s.least k → i < length (writes_of f.net k)
      → (x : ℕ) × (cell_of s (slice_index (writes_of f.net k) i) ≡ Some x)
      × HasValue f (slice_index (writes_of f.net k) i) x
