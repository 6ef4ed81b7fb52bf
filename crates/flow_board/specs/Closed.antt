-- What the words of a closed board show, and how they are read
use Rattle.std.specs.Prelude.{◌≡◌, ◌≢◌, ℕ, ◌+◌, ◌-◌, ◌^◌, ◌<◌, ◌≤◌, ◌==◌, Bool, cond, List, length}
use Rattle.std.specs.Prelude.{slice_index, Option, Some, None}
use Rattle.gold_field.specs.declared.gold.TheConstants.{P}
use Rattle.flow_core.specs.declared.Phase.TheVariants.{Held}
use Rattle.flow_core.specs.declared.State.{State}
use Rattle.flow_core.specs.Counts.{times, IsIn}
use Rattle.flow_core.specs.Net.{IsNet, writes_of}
use Rattle.flow_core.specs.Flow.{Flow, IsFlow, Refuses, Gives, start_of, answer_of, HasValue}
use Rattle.flow_core.specs.Core.{phase_of, IsKept}
use Rattle.flow_board.specs.declared.rule.TheConstants.{TAKEN}
use Rattle.flow_board.specs.Shows.{cell_at, Shows}
use Rattle.flow_board.specs.Rule.{done_mark, refused_mark, HasNumbers}

-- the words show a state that keeps the core's invariant, in which no strand is held, and the done
-- and refused strands are the two lists
pub record ShowsEnd (f : Flow) (done refused ws : List ℕ) : Type 0 where
  pub core : State
  pub narrow : f.net.strands < 2 ^ 32
  pub net : IsNet f.net
  pub flow : IsFlow f
  pub kept : IsKept f core
  pub numbers : HasNumbers core.cells
  pub shows : Shows f core ws
  pub none_held : (k j a b : ℕ) → phase_of core k ≢ Held j a b
  pub done_is : (k : ℕ) → times k done ≡ done_mark (phase_of core k)
  pub refused_is : (k : ℕ) → times k refused ≡ refused_mark (phase_of core k)

-- the closed words of a board
pub record ClosedWords : Type 0 where
  pub cells : ℕ
  pub strands : ℕ
  pub words : List ℕ

abbrev pub closed_words : ℕ → ℕ → List ℕ → ClosedWords
closed_words c k ws = record { cells = c; strands = k; words = ws }

-- each cell's word has a number of the field, if any
pub record AreInRange (w : ClosedWords) : Type 0 where
  pub wide : length w.words ≡ 1 + w.cells + w.strands
  pub cells_below : (c : ℕ) → c < w.cells → slice_index w.words (cell_at c) ≤ P
  pub least_below : slice_index w.words 0 ≤ w.strands
  pub narrow : w.strands < 4294967296

-- a cell's value, a strand that is taken, and the least refused strand
abbrev pub cell_in : ClosedWords → ℕ → Option ℕ
cell_in w c = cond (slice_index w.words (cell_at c) == 0) None
    (Some (slice_index w.words (cell_at c) - 1))

abbrev pub done_in : ClosedWords → ℕ → Bool
done_in w k = slice_index w.words (1 + w.cells + k) == TAKEN

abbrev pub least_in : ClosedWords → Option ℕ
least_in w = cond (slice_index w.words 0 == w.strands) None (Some (slice_index w.words 0))

-- the words are those of a board over the flow, with its done and refused strands
pub record IsClosed (f : Flow) (done refused : List ℕ) (w : ClosedWords) : Type 0 where
  pub closes : ShowsEnd f done refused w.words
  pub cells_are : w.cells ≡ f.net.cells
  pub strands_are : w.strands ≡ f.net.strands

-- a strand below the least refused one whose word is TAKEN is done, so its answer is a list, and
-- each cell that it writes has its value of that
pub record IsDoneBelow (f : Flow) (done : List ℕ) (w : ClosedWords) (k : ℕ) : Type 0 where
  pub listed : IsIn k done
  pub values : List ℕ
  pub gives : answer_of f k ≡ Gives values
  pub filled : (i : ℕ) → i < length (writes_of f.net k)
      → cell_in w (slice_index (writes_of f.net k) i) ≡ Some (slice_index values i)

-- a start cell has its value, a cell that has one has the flow's, and the least refused strand is
-- one whose answer is a refusal
pub record HasOnlyAnswers (f : Flow) (w : ClosedWords) : Type 0 where
  pub starts : (c x : ℕ) → start_of f c ≡ Some x → cell_in w c ≡ Some x
  pub values : (c x : ℕ) → c < f.net.cells → cell_in w c ≡ Some x → HasValue f c x
  pub least : (l : ℕ) → least_in w ≡ Some l → (l < f.net.strands) × (answer_of f l ≡ Refuses)
