-- Which steps can be cut into strands, and how they are cut
use Rattle.std.specs.Prelude.{◌≡◌, ℕ, ◌+◌, ◌^◌, ◌<◌, ◌≤◌, ◌↔◌, ◌⊎◌, List, [], ◌∷◌, length}
use Rattle.std.specs.Prelude.{slice_index_or, slice_range, All}
use Rattle.gold_field.specs.declared.gold.TheConstants.{P}
use Rattle.wit_code.specs.declared.code.Proc.{Proc}
use Rattle.wit_code.specs.declared.code.Step.{Step}
use Rattle.wit_code.specs.Code.{IsWellFormed}
use Rattle.wit_code.specs.Table.{Wrote, outcome_of}
use Rattle.flow_core.specs.Counts.{times, IsIn}
use Rattle.wit_flow.specs.declared.flow.Strand.{Strand}
use Rattle.wit_flow.specs.Run.{step_at, reads_at, writes_at, reads_in, writes_in}

-- For all values that it reads and all fuel, code that doesn't stop gives one value for each cell
-- that its step writes
abbrev pub WritesEach : List Proc → Step → Type 0
WritesEach procs s =
    (xs ys : List ℕ) (fuel : ℕ) → length xs ≡ length s.reads → All (λ x. x < P) xs → fuel < 2 ^ 64
    → outcome_of procs s.code xs fuel ≡ Wrote ys → length ys ≡ length s.writes

-- the six conditions
pub record CanCut (steps : List Step) (procs : List Proc) (cells : ℕ)
    (starts : List ℕ) : Type 0 where
  -- 1. there are fewer than 2^32 steps
  pub few : length steps < 4294967296
  -- 2. every named cell is in range
  pub starts_near : (c : ℕ) → IsIn c starts → c < cells
  pub reads_near : (k c : ℕ) → IsIn c (reads_at steps k) → c < cells
  pub writes_near : (k c : ℕ) → IsIn c (writes_at steps k) → c < cells
  -- 3. a start cell is named once, and no step writes it
  pub starts_once : (c : ℕ) → times c starts ≤ 1
  pub starts_unwritten : (k c : ℕ) → IsIn c starts → IsIn c (writes_at steps k) → ⊥
  -- 4. every other cell is written once, by one step, before each step that reads it
  pub written : (c : ℕ) → c < cells → IsIn c starts ⊎ ((k : ℕ) × IsIn c (writes_at steps k))
  pub written_once : (k c : ℕ) → times c (writes_at steps k) ≤ 1
  pub one_writer : (p q c : ℕ) → IsIn c (writes_at steps p) → IsIn c (writes_at steps q) → p ≡ q
  pub written_first : (p k c : ℕ) → IsIn c (writes_at steps p) → IsIn c (reads_at steps k) → p < k
  -- 5. a step's code is well formed, and reads no place past its reads
  pub well_formed : (k : ℕ) → k < length steps
      → IsWellFormed procs (length (reads_at steps k)) (step_at steps k).code
  -- 6.
  pub writes_each : (k : ℕ) → k < length steps → WritesEach procs (step_at steps k)

abbrev pub strand_at : List Strand → ℕ → Strand
strand_at strands k = slice_index_or strands k (record { first = 0; count = 0 })

-- the steps of a strand
abbrev pub part : List Step → Strand → List Step
part steps s = slice_range steps s.first (s.first + s.count)

-- strands of one step at least, one after another from the step n to the step `end`
abbrev pub Follow : List Strand → ℕ → ℕ → Type 0
Follow [] n end = n ≡ end
Follow (s ∷ ss) n end = (s.first ≡ n) × (0 < s.count) × Follow ss (n + s.count) end

-- A strand writes what its steps write, in order, and reads what its steps read and it doesn't
-- write
pub record Draws (steps : List Step) (s : Strand) (reads writes : List ℕ) : Type 0 where
  pub writes_all : writes ≡ writes_in (part steps s)
  pub reads_others : (c : ℕ)
      → IsIn c reads ↔ (IsIn c (reads_in (part steps s)) × (IsIn c writes → ⊥))

-- The step i joins the steps from `first` up to it: they are fewer than 256, and it reads a cell
-- that they write
abbrev pub Joins : List Step → ℕ → ℕ → Type 0
Joins steps first i =
    (i < first + 256)
    × ((c : ℕ) × IsIn c (reads_at steps i) × IsIn c (writes_in (slice_range steps first i)))

-- each step of the strand but its first joins those before it, and the step behind its last doesn't
pub record IsByRule (steps : List Step) (s : Strand) : Type 0 where
  pub joined : (i : ℕ) → s.first < i → i < s.first + s.count → Joins steps s.first i
  pub ended : s.first + s.count < length steps → Joins steps s.first (s.first + s.count) → ⊥
