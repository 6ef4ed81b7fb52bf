-- Which reads and writes are those of a graph
use Rattle.std.specs.Prelude.{◌≡◌, ℕ, ◌+◌, ◌^◌, ◌<◌, ◌≤◌, List, [], length, slice_index}
use Rattle.std.specs.Prelude.{slice_index_or}
use Rattle.std.specs.List.Sorted.{IsStrictlyIncreasing}
use Rattle.flow_core.specs.Counts.{times, IsIn}

abbrev pub row : List (List ℕ) → ℕ → List ℕ
row lists k = slice_index_or lists k []

-- each list names each cell once, and in range
pub record NamesOnce (cells : ℕ) (lists : List (List ℕ)) : Type 0 where
  pub near : (k c : ℕ) → IsIn c (row lists k) → c < cells
  pub once : (k c : ℕ) → times c (row lists k) ≤ 1

-- a cell is written by one strand at most
abbrev pub OneWriter : List (List ℕ) → Type 0
OneWriter writes = (p q c : ℕ) → IsIn c (row writes p) → IsIn c (row writes q) → p ≡ q

-- what a strand reads is written by strands with smaller numbers, if by any
abbrev pub ReadsEarlier : List (List ℕ) → List (List ℕ) → Type 0
ReadsEarlier reads writes = (p k c : ℕ) → IsIn c (row writes p) → IsIn c (row reads k) → p < k

pub record IsDrawn (cells : ℕ) (reads writes : List (List ℕ)) : Type 0 where
  pub each : length reads ≡ length writes
  pub narrow : length writes < 2 ^ 32
  pub reads_once : NamesOnce cells reads
  pub writes_once : NamesOnce cells writes
  pub one_writer : OneWriter writes
  pub reads_earlier : ReadsEarlier reads writes

-- each cell of a list is in range, stands there once and has a mark below the bound
pub record CanMark (marks cells : List ℕ) (bound : ℕ) : Type 0 where
  pub near : (c : ℕ) → IsIn c cells → c < length marks
  pub once : (c : ℕ) → times c cells ≤ 1
  pub free : (c : ℕ) → IsIn c cells → slice_index marks c < bound

-- its cells get a tag, and every other cell keeps its mark
pub record IsMarked (old new cells : List ℕ) (tag bound : ℕ) : Type 0 where
  pub could : CanMark old cells bound
  pub marked : (c : ℕ) → IsIn c cells → slice_index new c ≡ tag
  pub others : (c : ℕ) → times c cells ≡ 0 → slice_index new c ≡ slice_index old c

-- a cell's mark is one more than the strand that writes it, or 0
pub record MarksWriters (marks : List ℕ) (writes : List (List ℕ)) : Type 0 where
  pub says : (c k : ℕ) → slice_index marks c ≡ k + 1 → IsIn c (row writes k)
  pub marked : (c k : ℕ) → IsIn c (row writes k) → slice_index marks c ≡ k + 1

-- the marks are those of the writers, of which each cell has one at most
pub record IsClaimed (marks : List ℕ) (writes : List (List ℕ)) : Type 0 where
  pub names_once : NamesOnce (length marks) writes
  pub one_writer : OneWriter writes
  pub marks_writers : MarksWriters marks writes

-- The strand k is added to the successors of the strands that write what it reads, which are its
-- predecessors
pub record Links (marks : List ℕ) (k : ℕ) (cells : List ℕ) (old new : List (List ℕ))
    (preds : List ℕ) : Type 0 where
  pub inverse : (q : ℕ) → times k (row new q) ≡ times q preds
  pub others : (q j : ℕ) → (j ≡ k → ⊥) → times j (row new q) ≡ times j (row old q)
  pub wide : length new ≡ length old
  pub rises : (q : ℕ) → IsStrictlyIncreasing (row new q)
  pub bounded : (q j : ℕ) → IsIn j (row new q) → j ≤ k
  pub once : (q : ℕ) → times q preds ≤ 1
  pub below : (q : ℕ) → IsIn q preds → q < k
  pub feeds : (q : ℕ) → IsIn q preds → (c : ℕ) × IsIn c cells × (slice_index marks c ≡ q + 1)
  pub fed : (c q : ℕ) → IsIn c cells → slice_index marks c ≡ q + 1 → IsIn q preds

-- predecessors and successors of the strands up to a number
pub record AreLinked (marks : List ℕ) (reads preds succs : List (List ℕ)) (n : ℕ) : Type 0 where
  pub preds_each : length preds ≡ n
  pub inverse : (q j : ℕ) → times j (row succs q) ≡ times q (row preds j)
  pub rises : (q : ℕ) → IsStrictlyIncreasing (row succs q)
  pub bounded : (q j : ℕ) → IsIn j (row succs q) → j < n
  pub once : (q j : ℕ) → times q (row preds j) ≤ 1
  pub below : (q j : ℕ) → IsIn q (row preds j) → q < j
  pub feeds : (q j : ℕ) → IsIn q (row preds j) → (c : ℕ) × IsIn c (row reads j)
      × (slice_index marks c ≡ q + 1)
  pub fed : (j c q : ℕ) → j < n → IsIn c (row reads j) → slice_index marks c ≡ q + 1
      → IsIn q (row preds j)

-- a cell of the list is written by the strand k or a later one
abbrev pub LinksLate : List ℕ → ℕ → List ℕ → Type 0
LinksLate marks k cells = (c : ℕ) × (q : ℕ) × IsIn c cells × (slice_index marks c ≡ q + 1) × (k ≤ q)

abbrev pub IsLate : List ℕ → List (List ℕ) → Type 0
IsLate marks reads = (k : ℕ) × LinksLate marks k (row reads k)
