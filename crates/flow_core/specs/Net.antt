-- A graph of strands as plain data
use Rattle.std.specs.Prelude.{◌≡◌, ℕ, ◌<◌, ◌≤◌, ◌↔◌, List, [], length, slice_index_or}
use Rattle.std.specs.List.Sorted.{IsStrictlyIncreasing}
use Rattle.flow_core.specs.Counts.{times, IsIn}

pub record Net : Type 0 where
  pub strands : ℕ
  pub cells : ℕ
  pub reads : List (List ℕ)
  pub writes : List (List ℕ)
  pub preds : List (List ℕ)
  pub succs : List (List ℕ)

abbrev pub net : ℕ → ℕ → List (List ℕ) → List (List ℕ) → List (List ℕ) → List (List ℕ) → Net
net n c rs ws ps ss = record {
  strands = n;
  cells = c;
  reads = rs;
  writes = ws;
  preds = ps;
  succs =
      ss;
}

-- the list of one strand, which is empty past the last strand
abbrev pub reads_of : Net → ℕ → List ℕ
reads_of n k = slice_index_or n.reads k []

abbrev pub writes_of : Net → ℕ → List ℕ
writes_of n k = slice_index_or n.writes k []

abbrev pub preds_of : Net → ℕ → List ℕ
preds_of n k = slice_index_or n.preds k []

abbrev pub succs_of : Net → ℕ → List ℕ
succs_of n k = slice_index_or n.succs k []

-- the strand p writes a cell that the strand k reads
abbrev pub Feeds : Net → ℕ → ℕ → Type 0
Feeds n p k = (c : ℕ) × IsIn c (writes_of n p) × IsIn c (reads_of n k)

pub record IsNet (n : Net) : Type 0 where
  -- one list for each strand
  pub reads_each : length n.reads ≡ n.strands
  pub writes_each : length n.writes ≡ n.strands
  pub preds_each : length n.preds ≡ n.strands
  pub succs_each : length n.succs ≡ n.strands
  -- every list names each entry once and in range
  pub reads_near : (k c : ℕ) → IsIn c (reads_of n k) → c < n.cells
  pub reads_once : (k c : ℕ) → times c (reads_of n k) ≤ 1
  pub writes_near : (k c : ℕ) → IsIn c (writes_of n k) → c < n.cells
  pub writes_once : (k c : ℕ) → times c (writes_of n k) ≤ 1
  -- a cell is written by at most one strand
  pub one_writer : (p q c : ℕ) → IsIn c (writes_of n p) → IsIn c (writes_of n q) → p ≡ q
  -- the predecessors are the strands that write a cell which the strand reads
  pub preds_feed : (p k : ℕ) → IsIn p (preds_of n k) ↔ Feeds n p k
  pub preds_once : (p k : ℕ) → times p (preds_of n k) ≤ 1
  pub preds_below : (p k : ℕ) → IsIn p (preds_of n k) → p < k
  -- the successors are the inverse of the predecessors
  pub inverse : (p k : ℕ) → times k (succs_of n p) ≡ times p (preds_of n k)
  pub succs_rise : (p : ℕ) → IsStrictlyIncreasing (succs_of n p)
