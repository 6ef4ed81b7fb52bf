-- What contracts see of a board and of a seat
use Rattle.std.specs.Prelude.{◌≡◌, ℕ, ◌+◌, ◌<◌, IfSome, slice_index, List, slice_get, Option, Some}
use Rattle.atomic_table.specs.Seated.{TableId}
use Rattle.flow_core.specs.declared.Hold.{Hold}
use Rattle.flow_core.specs.Net.{Net, IsNet, writes_of, succs_of}
use Rattle.flow_core.specs.Flow.{Flow, IsFlow, start_of}
use Rattle.flow_board.specs.declared.view.View.{View}
use Rattle.flow_board.specs.Shows.{cell_at}
use Rattle.flow_board.specs.Views.{first}

-- the board that a seat is of, with its graph, start values and answers
pub record Place : Type 0 where
  pub table_id : TableId
  pub flow : Flow

-- a seat of a board's table, and what it knows
pub record Worker : Type 0 where
  pub table_id : TableId
  pub view : View

abbrev pub place : TableId → Flow → Place
place z f = record { table_id = z; flow = f }

abbrev pub worker : TableId → View → Worker
worker z v = record { table_id = z; view = v }

-- the board that a seat is of
abbrev pub place_of : Worker → Place
place_of w = place w.table_id w.view.flow

-- a seat that knows something else
abbrev pub with_view : Worker → View → Worker
with_view w v = record w { view = v }

-- the seat that comes with a board
abbrev pub first_seat : Place → Worker
first_seat p = worker p.table_id (first p.flow)

-- the word of the cell that a seat's strand fills next, and the successor that it tells next
abbrev pub FillsNext : Flow → Option Hold → ℕ → Type 0
FillsNext f o i =
    IfSome o (λ h. i ≡ cell_at (slice_index (writes_of f.net h.strand) h.published))

abbrev pub TellsNext : Flow → Option Hold → ℕ → Type 0
TellsNext f o k = IfSome o (λ h. k ≡ slice_index (succs_of f.net h.strand) h.released)

-- a board stands over its graph
pub record Stands (f : Flow) (n : Net) (cells strands : ℕ) (z : TableId) : Type 0 where
  pub same_net : f.net ≡ n
  pub net : IsNet f.net
  pub flow : IsFlow f
  pub narrow : f.net.strands < 4294967296
  pub cells_narrow : f.net.cells < 4294967296
  pub cells_are : cells ≡ f.net.cells
  pub strands_are : strands ≡ f.net.strands
  pub words_are : z.words ≡ 1 + f.net.cells + f.net.strands
  pub slots_are : z.slots ≡ 0

-- a list has each start cell, with its start value
pub record ListsStarts (f : Flow) (starts : List (ℕ × ℕ)) : Type 0 where
  pub true_each : (i c x : ℕ) → slice_get starts i ≡ Some (c, x) → start_of f c ≡ Some x
  pub all : (c x : ℕ) → start_of f c ≡ Some x → (i : ℕ) × (slice_get starts i ≡ Some (c, x))
