-- What each strand answers, and the flow of a plan
use Rattle.std.specs.Prelude.{ℕ, zero, suc, if◌then◌else◌, List, map}
use Rattle.std.specs.List.{range_with_len}
use Rattle.flow_core.specs.Net.{reads_of, writes_of}
use Rattle.flow_core.specs.Flow.{Answer, Unreached, Refuses, Gives, Flow}
use Rattle.wit_flow.specs.Cells.{Cells, no_values, with_values, numbers_at, have_values}
use Rattle.wit_flow.specs.Run.{End, Ran, StopsAt, run_steps}
use Rattle.wit_flow.specs.Cut.{strand_at, part}
use Rattle.wit_flow.specs.Plan.{Plan}

-- the start cells hold the start values
abbrev pub start_cells : Plan → List ℕ → Cells
start_cells p start = with_values no_values p.starts start

-- the steps of the strand k, in order, where the cells that it reads hold these values
abbrev pub strand_end : Plan → ℕ → ℕ → List ℕ → End
strand_end p fuel k xs =
    let s = strand_at p.strands k
    in run_steps p.procs fuel s.first (part p.steps s)
    (with_values no_values (reads_of p.graph k) xs)

abbrev pub answer_end : End → Answer
answer_end (Ran ys) = Gives ys
answer_end (StopsAt n stop ys) = Refuses

-- the answer of the strand k on cells: Unreached where a cell that it reads has no value
abbrev pub answer_on : Plan → ℕ → ℕ → Cells → Answer
answer_on p fuel k cells =
    let reads = reads_of p.graph k in if have_values cells reads
    then answer_end (strand_end p fuel k (numbers_at cells reads)) else Unreached

abbrev pub with_answer : Cells → List ℕ → Answer → Cells
with_answer cells cs Unreached = cells
with_answer cells cs Refuses = cells
with_answer cells cs (Gives xs) = with_values cells cs xs

-- the cells once the strands below k have answered, in order
abbrev pub cells_before : Plan → ℕ → Cells → ℕ → Cells
cells_before p fuel start zero = start
cells_before p fuel start (suc k) =
    let cells = cells_before p fuel start k
    in with_answer cells (writes_of p.graph k) (answer_on p fuel k cells)

-- the answer of the strand k
abbrev pub answer_at : Plan → List ℕ → ℕ → ℕ → Answer
answer_at p start fuel k = answer_on p fuel k (cells_before p fuel (start_cells p start) k)

abbrev pub flow_of : Plan → List ℕ → ℕ → Flow
flow_of p start fuel =
    record {
      net = p.graph;
      start = map (start_cells p start) (range_with_len 0 p.graph.cells);
      answers = map (answer_at p start fuel) (range_with_len 0 p.graph.strands);
    }
