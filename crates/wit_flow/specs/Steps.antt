-- A run in the midst of a strand, and what its next step meets
use Rattle.std.specs.Prelude.{◌≡◌, ℕ, ◌+◌, ◌<◌, ◌≤◌, List, length, slice_range}
use Rattle.flow_core.specs.Net.{reads_of}
use Rattle.wit_code.specs.Table.{Outcome, outcome_of}
use Rattle.wit_flow.specs.Cells.{Cells, no_values, with_values}
use Rattle.wit_flow.specs.Run.{step_at, writes_in}
use Rattle.wit_flow.specs.Cut.{strand_at}
use Rattle.wit_flow.specs.Plan.{Plan}

-- how the code of the step `at` ends, where it reads these numbers
abbrev pub step_outcome : Plan → ℕ → List ℕ → ℕ → Outcome
step_outcome p at xs fuel = outcome_of p.procs (step_at p.steps at).code xs fuel

-- the cells that the steps of the strand k before `at` write
abbrev pub written_before : Plan → ℕ → ℕ → List ℕ
written_before p k at = writes_in (slice_range p.steps (strand_at p.strands k).first at)

-- what cells hold at the step `at` of the strand k, by what the strand reads and has written
abbrev pub strand_cells : Plan → ℕ → List ℕ → ℕ → List ℕ → Cells
strand_cells p k reads at written =
    with_values (with_values no_values (reads_of p.graph k) reads) (written_before p k at) written

-- the step `at` is of the strand k, whose steps before it wrote these values
pub record IsAmid (p : Plan) (k at : ℕ) (written : List ℕ) : Type 0 where
  pub from : (strand_at p.strands k).first ≤ at
  pub to : at < (strand_at p.strands k).first + (strand_at p.strands k).count
  pub wide : length written ≡ length (written_before p k at)
