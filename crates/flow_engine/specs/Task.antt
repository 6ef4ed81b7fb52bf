-- A flow, its start values and each step's fuel, and what its strands read and answer
use Rattle.std.specs.Prelude.{◌≡◌, ℕ, ◌*◌, ◌^◌, ◌<◌, All, List, length}
use Rattle.std.specs.Prelude.{slice_index}
use Rattle.flow_core.specs.Net.{reads_of}
use Rattle.flow_core.specs.Flow.{Flow, Answer, Refuses, Gives, HasValue}
use Rattle.wit_flow.specs.declared.StrandOut.{StrandOut}
use Rattle.wit_flow.specs.declared.StrandOut.TheVariants.{Values, Refused}
use Rattle.wit_flow.specs.Plan.{Plan, IsPlan}
use Rattle.wit_flow.specs.Cells.{Cells, numbers_at}
use Rattle.wit_flow.specs.Run.{End}
use Rattle.wit_flow.specs.declared.Outcome.{Outcome}
use Rattle.wit_flow.specs.OneThread.{IsOutcome, one_thread}
use Rattle.wit_flow.specs.Answers.{start_cells, strand_end, cells_before, flow_of}

pub record Task : Type 0 where
  pub plan : Plan
  pub start : List ℕ
  pub fuel : ℕ

abbrev pub task : Plan → List ℕ → ℕ → Task
task p start fuel = record { plan = p; start = start; fuel = fuel }

-- there is one start value for each start cell
pub record IsTask (t : Task) : Type 0 where
  pub plan : IsPlan t.plan
  pub starts_each : length t.start ≡ length t.plan.starts

-- tasks of so many strands each: the strand k of the task i has the number i * strands + k, and all
-- these numbers have 32 bits
pub record AreNumbered (strands : ℕ) (ts : List Task) : Type 0 where
  pub each : All (λ t. t.plan.graph.strands ≡ strands) ts
  pub few : length ts * strands < 2 ^ 32

abbrev pub answers_of : Task → Flow
answers_of t = flow_of t.plan t.start t.fuel

-- the cells once the strands below k have answered, in order
abbrev pub cells_at : Task → ℕ → Cells
cells_at t k = cells_before t.plan t.fuel (start_cells t.plan t.start) k

-- how the strand k ends on these
abbrev pub end_at : Task → ℕ → End
end_at t k = strand_end t.plan t.fuel k (numbers_at (cells_at t k) (reads_of t.plan.graph k))

-- what a strand's run shows is this answer
abbrev pub IsAnswer : StrandOut → Answer → Type 0
IsAnswer (Values xs) a = a ≡ Gives xs
IsAnswer (Refused step stop xs) a = a ≡ Refuses

-- the numbers are the values of the cells that the strand k reads
pub record AreRead (f : Flow) (k : ℕ) (xs : List ℕ) : Type 0 where
  pub each : length xs ≡ length (reads_of f.net k)
  pub has : (i : ℕ) → i < length xs
      → HasValue f (slice_index (reads_of f.net k) i) (slice_index xs i)

-- the numbers that the strand k reads once those below it have answered
abbrev pub read_at : Task → ℕ → List ℕ
read_at t k = numbers_at (cells_at t k) (reads_of t.plan.graph k)

-- the outcome is that of one thread
abbrev pub IsOneThread : Task → Outcome → Type 0
IsOneThread t o = IsOutcome t.plan.graph.cells o (one_thread t.plan t.start t.fuel)
