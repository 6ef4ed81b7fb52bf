-- The answer of one thread that runs all steps in order, and how calls show it
use Rattle.std.specs.Prelude.{◌≡◌, ◌≢◌, ℕ, ◌<◌, List, length, map, Some, Result, Ok, Err}
use Rattle.std.specs.declared.vec.Vec.{Vec}
use Rattle.std.specs.declared.alloc.Global.{Global}
use Rattle.wit_code.specs.declared.code.Stop.{Stop}
use Rattle.wit_code.specs.declared.code.Stop.TheVariants.{OutOfMemory}
use Rattle.wit_code.specs.Table.{Outcome as CodeOutcome, Wrote, Stopped}
use Rattle.wit_flow.specs.declared.flow.Outcome.{Outcome}
use Rattle.wit_flow.specs.declared.flow.Outcome.TheVariants.{Done, Refused as RefusedAt}
use Rattle.wit_flow.specs.declared.flow.StrandOut.{StrandOut}
use Rattle.wit_flow.specs.declared.flow.StrandOut.TheVariants.{Values, Refused}
use Rattle.flow_core.specs.Net.{reads_of, writes_of}
use Rattle.flow_core.specs.Flow.{Refuses}
use Rattle.wit_flow.specs.Cells.{Cells, with_values, numbers_at, Shows}
use Rattle.wit_flow.specs.Run.{End, Ran, StopsAt, writes_in, run_steps}
use Rattle.wit_flow.specs.Plan.{Plan}
use Rattle.wit_flow.specs.Answers.{start_cells, strand_end, cells_before, answer_at}

-- all steps ran, or the first that stopped; with the cells as they then are
pub data Ending : Type 0 where
  Ended : Cells → Ending
  Halted : ℕ → Stop → Cells → Ending

-- a run on these cells that writes those of the list
abbrev pub ending : Cells → List ℕ → End → Ending
ending cells cs (Ran xs) = Ended (with_values cells cs xs)
ending cells cs (StopsAt n stop xs) = Halted n stop (with_values cells cs xs)

abbrev pub one_thread : Plan → List ℕ → ℕ → Ending
one_thread p start fuel =
    ending (start_cells p start) (writes_in p.steps)
    (run_steps p.procs fuel 0 p.steps (start_cells p start))

-- the outcome of a flow with n cells shows this ending
abbrev pub IsOutcome : ℕ → Outcome → Ending → Type 0
IsOutcome n (Done values) (Ended cells) = Shows n (map Some values) cells
IsOutcome n (Done values) (Halted step stop cells) = ⊥
IsOutcome n (RefusedAt s t list) (Ended cells) = ⊥
IsOutcome n (RefusedAt s t list) (Halted step stop cells) =
    (s ≡ step) × (t ≡ stop) × (t ≢ OutOfMemory) × Shows n list cells

abbrev pub IsStrandOut : StrandOut → End → Type 0
IsStrandOut (Values xs) (Ran ys) = xs ≡ ys
IsStrandOut (Values xs) (StopsAt step stop ys) = ⊥
IsStrandOut (Refused s t xs) (Ran ys) = ⊥
IsStrandOut (Refused s t xs) (StopsAt step stop ys) =
    (s ≡ step) × (t ≡ stop) × (t ≢ OutOfMemory) × (xs ≡ ys)

-- what a step's code gives shows its outcome
abbrev pub IsCodeEnd : Result (Vec ℕ Global) Stop → CodeOutcome → Type 0
IsCodeEnd (Ok values) o = o ≡ Wrote values.items
IsCodeEnd (Err stop) o = (o ≡ Stopped stop) × (stop ≢ OutOfMemory)

-- The answer of one thread, by the answers of a plan's strands, however it is cut: where none
-- refuses, what they write; else that of the first that refuses, on the cells that those before it
-- wrote
pub record IsStrandByStrand (p : Plan) (start : List ℕ) (fuel : ℕ) : Type 0 where
  pub none : ((k : ℕ) → k < length p.strands → answer_at p start fuel k ≢ Refuses)
      → one_thread p start fuel
      ≡ Ended (cells_before p fuel (start_cells p start) (length p.strands))
  pub first : (k : ℕ) → k < length p.strands → answer_at p start fuel k ≡ Refuses
      → ((j : ℕ) → j < k → answer_at p start fuel j ≢ Refuses)
      → let cells = cells_before p fuel (start_cells p start) k in one_thread p start fuel
      ≡ ending cells (writes_of p.graph k)
      (strand_end p fuel k (numbers_at cells (reads_of p.graph k)))
