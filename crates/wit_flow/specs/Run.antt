-- Steps run in order on cells: what they write, or the first that stops
use Rattle.std.specs.Prelude.{ℕ, ◌+◌, List, [], ◌∷◌, ◌++◌, slice_index_or}
use Rattle.std.specs.List.{flat_map}
use Rattle.wit_code.specs.declared.code.Proc.{Proc}
use Rattle.wit_code.specs.declared.code.Step.{Step}
use Rattle.wit_code.specs.declared.code.Stop.{Stop}
use Rattle.wit_code.specs.Table.{Outcome, Wrote, Stopped, no_code, outcome_of}
use Rattle.wit_flow.specs.Cells.{Cells, with_values, numbers_at}

-- a step past the last one names nothing
abbrev pub no_step : Step
no_step = record { code = no_code; reads = []; writes = [] }

abbrev pub step_at : List Step → ℕ → Step
step_at steps k = slice_index_or steps k no_step

abbrev pub reads_at : List Step → ℕ → List ℕ
reads_at steps k = (step_at steps k).reads

abbrev pub writes_at : List Step → ℕ → List ℕ
writes_at steps k = (step_at steps k).writes

abbrev pub reads_in : List Step → List ℕ
reads_in steps = flat_map (λ s. s.reads) steps

abbrev pub writes_in : List Step → List ℕ
writes_in steps = flat_map (λ s. s.writes) steps

-- one number for each cell of the list: those given, and 0 where they are fewer
abbrev pub fitted : List ℕ → List ℕ → List ℕ
fitted [] xs = []
fitted (c ∷ cs) [] = 0 ∷ fitted cs []
fitted (c ∷ cs) (x ∷ xs) = x ∷ fitted cs xs

-- all steps ran and wrote these values, in order; or a step stopped after these were written
pub data End : Type 0 where
  Ran : List ℕ → End
  StopsAt : ℕ → Stop → List ℕ → End

abbrev pub after_values : List ℕ → End → End
after_values xs (Ran ys) = Ran (xs ++ ys)
after_values xs (StopsAt n stop ys) = StopsAt n stop (xs ++ ys)

abbrev pub end_of : Outcome → (List ℕ → End) → (Stop → End) → End
end_of (Wrote ys) go stops = go ys
end_of (Stopped stop) go stops = stops stop

-- the steps in order, numbered from n on: each has the same fuel, and reads what cells then hold
abbrev pub run_steps : List Proc → ℕ → ℕ → List Step → Cells → End
run_steps procs fuel n [] cells = Ran []
run_steps procs fuel n (s ∷ ss) cells =
    end_of (outcome_of procs s.code (numbers_at cells s.reads) fuel)
    (λ ys. after_values (fitted s.writes ys)
    (run_steps procs fuel (n + 1) ss (with_values cells s.writes (fitted s.writes ys))))
    (λ stop. StopsAt n stop [])
