-- The runs of one circuit's code on many lists of numbers.
use Rattle.std.specs.Prelude.{ℕ, ◌+◌, ◌*◌, List, length}
use Rattle.cir_ast.specs.Program.{Program}
use Rattle.cir_meaning.specs.RunBodies.{ran}
use Rattle.wit_circuit.specs.declared.code.CircuitCode.{CircuitCode}
use Rattle.wit_run.specs.declared.ending.RunEnd.{RunEnd}
use Rattle.wit_run.specs.Ending.{IsEndOf}
use Rattle.wit_run.specs.Task.{IsTask}

-- the numbers are 1 and as many inputs as the program's main component has
abbrev pub HasTask : Program → CircuitCode → List ℕ → Type 0
HasTask p code start = (inputs : List ℕ) × IsTask p code start inputs

-- the program's run on the inputs among the numbers ends so
abbrev pub IsRunFrom : Program → CircuitCode → (fuel : ℕ) → (start : List ℕ) → RunEnd
    → Type 0
IsRunFrom p code fuel start end =
    (inputs : List ℕ) (task : IsTask p code start inputs)
    → IsEndOf task.meaning.instances end (ran p fuel inputs)

-- what so many lists count: each a word for each cell and for each step, and 64 workers
abbrev pub batch_size : CircuitCode → (lists : ℕ) → ℕ
batch_size code lists = lists * (code.cells + length code.steps + 64)

abbrev pub most_batch : ℕ
most_batch = 33554432
