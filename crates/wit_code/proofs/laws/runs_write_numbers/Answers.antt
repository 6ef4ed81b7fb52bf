use Rattle.wit_code.proofs.Numbers.{writes_numbers}
use Rattle.wit_code.proofs.laws.runs_write_numbers.Goals as goal

pub returns : goal.returns
returns c =
    λ procs code reads fuel values w numbers runs. writes_numbers procs code reads numbers w fuel
    values runs
