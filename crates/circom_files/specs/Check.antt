-- The command `check`: do these values satisfy these constraints?
use Rattle.std.specs.Prelude.{◌==◌, ℕ, List, length, slice_index, if◌then◌else◌, Option, Some, None}
use Rattle.std.specs.Prelude.{Result, Ok}
use Rattle.binary_format.specs.Reading.{◌>>=◌}
use Rattle.out_io.specs.Contents.{Contents}
use Rattle.iden_files.specs.Failing.{first_failing_from}
use Rattle.iden_files.specs.File.{File}
use Rattle.circom_files.specs.Files.{r1cs_in, wtns_in}
use Rattle.circom_lines.specs.declared.answer.Refusal.{Refusal}
use Rattle.circom_lines.specs.declared.answer.Verdict.{Verdict}
use Rattle.circom_lines.specs.declared.answer.Verdict.TheVariants.{CountsDiffer, WireZero}
use Rattle.circom_lines.specs.declared.answer.Verdict.TheVariants.{ConstraintFails, Satisfied}

-- the least constraint that fails, if one does
abbrev pub satisfaction : Option ℕ → Verdict
satisfaction None = Satisfied
satisfaction (Some index) = ConstraintFails index

-- by the count of values, then wire 0, which stands for 1, then the constraints
abbrev pub verdict : File → List ℕ → Verdict
verdict file values =
    if length values == file.wires
    then (if slice_index values 0 == 1
    then satisfaction (first_failing_from 0 values file.constraints) else WireZero)
    else CountsDiffer (length values) file.wires

-- the files in the order of the words
unfoldable pub check_of : Contents → List ℕ → List ℕ → Result Verdict Refusal
check_of files r1cs wtns = do
  file ← r1cs_in files r1cs
  values ← wtns_in files wtns
  Ok (verdict file values)
