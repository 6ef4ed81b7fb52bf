-- What is refused before a proof is made.
use Rattle.std.specs.Prelude.{◌==◌, ℕ, List, length, slice_index, if◌then◌else◌, Option, Some, None}
use Rattle.iden_files.specs.File.{File}
use Rattle.iden_files.specs.Failing.{first_failing_from}
use Rattle.lig_prover.specs.declared.fault.ProveFault.{ProveFault}
use Rattle.lig_prover.specs.declared.fault.ProveFault.TheVariants.{WrongLength, WireZero}
use Rattle.lig_prover.specs.declared.fault.ProveFault.TheVariants.{Unsatisfied}

-- the least constraint that fails, if one does
abbrev pub failing : Option ℕ → Option ProveFault
failing None = None
failing (Some constraint) = Some (Unsatisfied constraint)

-- by the count of values, then wire 0, which stands for 1, then the constraints
abbrev pub refusal_of : File → List ℕ → Option ProveFault
refusal_of f w =
    if length w == f.wires
    then (if slice_index w 0 == 1
    then failing (first_failing_from 0 w f.constraints) else Some WireZero)
    else Some (WrongLength (length w) f.wires)
