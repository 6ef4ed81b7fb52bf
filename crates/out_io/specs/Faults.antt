-- What the count of faults of a store or a sink says of the cause of an answer.
use Rattle.std.specs.Prelude.{ℕ, ◌+◌, ◌-◌, ◌^◌, ◌≤◌, min, Result, Err, IsErrOf}
use Rattle.out_io.specs.declared.fault.IoFault.{IoFault}
use Rattle.out_io.specs.declared.fault.IoFault.TheVariants.{Failed}

-- the count of faults after one more
abbrev pub one_more_fault : ℕ → ℕ
one_more_fault faults = min (faults + 1) (2 ^ 64 - 1)

-- the count of faults after a call: one more where it failed, and else as it was
abbrev pub faults_after : {T : Type 0} → Result T IoFault → ℕ → ℕ
faults_after (Err Failed) faults = one_more_fault faults
faults_after _ faults = faults

-- the count rose, or stands at the last value of its type
abbrev pub Rose : ℕ → ℕ → Type 0
Rose before now = one_more_fault before ≤ now

-- the count never falls, and the call failed only where it rose
pub record CountsFaults {T : Type 0} (before now : ℕ) (result : Result T IoFault) : Type 0 where
  pub later : before ≤ now
  pub failed : IsErrOf result Failed → Rose before now
