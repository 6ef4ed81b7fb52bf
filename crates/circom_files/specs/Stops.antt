-- Why a command ends before its last step.
use Rattle.std.specs.Prelude.{◌≡◌, ℕ, Result, Ok, Err, ⊤}
use Rattle.out_io.specs.Faults.{one_more_fault}
use Rattle.out_io.specs.declared.fault.IoFault.{IoFault}
use Rattle.out_io.specs.declared.fault.IoFault.TheVariants as io
use Rattle.circom_files.specs.Reply.{refused}
use Rattle.circom_files.specs.Shown.{shown}
use Rattle.circom_files.specs.declared.reply.Reply.{Reply}
use Rattle.circom_files.specs.declared.stop.Stop.{Stop}
use Rattle.circom_files.specs.declared.stop.Stop.TheVariants.{Refused, StoreFailed, OutOfMemory}

-- the fault of a store's call
abbrev pub stop_of : IoFault → Stop
stop_of io.Failed = StoreFailed
stop_of io.OutOfMemory = OutOfMemory

-- the count of faults after a step: one more where the store's fault ended it, and else as it was
abbrev pub faults_by : {T : Type 0} → Result T Stop → ℕ → ℕ
faults_by (Err StoreFailed) faults = one_more_fault faults
faults_by _ faults = faults

-- a refusal is the reply, and a fault is handed on; for the reply memory may lack
abbrev pub EndsBy : Stop → Result Reply IoFault → Type 0
EndsBy (Refused refusal) (Ok r) = shown r ≡ refused refusal
EndsBy StoreFailed (Ok r) = ⊥
EndsBy OutOfMemory (Ok r) = ⊥
EndsBy StoreFailed (Err io.Failed) = ⊤
EndsBy (Refused refusal) (Err io.Failed) = ⊥
EndsBy OutOfMemory (Err io.Failed) = ⊥
EndsBy StoreFailed (Err io.OutOfMemory) = ⊥
EndsBy stop (Err io.OutOfMemory) = ⊤
