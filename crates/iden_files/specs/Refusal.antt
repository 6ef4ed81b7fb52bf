-- Why a file is refused, and at which of its bytes.
use Rattle.std.specs.Prelude.{◌≢◌, ℕ, Option, Some, None, Result, IfErr}
use Rattle.iden_files.specs.declared.fault.FileCause.{FileCause}
use Rattle.iden_files.specs.declared.fault.FileCause.TheVariants.{Magic, Version, Truncated}
use Rattle.iden_files.specs.declared.fault.FileCause.TheVariants.{SectionMissing, SectionTwice}
use Rattle.iden_files.specs.declared.fault.FileCause.TheVariants.{WrongPrime, ValueTooLarge}
use Rattle.iden_files.specs.declared.fault.FileCause.TheVariants.{WireOutOfRange, BadCount}
use Rattle.iden_files.specs.declared.fault.FileCause.TheVariants.{CustomGates, Limit}
use Rattle.iden_files.specs.declared.fault.FileFault.{FileFault}
use Rattle.iden_files.specs.declared.fault.FileFault.TheVariants.{At, OutOfMemory}

-- the numbers of the causes
abbrev pub cause_number : FileCause → ℕ
cause_number Magic = 1
cause_number Version = 2
cause_number Truncated = 3
cause_number SectionMissing = 4
cause_number SectionTwice = 5
cause_number WrongPrime = 6
cause_number ValueTooLarge = 7
cause_number WireOutOfRange = 8
cause_number BadCount = 9
cause_number CustomGates = 10
cause_number Limit = 11

pub record Refusal : Type 0 where
  pub cause : FileCause
  pub offset : ℕ

abbrev pub refusal : FileCause → ℕ → Refusal
refusal cause offset = record { cause = cause; offset = offset }

-- what a fault says of the file: nothing where memory ran out
abbrev pub refused : FileFault → Option Refusal
refused (At cause offset) = Some (refusal cause offset)
refused OutOfMemory = None

-- want of memory isn't the answer of a call that takes none
abbrev pub TakesNoMemory : {T : Type 0} → Result T FileFault → Type 0
TakesNoMemory result = IfErr result (λ fault. fault ≢ OutOfMemory)
