-- A store or a sink over the calls of a run.
use Rattle.std.specs.Prelude.{◌≡◌, ℕ, List}
use Rattle.out_io.specs.Faults.{Rose}
use Rattle.out_io.specs.History.{Call}

-- What it may have held before the run, and what it may hold after it, by its answers; its calls so
-- far, of which the last one stands first; and how many of them failed.
pub record Device (C : Type 0) : Type 1 where
  pub old : C → Type 0
  pub new : C → Type 0
  pub calls : List Call
  pub calls_after : List Call
  pub faults : ℕ
  pub faults_after : ℕ

abbrev pub device : {C : Type 0} → (old new : C → Type 0) → (calls calls_after : List Call)
    → (faults faults_after : ℕ) → Device C
device old new calls calls_after faults faults_after = record {
  old = old;
  new = new;
  calls = calls;
  calls_after = calls_after;
  faults = faults;
  faults_after = faults_after;
}

-- a call of it failed: its count of faults rose
abbrev pub HasFailed : {C : Type 0} → Device C → Type 0
HasFailed d = Rose d.faults d.faults_after

-- nothing was asked of it
abbrev pub IsUnasked : {C : Type 0} → Device C → Type 0
IsUnasked d = (d.calls_after ≡ d.calls) × (d.faults_after ≡ d.faults)

-- What it held before the run, what it holds after it, and whether a call of it failed.
pub record Course (C : Type 0) : Type 1 where
  pub old : C
  pub new : C
  pub failed : Type 0

-- of all that it may have held, this
abbrev pub course : {C : Type 0} → Device C → (old new : C) → Course C
course d old new = record { old = old; new = new; failed = HasFailed d }
