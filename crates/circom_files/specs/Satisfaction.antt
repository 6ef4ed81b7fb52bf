-- What it means that values satisfy a file, in the words of constraint systems.
use Rattle.std.specs.Prelude.{◌≡◌, ℕ, ◌<◌, List, length, slice_index, slice_get, IsSomeAnd, All}
use Rattle.gold_field.specs.Form.{Holds}
use Rattle.gold_field.specs.declared.form.Constraint.{Constraint}
use Rattle.iden_files.specs.File.{File}

-- a value for each wire, and 1 for wire 0
pub record IsAssignment (file : File) (values : List ℕ) : Type 0 where
  pub counts : length values ≡ file.wires
  pub one : slice_index values 0 ≡ 1

-- every constraint holds
pub record Satisfies (file : File) (values : List ℕ) : Type 0 where
  pub assignment : IsAssignment file values
  pub holds : All (Holds (slice_index values)) file.constraints

-- the constraint k of the list fails, and every one before it holds
pub record IsLeastFailing (values : List ℕ) (constraints : List Constraint) (k : ℕ) : Type 0 where
  pub before : (j : ℕ) → j < k → IsSomeAnd (slice_get constraints j) (Holds (slice_index values))
  pub here : IsSomeAnd (slice_get constraints k) (λ c. ¬ Holds (slice_index values) c)

-- the constraint k is the first that fails
pub record FailsFirstAt (file : File) (values : List ℕ) (k : ℕ) : Type 0 where
  pub assignment : IsAssignment file values
  pub least : IsLeastFailing values file.constraints k
