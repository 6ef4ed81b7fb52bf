-- What an .r1cs file means.
use Rattle.std.specs.Prelude.{◌≡◌, ℕ, ◌+◌, ◌≤◌, ◌<◌, ◌^◌, List, length, All, sum_by}
use Rattle.gold_field.specs.Form.{ConstraintBelow}
use Rattle.gold_field.specs.Rises.{RisesFrom}
use Rattle.gold_field.specs.declared.form.Term.{Term}
use Rattle.gold_field.specs.declared.form.Constraint.{Constraint}
use Rattle.gold_field.specs.declared.gold.TheConstants.{P}
use Rattle.iden_files.specs.Limits.{most_wires, most_constraints, most_terms}

pub record File : Type 0 where
  pub wires : ℕ
  pub outputs : ℕ
  pub public_inputs : ℕ
  pub private_inputs : ℕ
  pub label_count : ℕ
  pub labels : List ℕ
  pub constraints : List Constraint

-- each wire has a label, each signal is a wire, and the inputs and outputs are wires behind wire 0
pub record IsFile (f : File) : Type 0 where
  pub labelled : length f.labels ≡ f.wires
  pub wired : All (ConstraintBelow f.wires) f.constraints
  pub numbered : 1 + f.outputs + f.public_inputs + f.private_inputs ≤ f.wires

abbrev pub term_count : Constraint → ℕ
term_count k = length k.a + (length k.b + length k.c)

pub record InLimits (f : File) : Type 0 where
  pub wires : f.wires ≤ most_wires
  pub constraints : length f.constraints ≤ most_constraints
  pub terms : sum_by term_count f.constraints ≤ most_terms

-- the one form of a linear combination
pub record IsForm (terms : List Term) : Type 0 where
  pub rises : RisesFrom 0 terms
  pub coefs : All (λ t. t.coef < P) terms

pub record HasForms (k : Constraint) : Type 0 where
  pub a : IsForm k.a
  pub b : IsForm k.b
  pub c : IsForm k.c

-- a file whose parts all have the ranges of their types
pub record IsWhole (f : File) : Type 0 where
  pub file : IsFile f
  pub label_count : f.label_count < 2 ^ 64
  pub labels : All (λ n. n < 2 ^ 64) f.labels
  pub forms : All HasForms f.constraints
