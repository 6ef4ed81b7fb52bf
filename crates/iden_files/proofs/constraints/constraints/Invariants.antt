use Rattle.std.proofs.Common.{◌≡◌, ◌-◌, ◌+◌, ◌≤◌, ℕ, List, All, length, sum_by}
use Rattle.gold_field.specs.Form.{ConstraintBelow}
use Rattle.gold_field.specs.declared.form.Constraint.{Constraint}
use Rattle.binary_format.proofs.Loop.{with_front}
use Rattle.iden_files.specs.Limits.{most_terms}
use Rattle.iden_files.specs.File.{term_count}
use Rattle.iden_files.specs.ReadR1cs.{constraints_at, meant}
use Rattle.iden_files.proofs.constraints.constraints.Given as goal

pub record Inv (wires count end end0 counter room : ℕ) (all : List Constraint)
    (rest rest0 : List ℕ) : Type 0 where
  pub ends : end ≡ end0
  pub so_far : with_front all (meant wires (constraints_at wires end0 room (count - counter) rest))
      ≡ meant wires (constraints_at wires end0 most_terms count rest0)
  pub wired : All (ConstraintBelow wires) all
  pub counted : length all ≡ counter
  pub few : sum_by term_count all + room ≤ most_terms

abbrev pub invariant-loop : goal.invariant-loop
invariant-loop l =
    Inv l.wires l.count l.fields.end l.fn.fields.end l.counter l.room l.all.items l.fields.rest.now
    l.fn.fields.rest.now
