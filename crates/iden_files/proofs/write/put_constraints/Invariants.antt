use Rattle.std.proofs.Common.{◌≡◌, ◌++◌, ℕ, List, All, take}
use Rattle.std.specs.List.{flat_map}
use Rattle.gold_field.specs.declared.form.Constraint.{Constraint}
use Rattle.iden_files.specs.File.{HasForms}
use Rattle.iden_files.specs.Spelling.{constraint_bytes}
use Rattle.iden_files.proofs.write.put_constraints.Given as goal

pub record Inv (out before : List ℕ) (done : List Constraint) : Type 0 where
  pub bytes : out ≡ before ++ flat_map constraint_bytes done
  pub forms : All HasForms done

abbrev pub invariant-loop-k : goal.invariant-loop-k
invariant-loop-k l = Inv l.out.items l.fn.out.items (take l.k-index l.constraints)
