use Rattle.std.proofs.Common.{All, subst, sym}
use Rattle.gold_field.specs.Form.{ConstraintBelow}
use Rattle.iden_files.specs.File.{File}
use Rattle.circom_files.proofs.Certified.{below}
use Rattle.circom_files.proofs.determined.searched.Goals as goal

pub determine-requires-clause-below : goal.determine-requires-clause-below
determine-requires-clause-below c =
    subst (λ (f : File). All (ConstraintBelow f.wires) c.constraints.result.now)
    (sym c.file.view_is)
    (below c.args.file.now c.constraints.result.now c.constraints.ensures.constraints
    c.constraints.ensures.file)
