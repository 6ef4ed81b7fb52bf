use Rattle.std.proofs.Common.{All, subst, sym}
use Rattle.gold_field.specs.Form.{ConstraintBelow}
use Rattle.iden_files.specs.File.{File}
use Rattle.circom_files.proofs.Certified.{below, sound_as}
use Rattle.circom_files.proofs.determined.confirmed.Goals as goal

pub confirm-requires-clause-below : goal.confirm-requires-clause-below
confirm-requires-clause-below c =
    subst (λ (f : File). All (ConstraintBelow f.wires) c.constraints.result.now)
    (sym c.file.view_is)
    (below c.args.claim.now.file c.constraints.result.now c.constraints.ensures.constraints
    c.constraints.ensures.file)

pub returns-clause-determined : goal.returns-clause-determined
returns-clause-determined c =
    sound_as c.args.claim.now.file _ c.constraints.result.now c.as_slice-rules.result.now
    c.confirm.result c.file.view_is c.constraints.ensures.constraints c.constraints.ensures.file
    c.confirm.ensures
