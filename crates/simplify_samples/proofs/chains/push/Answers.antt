use Rattle.std.proofs.lemmas.List.Elements.{All-push}
use Rattle.cir_lc.specs.Normal.{IsConstraintWithin}
use Rattle.cir_lc.specs.Sparse.{IsNormalForm}
use Rattle.simplify_samples.proofs.chains.push.Goals as goal

pub returns : goal.returns
returns c n quad list =
    let added = c.in_ok-constraint.ensures in
    let before = c.args.list.now.items in
    let normal = All-push IsNormalForm before _ list.0 added.normal in
    let within = All-push (IsConstraintWithin n) before _ list.1 (added.within n quad) in
    rw c.in_ok-push.ensures.items (normal, within)
