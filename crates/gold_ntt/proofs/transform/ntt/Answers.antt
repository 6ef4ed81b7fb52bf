use Rattle.std.proofs.Common.{◌≡◌, ◌∙◌, sym, ap, subst, arith}
use Rattle.gold_ntt.specs.Transform.{HasValues, HalvesAt, root_of}
use Rattle.gold_ntt.proofs.Transforms.{same_log, root_halves}
use Rattle.gold_ntt.proofs.transform.ntt.Goals as goal

pub transform_at-requires-clause-root : goal.transform_at-requires-clause-root
transform_at-requires-clause-root c =
    let H : _ → Type 0 = λ y. HalvesAt y c.log_of-log.result in
    subst H (sym c.root.ensures.value) (root_halves c.log_of-log.result (omega arith))

pub returns : goal.returns
returns c = λ e size.
    let same : c.log_of-log.result ≡ e =
    same_log c.log_of-log.result e (sym c.log_of-log.ensures.power ∙ size) in
    let H : _ → Type 0 = λ y. HasValues y c.args.a.now c.transform_at.new.a in
    subst H (c.root.ensures.value ∙ ap root_of same) c.transform_at.ensures.values
