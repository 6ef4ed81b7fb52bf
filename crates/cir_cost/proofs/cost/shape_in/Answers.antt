use Rattle.std.proofs.Common.{◌∙◌, ap}
use Rattle.std.proofs.lemmas.Result.{IfOk-weaker}
use Rattle.cir_meaning.specs.Costs as M
use Rattle.cir_cost.proofs.cost.shape_in.Goals as goal

pub returns-in-Some-clause-shape : goal.returns-in-Some-clause-shape
returns-in-Some-clause-shape g c =
    λ m qs. IfOk-weaker c.from_slice.result _ _ (λ shape is. is ∙ c.dims.ensures
    ∙ ap M.shape_of (rw c.in-Some.is at (c.in_ok-seen.ensures.value m qs)))
    c.from_slice.ensures.items

pub returns-in-Some-clause-same : goal.returns-in-Some-clause-same
returns-in-Some-clause-same g c =
    λ m f qs. IfOk-weaker c.from_slice.result _ _
    (λ shape is. c.in_ok-seen.ensures.same m f qs) c.from_slice.ensures.items
