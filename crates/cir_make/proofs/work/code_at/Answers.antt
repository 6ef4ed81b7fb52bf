use Rattle.std.proofs.Common.{◌∙◌, subst, sym}
use Rattle.wit_sourced.specs.Loaded.{AreTold, components_in}
use Rattle.cir_make.specs.Arrays.{AreArraysOf, IsSizedBy}
use Rattle.cir_make.proofs.Codes.{told_as}
use Rattle.cir_make.proofs.Homing.{frame_sized}
use Rattle.cir_make.proofs.Leading.{always_ok}
use Rattle.cir_make.proofs.Placing.{are_arrays}
use Rattle.cir_make.proofs.work.code_at.Goals as goal

pub returns-clause-code : goal.returns-clause-code
returns-clause-code g c = λ m qs of known stands is targets.
    let told = rw c.dark-dark.ensures at c.in_ok-calls.ensures.told in
    let standing = c.args.standing.now in
    let f = standing.frame.now in
    let step = c.in_ok-step.step in
    let components = components_in step.components.now in
    let sized : IsSizedBy f components =
    subst (λ l. IsSizedBy f (components_in l))
    (sym (c.in_ok-step.ensures.components ∙ c.as_slice-components.ensures.value))
    (frame_sized f) in
    c.code_of.ensures.code of
    (subst (AreTold of.names.known) (sym (c.in_ok-step.ensures.calls ∙ c.as_slice-5.ensures.value))
    (told_as _ _ known c.in_ok-calls.calls.items (told m qs)))
    (subst (AreArraysOf f of components) (sym c.as_slice-4.ensures.value)
    (are_arrays f standing.cells.now standing.befores.now of components stands sized
    c.in_ok-arrays.arrays.items c.in_ok-arrays.ensures))
    (is ∙ sym c.in_ok-step.ensures.task) targets

pub returns-clause-same : goal.returns-clause-same
returns-clause-same g c = λ m f qs.
    let first = rw c.dark-dark.ensures at c.in_ok-calls.ensures.same in
    let second = rw c.dark-dark.ensures at c.in_ok-indices.ensures.same in
    always_ok c.code_of.result _ (second m f qs ∙ first m f qs)
