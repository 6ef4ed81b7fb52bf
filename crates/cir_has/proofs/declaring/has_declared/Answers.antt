use Rattle.std.proofs.Common.{◌≡◌, ◌∙◌, ap, subst}
use Rattle.std.proofs.lemmas.Result.{on_ok_weaker}
use Rattle.cir_ast.specs.Tree.{bare_value, bare_variable}
use Rattle.cir_emit.specs.Sourced as H
use Rattle.wit_lower.specs.Homes as L
use Rattle.wit_lower.specs.Statements as S
use Rattle.wit_emit.specs.Grounds.{ground_of}
use Rattle.wit_sourced.specs.Behind.{IsBehind}
use Rattle.wit_sourced.specs.Shown.{scope_of}
use Rattle.wit_statements.specs.Parts.{declared_as}
use Rattle.wit_statements.proofs.Made.{declared_is}
use Rattle.cir_has.proofs.declaring.has_declared.Goals as goal

pub returns-clause-has : goal.returns-clause-has
returns-clause-has g c =
    let There = g.A.Arrays.there c.args.arrays.now in
    let ground = ground_of c.args.ground.now in
    let s = scope_of c.args.scope.now in
    let v = c.args.v.now in
    let known : c.in_ok-dims.dims ≡ S.known_dims ground (bare_variable v) =
    rw c.as_slice-dimensions.ensures at c.in_ok-dims.ensures in
    let shows : scope_of c.declare_as.new.scope ≡ S.variable_scope ground s (bare_variable v) =
    c.in_ok-declare_as.ensures.shows ∙ ap (λ ds. declared_as v.meant ds s) known
    ∙ declared_is ground s (bare_variable v) v.meant in
    on_ok_weaker c.has_value.result (λ h. (
      rw c.as_slice-dimensions.ensures at c.in_ok-has_dims.ensures,
      subst (λ (x : L.Scope). H.ValueHas There ground x.homes v.meant (bare_value v.value)) shows
          h,
    )) c.has_value.ensures

pub returns-clause-scope : goal.returns-clause-scope
returns-clause-scope g c =
    let ground = ground_of c.args.ground.now in
    let s = scope_of c.args.scope.now in
    let v = c.args.v.now in
    let known : c.in_ok-dims.dims ≡ S.known_dims ground (bare_variable v) =
    rw c.as_slice-dimensions.ensures at c.in_ok-dims.ensures in
    on_ok_weaker c.has_value.result (λ h. subst (λ (x : L.Scope). IsBehind c.args.scope.now
    c.declare_as.new.scope x) (ap (λ ds. declared_as v.meant ds s) known
    ∙ declared_is ground s (bare_variable v) v.meant) c.in_ok-declare_as.ensures)
    c.has_value.ensures
