use Rattle.std.proofs.Common.{◌≡◌, ◌∙◌, ◌++◌, length, ap, subst}
use Rattle.cir_ast.specs.Tree.{bare_exprs, bare_value, bare_variable}
use Rattle.wit_lower.specs.Homes as L
use Rattle.wit_lower.specs.Pieces as P
use Rattle.wit_lower.specs.Statements as S
use Rattle.wit_sourced.specs.Behind.{IsBehind}
use Rattle.wit_statements.specs.Parts.{declared_as}
use Rattle.wit_sourced.specs.Shown.{scope_of}
use Rattle.wit_emit.specs.Grounds.{ground_of}
use Rattle.wit_emit.proofs.Chained.{then_ended, then_made}
use Rattle.wit_statements.proofs.Made.{declared_is}
use Rattle.wit_statements.proofs.declaring.emit_variable.Goals as goal

pub returns-clause-code : goal.returns-clause-code
returns-clause-code c =
    let g = ground_of c.args.ground.now in
    let s = scope_of c.args.scope.now in
    let old = c.args.code.now in
    let v = c.args.v.now in
    let dims = S.known_dims g (bare_variable v) in
    let first = S.dims_code g s (length old) (bare_exprs v.dimensions) in
    let zeros = P.zeros s.top (L.slots_of dims) in
    let behind = S.variable_scope g s (bare_variable v) in
    let known : c.in_ok-dims.dims ≡ dims =
    rw c.as_slice-dimensions.ensures at c.in_ok-dims.ensures in
    let shows : scope_of c.declare_as.new.scope ≡ behind =
    c.in_ok-declare_as.ensures.shows ∙ ap (λ ds. declared_as v.meant ds s) known
    ∙ declared_is g s (bare_variable v) v.meant in
    then_made old c.zeros.new.code c.emit_value.new.code (first ++ zeros)
    (λ p. S.value_code g behind p v.meant (bare_value v.value))
    (then_ended old c.emit_dims.new.code c.zeros.new.code first zeros
    (rw c.as_slice-dimensions.ensures at c.in_ok-emit_dims.ensures)
    (rw (c.made_elements.ensures, c.as_slice.ensures, known) at c.in_ok-zeros.ensures))
    (c.in_ok-emit_value.ensures ∙ ap (λ (x : L.Scope). c.zeros.new.code
    ++ S.value_code g x (length c.zeros.new.code) v.meant (bare_value v.value)) shows)

pub returns-clause-scope : goal.returns-clause-scope
returns-clause-scope c =
    let g = ground_of c.args.ground.now in
    let s = scope_of c.args.scope.now in
    let v = c.args.v.now in
    let known : c.in_ok-dims.dims ≡ S.known_dims g (bare_variable v) =
    rw c.as_slice-dimensions.ensures at c.in_ok-dims.ensures in
    subst (λ (x : L.Scope). IsBehind c.args.scope.now c.declare_as.new.scope x)
    (ap (λ ds. declared_as v.meant ds s) known ∙ declared_is g s (bare_variable v) v.meant)
    c.in_ok-declare_as.ensures
