use Rattle.std.proofs.Common.{◌∙◌, ap, subst}
use Rattle.cir_ast.specs.declared.program.Meant.TheVariants.{Component}
use Rattle.cir_ast.specs.Tree.{as_accessors}
use Rattle.cir_evaluate.specs.Within.{at_spot}
use Rattle.cir_assign.specs.Given.{IsPlaceOf, given_by, written_by}
use Rattle.cir_steps.specs.Emit.{emit_set_place}
use Rattle.cir_make.specs.Emits.{go_on}
use Rattle.cir_make.specs.Means.{emitting_in}
use Rattle.cir_make.proofs.Going.{emits_as}
use Rattle.cir_write.proofs.setting.set.Goals as goal

pub returns-in-Variable : goal.returns-in-Variable
returns-in-Variable g c = λ m name d place shows.
    let q = emitting_in c.args.body.now m in
    let w = at_spot c.args.body.now.context.now c.args.spot in
    let accessors = c.args.p.now.accessors.now in
    let given = c.args.p.now.given in
    emits_as m.first c.set_variable.new.inside c.set_variable.new.whole
    c.set_variable.result _ _
    (ap (λ x. go_on d (emit_set_place q w (written_by name x accessors given) x
    (as_accessors accessors) (given_by given))) c.in-Variable.is)
    (c.set_variable.ensures m name d
    (subst (λ x. IsPlaceOf name x accessors given) c.in-Variable.is place) shows)

pub returns-in-Plain : goal.returns-in-Plain
returns-in-Plain g c = λ m name d place shows.
    let q = emitting_in c.args.body.now m in
    let w = at_spot c.args.body.now.context.now c.args.spot in
    let accessors = c.args.p.now.accessors.now in
    let given = c.args.p.now.given in
    let n = c.in-Component.n in
    emits_as m.first c.create.new.inside c.create.new.whole c.create.result
    _ _
    (ap (λ x. go_on d (emit_set_place q w (written_by name x accessors given) x
    (as_accessors accessors) (given_by given))) c.in-Component.is
    ∙ ap (λ x. go_on d (emit_set_place q w (written_by name (Component n) accessors x)
    (Component n) (as_accessors accessors) (given_by x))) c.in-Plain.is)
    (c.create.ensures m d shows)
