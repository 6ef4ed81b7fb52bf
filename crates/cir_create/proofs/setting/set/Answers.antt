use Rattle.std.proofs.Common.{◌∙◌, ap, subst, refl}
use Rattle.cir_ast.specs.declared.program.Meant.TheVariants.{Component}
use Rattle.cir_ast.specs.Tree.{as_accessors}
use Rattle.cir_meaning.specs.Simple as S
use Rattle.cir_frame.specs.Shown.{state_of}
use Rattle.cir_evaluate.specs.Within.{at_spot}
use Rattle.cir_assign.specs.Given.{IsPlaceOf, given_by, written_by}
use Rattle.cir_create.specs.Makes.{context_in}
use Rattle.cir_assign.proofs.Stepping.{leads_as}
use Rattle.cir_create.proofs.setting.set.Goals as goal

pub returns-in-Variable : goal.returns-in-Variable
returns-in-Variable g c = λ m name qs place.
    let k = context_in c.args.body.now m in
    let w = at_spot c.args.body.now.context.now c.args.spot in
    let accessors = c.args.p.now.accessors.now in
    let given = c.args.p.now.given in
    leads_as qs c.args.world.now c.set_variable.new.frame c.set_variable.new.world
    c.set_variable.result _ _
    (ap (λ x. S.set k w (written_by name x accessors given) x (as_accessors accessors)
    (given_by given) (state_of c.args.frame.now c.args.world.now qs)) c.in-Variable.is)
    ((rw c.here-here.ensures at c.set_variable.ensures) m.means name qs refl
    (subst (λ x. IsPlaceOf name x accessors given) c.in-Variable.is place))

pub returns-in-Plain : goal.returns-in-Plain
returns-in-Plain g c = λ m name qs place.
    let k = context_in c.args.body.now m in
    let w = at_spot c.args.body.now.context.now c.args.spot in
    let accessors = c.args.p.now.accessors.now in
    let given = c.args.p.now.given in
    let n = c.in-Component.n in
    let s = state_of c.args.frame.now c.args.world.now qs in
    leads_as qs c.args.world.now c.create.new.frame c.create.new.world c.create.result _ _
    (ap (λ x. S.set k w (written_by name x accessors given) x (as_accessors accessors)
    (given_by given) s) c.in-Component.is
    ∙ ap (λ x. S.set k w (written_by name (Component n) accessors x) (Component n)
    (as_accessors accessors) (given_by x) s) c.in-Plain.is)
    (c.create.ensures m qs)
