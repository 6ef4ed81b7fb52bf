use Rattle.std.proofs.Common.{◌∙◌, ap, sym}
use Rattle.cir_ast.specs.declared.program.Meant.{Meant}
use Rattle.cir_ast.specs.Tree.{Left, as_accessors, bare, bare_assign}
use Rattle.cir_ast.proofs.Rows.{accessors_are}
use Rattle.cir_assign.specs.Given.{given_by}
use Rattle.cir_meaning.specs.Writing.{plain}
use Rattle.cir_evaluate.specs.Within.{at_spot}
use Rattle.cir_execute.proofs.Scanning.{plain_placed}
use Rattle.cir_steps.specs.Emit.{emit_assigned, emit_set_place, emit_set_signal}
use Rattle.cir_make.specs.Emits.{go_on}
use Rattle.cir_make.specs.Means.{emitting_in}
use Rattle.cir_make.proofs.Going.{emits_as}
use Rattle.cir_body.proofs.simple.assigned.Goals as goal

pub returns-in-Left : goal.returns-in-Left
returns-in-Left g c = λ m d shows.
    let b = c.args.body.now in
    let q = emitting_in b m in
    let w = at_spot b.context.now c.args.spot in
    let p = c.in-Left.place in
    let e = bare c.in-Left.value in
    emits_as m.first c.set_signal.new.inside c.set_signal.new.whole c.set_signal.result _ _
    (ap (λ a. go_on d (emit_assigned q w (bare_assign a) (plain (bare_assign a)))) c.in-Left.is
    ∙ ap (λ a. go_on d (emit_set_signal q w (Left p.name p.meant a c.in-Left.arrow e) p.meant a
    c.in-Left.arrow e))
    (accessors_are Meant p.accessors ∙ ap (λ l. as_accessors l) (sym c.as_slice.ensures)))
    (c.set_signal.ensures m p.name d shows)

pub returns-in-Some : goal.returns-in-Some
returns-in-Some g c = λ m d shows.
    let b = c.args.body.now in
    let q = emitting_in b m in
    let w = at_spot b.context.now c.args.spot in
    let p = c.in-Some.p in
    let a = bare_assign c.args.assign.now in
    emits_as m.first c.set.new.inside c.set.new.whole c.set.result _ _
    (ap (λ x. go_on d (emit_assigned q w a x)) (plain_placed a p c.in-Some.ensures)
    ∙ ap (λ x. go_on d (emit_set_place q w x p.meant (as_accessors p.accessors.now)
    (given_by p.given))) c.in-Some.ensures.written)
    (c.set.ensures m c.in-Some.ensures.name d c.in-Some.ensures.place shows)
