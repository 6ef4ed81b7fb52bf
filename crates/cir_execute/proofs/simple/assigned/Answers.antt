use Rattle.std.proofs.Common.{◌∙◌, ap, refl, sym}
use Rattle.cir_ast.specs.declared.program.Meant.{Meant}
use Rattle.cir_ast.specs.Tree.{Left, as_accessors, bare, bare_assign}
use Rattle.cir_ast.proofs.Rows.{accessors_are}
use Rattle.cir_meaning.specs.Simple as S
use Rattle.cir_frame.specs.Shown.{state_of}
use Rattle.cir_evaluate.specs.Within.{at_spot}
use Rattle.cir_create.specs.Makes.{context_in}
use Rattle.cir_assign.proofs.Stepping.{leads_as}
use Rattle.cir_execute.proofs.Scanning.{assign_placed}
use Rattle.cir_execute.proofs.simple.assigned.Goals as goal

pub returns-in-Left : goal.returns-in-Left
returns-in-Left g c =
    let b = c.args.body.now in
    let p = c.in-Left.place in
    let e = bare c.in-Left.value in
    λ m qs.
    let k = context_in b m in
    let w = at_spot b.context.now c.args.spot in
    let s = state_of c.args.frame.now c.args.world.now qs in
    leads_as qs c.args.world.now c.set_signal.new.frame c.set_signal.new.world c.set_signal.result
    _ _
    (ap (λ a. S.assign k w (bare_assign a) s) c.in-Left.is
    ∙ ap (λ a. S.set_signal k w (Left p.name p.meant a c.in-Left.arrow e) p.meant a c.in-Left.arrow
    e s) (accessors_are Meant p.accessors ∙ ap (λ l. as_accessors l) (sym c.as_slice.ensures)))
    ((rw c.here-here.ensures at c.set_signal.ensures) m.means p.name qs refl)

pub returns-in-Some : goal.returns-in-Some
returns-in-Some g c =
    let b = c.args.body.now in
    λ m qs.
    leads_as qs c.args.world.now c.set.new.frame c.set.new.world c.set.result _ _
    (assign_placed (context_in b m) (at_spot b.context.now c.args.spot)
    (bare_assign c.args.assign.now) c.in-Some.p (state_of c.args.frame.now c.args.world.now qs)
    c.in-Some.ensures)
    (c.set.ensures m c.in-Some.ensures.name qs c.in-Some.ensures.place)
