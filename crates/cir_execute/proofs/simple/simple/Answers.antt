use Rattle.std.proofs.Common.{refl}
use Rattle.cir_ast.specs.Tree.{bare_simple}
use Rattle.cir_ast.specs.Program.{bare_program}
use Rattle.cir_meaning.specs.Anonymous.{lift_simple}
use Rattle.cir_frame.specs.Shown.{state_of}
use Rattle.cir_create.specs.Makes.{context_in}
use Rattle.cir_assign.proofs.Stepping.{leads_as}
use Rattle.cir_execute.proofs.Lifting.{lifting_is}
use Rattle.cir_execute.proofs.simple.simple.Goals as goal

pub returns : goal.returns
returns g c =
    let b = c.args.body.now in
    let x = bare_simple c.args.form.now in
    λ m qs.
    leads_as qs c.args.world.now c.lifted-result.new.frame c.lifted-result.new.world
    c.lifted-result.result _ _
    (lifting_is (context_in b m) c.args.spot x c.args.frame.now
    (state_of c.args.frame.now c.args.world.now qs) c.in_ok-next.next c.in_ok-next.ensures.ok refl)
    (c.lifted-result.ensures m
    (lift_simple (bare_program b.context.now.program.now) b.context.now.named_components x
    c.in_ok-next.next) qs c.in_ok-l.ensures)
