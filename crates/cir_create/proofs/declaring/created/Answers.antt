use Rattle.cir_ast.specs.Tree.{bare}
use Rattle.cir_evaluate.specs.Within.{at_spot}
use Rattle.cir_create.specs.Makes.{context_in}
use Rattle.cir_create.proofs.Creations.{declared_leads}
use Rattle.cir_assign.proofs.Stepping.{leads_refused}
use Rattle.cir_create.proofs.declaring.created.Goals as goal

pub returns-in_err-n : goal.returns-in_err-n
returns-in_err-n g c = λ m qs.
    leads_refused qs c.args.world.now c.args.frame.now c.args.world.now c.from_residual.result _ _
    c.from_residual.ensures.1 ((rw c.here-here.ensures at c.in_err-n.ensures) _)

pub returns : goal.returns
returns g c = λ m qs.
    declared_leads (context_in c.args.body.now m)
    (at_spot c.args.body.now.context.now c.args.spot) c.args.meant c.in_ok-n.n
    c.args.name.now (bare c.args.e.now) qs c.args.world.now c.declare_component.new.world
    c.create.new.world c.args.frame.now c.declare_component.new.frame c.create.new.frame
    c.create.result (rw c.here-here.ensures at c.in_ok-n.ensures)
    (rw (c.as_slice.ensures, c.new-no_dims.ensures.items)
    at (c.in_ok-declare_component.ensures.state qs))
    c.in_ok-declare_component.ensures.constraints (c.create.ensures m qs)
