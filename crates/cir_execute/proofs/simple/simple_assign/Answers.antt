use Rattle.std.proofs.Common.{refl}
use Rattle.cir_ast.specs.Tree.{Assigned, bare_assign}
use Rattle.cir_ast.specs.Program.{bare_program}
use Rattle.cir_meaning.specs.Anonymous.{lift_simple}
use Rattle.cir_frame.specs.Shown.{state_of}
use Rattle.cir_create.specs.Makes.{context_in}
use Rattle.cir_assign.proofs.Stepping.{leads_as, leads_exit, leads_next}
use Rattle.cir_execute.proofs.Going.{counted_leads}
use Rattle.cir_execute.proofs.Lifting.{assign_plain, lifting_is}
use Rattle.cir_execute.proofs.simple.simple_assign.Goals as goal

pub returns-in_err-assigned : goal.returns-in_err-assigned
returns-in_err-assigned g c = λ m qs.
    leads_as qs c.args.world.now c.assigned.new.frame c.assigned.new.world
    c.from_residual.result _ _
    (assign_plain (context_in c.args.body.now m) c.args.spot (bare_assign c.args.assign.now)
    (state_of c.args.frame.now c.args.world.now qs)
    (c.assign_holds.ensures c.if-not-assign_holds.true))
    (leads_exit qs c.args.world.now c.assigned.new.frame c.assigned.new.world _ _ _ _
    c.from_residual.ensures.1 (c.in_err-assigned.ensures m qs))

pub returns-then-not-assign_holds : goal.returns-then-not-assign_holds
returns-then-not-assign_holds g c = λ m qs.
    leads_as qs c.args.world.now c.assigned.new.frame c.counted.new.world c.counted.result _ _
    (assign_plain (context_in c.args.body.now m) c.args.spot (bare_assign c.args.assign.now)
    (state_of c.args.frame.now c.args.world.now qs)
    (c.assign_holds.ensures c.if-not-assign_holds.true))
    (leads_next qs c.args.world.now c.assigned.new.world c.assigned.new.frame
    c.assigned.new.frame c.counted.new.world _ _ _ (c.in_ok-assigned.ensures m qs)
    (λ es. counted_leads es c.assigned.new.world c.counted.new.world c.assigned.new.frame _ _
    (c.counted.ensures.value c.assigned.new.frame es) c.counted.ensures.keeps))

pub returns : goal.returns
returns g c =
    let b = c.args.body.now in
    let x = Assigned (bare_assign c.args.assign.now) in
    λ m qs.
    leads_as qs c.args.world.now c.lifted-result.new.frame c.lifted-result.new.world
    c.lifted-result.result _ _
    (lifting_is (context_in b m) c.args.spot x c.args.frame.now
    (state_of c.args.frame.now c.args.world.now qs) c.in_ok-next.next c.in_ok-next.ensures.ok refl)
    (c.lifted-result.ensures m
    (lift_simple (bare_program b.context.now.program.now) b.context.now.named_components x
    c.in_ok-next.next) qs c.in_ok-l.ensures)
