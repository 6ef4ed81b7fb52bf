use Rattle.std.proofs.Common.{ap}
use Rattle.cir_ast.specs.Tree.{bare_first}
use Rattle.cir_meaning.specs.Simple.{simple}
use Rattle.cir_meaning.specs.Statement.{first_simple}
use Rattle.cir_frame.specs.Shown.{state_of}
use Rattle.cir_create.specs.Makes.{context_in}
use Rattle.cir_assign.proofs.Stepping.{leads_as}
use Rattle.cir_execute.proofs.statement.first_statement.Goals as goal

pub returns-in-Vars : goal.returns-in-Vars
returns-in-Vars g c = λ m qs.
    leads_as qs c.args.world.now c.simple_vars.new.frame c.simple_vars.new.world _ _ _
    (ap (λ f. simple (context_in c.args.body.now m) c.args.first.now.spot (first_simple (bare_first
    f))
    (state_of c.args.frame.now c.args.world.now qs)) c.in-Vars.is) (c.simple_vars.ensures m qs)

pub returns-in-Assign : goal.returns-in-Assign
returns-in-Assign g c = λ m qs.
    leads_as qs c.args.world.now c.simple_assign.new.frame c.simple_assign.new.world _ _ _
    (ap (λ f. simple (context_in c.args.body.now m) c.args.first.now.spot (first_simple (bare_first
    f))
    (state_of c.args.frame.now c.args.world.now qs)) c.in-Assign.is) (c.simple_assign.ensures m qs)
