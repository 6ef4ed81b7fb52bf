use Rattle.std.proofs.Common.{ap}
use Rattle.cir_ast.specs.Tree.{bare_first}
use Rattle.cir_meaning.specs.Statement.{first_simple}
use Rattle.cir_steps.specs.Emit.{emit_simple}
use Rattle.cir_make.specs.Emits.{go_on}
use Rattle.cir_make.specs.Means.{emitting_in}
use Rattle.cir_make.proofs.Going.{emits_as}
use Rattle.cir_body.proofs.statement.begin.Goals as goal

pub returns-in-Vars : goal.returns-in-Vars
returns-in-Vars g c = λ m d shows.
    emits_as m.first c.simple_vars.new.inside c.simple_vars.new.whole
    c.simple_vars.result _ _
    (ap (λ f. go_on d (emit_simple (emitting_in c.args.body.now m) c.args.first.now.spot
    (first_simple (bare_first f)))) c.in-Vars.is) (c.simple_vars.ensures m d shows)

pub returns-in-Assign : goal.returns-in-Assign
returns-in-Assign g c = λ m d shows.
    emits_as m.first c.simple_assign.new.inside c.simple_assign.new.whole
    c.simple_assign.result _ _
    (ap (λ f. go_on d (emit_simple (emitting_in c.args.body.now m) c.args.first.now.spot
    (first_simple (bare_first f)))) c.in-Assign.is) (c.simple_assign.ensures m d shows)
