use Rattle.std.proofs.Common.{ap}
use Rattle.std.specs.Prelude.{map}
use Rattle.cir_ast.specs.Tree.{bare, Values}
use Rattle.cir_ast.specs.Program.{bare_program}
use Rattle.cir_meaning.specs.Anonymous.{lift}
use Rattle.cir_lift.specs.Turned.{kept}
use Rattle.cir_lift.proofs.Steps.{lifts_made}
use Rattle.cir_lift.proofs.values.Lifter.dropped.Goals as goal

pub returns : goal.returns
returns c =
    let s = c.args.self.now in
    lifts_made bare (λ es. Values (map bare es)) s c.expr.new.self
    (lift (bare_program s.program.now) s.first (bare c.args.e.now) s.next)
    (λ y. Values (kept (bare c.args.e.now) y)) c.in_ok-x.x c.in_ok-values.values c.in_ok-x.ensures
    (ap (λ ys. Values ys) c.in_ok-values.ensures)
