use Rattle.std.proofs.Common.{IfOk, map, subst}
use Rattle.cir_ast.specs.Tree.{bare}
use Rattle.cir_ast.specs.Program.{bare_program}
use Rattle.cir_meaning.specs.Anonymous.{lift_values}
use Rattle.cir_lift.specs.Lifts.{Lifts}
use Rattle.cir_lift.proofs.Arms.{anonymous_at}
use Rattle.cir_lift.proofs.values.Lifter.+values.Goals as goal

pub returns-in-Anonymous : goal.returns-in-Anonymous
returns-in-Anonymous t c =
    let s = c.args.self.now in
    subst
    (λ e. IfOk c.outputs.result (Lifts (λ v. map bare v.items) s c.outputs.new.self
    (lift_values (bare_program s.program.now) s.first e s.next)))
    (anonymous_at _ _ c.args.e.now c.in-Anonymous.is c.deref-in-Anonymous.ensures)
    c.outputs.ensures
