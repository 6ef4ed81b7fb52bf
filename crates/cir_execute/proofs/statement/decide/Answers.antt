use Rattle.std.proofs.Common.{◌∙◌}
use Rattle.cir_ast.specs.Tree.{bare}
use Rattle.cir_values.specs.Meant.{meant}
use Rattle.cir_frame.specs.Shown.{state_of}
use Rattle.cir_arrays.proofs.Exits.{exits}
use Rattle.cir_evaluate.specs.Within.{context_of}
use Rattle.cir_execute.proofs.Branching.{decides_refused, condition_is, condition_stops}
use Rattle.cir_execute.proofs.Scanning.{kept_constraints}
use Rattle.cir_execute.proofs.statement.decide.Goals as goal

pub returns-in_err-v-clause-side : goal.returns-in_err-v-clause-side
returns-in_err-v-clause-side g c = λ m qs.
    let v = rw c.here.ensures at c.in_err-v.ensures.value in
    decides_refused _ _ _ _ c.from_residual.ensures.1 (exits _ _ _ (v m qs))

pub returns-in_err-settle-clause-side : goal.returns-in_err-settle-clause-side
returns-in_err-settle-clause-side g c = λ m qs.
    let v = rw c.here.ensures at c.in_ok-v.ensures.value in
    decides_refused _ _ _ _ c.from_residual-in_err-settle.ensures.1
    (condition_stops (context_of c.args.context.now m.call m.make) c.args.spot
    (bare c.args.condition.now) (state_of c.args.frame.now c.args.world.now qs)
    (state_of c.args.frame.now c.number.new.world qs) (meant c.in_ok-v.v) _ (v m qs)
    (c.in_err-settle.ensures.value c.args.frame.now qs))

pub returns-clause-side : goal.returns-clause-side
returns-clause-side g c = λ m qs.
    let v = rw c.here.ensures at c.in_ok-v.ensures.value in (
      meant c.in_ok-v.v,
      condition_is (context_of c.args.context.now m.call m.make) c.args.spot
          (bare c.args.condition.now) (state_of c.args.frame.now c.args.world.now qs)
          (state_of c.args.frame.now c.number.new.world qs)
          (state_of c.args.frame.now c.settle.new.world qs) (meant c.in_ok-v.v) (v m qs)
          (c.in_ok-settle.ensures.value c.args.frame.now qs),
      c.side_of-side.ensures,
    )

pub returns-clause-constraints : goal.returns-clause-constraints
returns-clause-constraints g c = λ m.
    let v = rw c.here.ensures at c.in_ok-v.ensures.keeps in
    kept_constraints c.settle.new.world c.args.world.now (c.in_ok-settle.ensures.keeps ∙ v m)
