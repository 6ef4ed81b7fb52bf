use Rattle.std.proofs.Common.{refl}
use Rattle.cir_ast.specs.Tree.{bare}
use Rattle.cir_values.specs.Meant.{meant}
use Rattle.cir_meaning.specs.Arrays.{single}
use Rattle.cir_meaning.specs.Values.{Linear, sum_of}
use Rattle.cir_arrays.specs.Counted.{counts_of}
use Rattle.cir_arrays.specs.Shown.{datum_of}
use Rattle.cir_frame.specs.Shown.{state_of}
use Rattle.cir_evaluate.specs.Within.{context_at, where_at}
use Rattle.cir_assign.specs.Given.{given_by}
use Rattle.cir_assign.proofs.Added.{new_refused, sum_goes, sum_refused}
use Rattle.cir_assign.proofs.growing.new_value.Goals as goal

pub returns-in_err-y-clause-value : goal.returns-in_err-y-clause-value
returns-in_err-y-clause-value g c = λ m qs.
    let w = c.args.w.now in
    let linear = c.is_linear.ensures c.if-is_linear.true (counts_of c.args.world.now.added) in
    sum_refused (context_at c.args.here.now m) (where_at c.args.here.now) c.args.here.now.shaded
    w.variable (given_by w.given) (bare c.in-Some.e.now)
    (state_of c.args.frame.now c.args.world.now qs) linear.0 c.in-Some.ensures linear.1
    (state_of c.args.frame.now c.number.new.world qs) c.from_residual.result _
    c.from_residual.ensures.1 (c.in_err-y.ensures.value m qs)

pub returns-in-Some-clause-value : goal.returns-in-Some-clause-value
returns-in-Some-clause-value g c = λ m qs.
    let w = c.args.w.now in
    let linear = c.is_linear.ensures c.if-is_linear.true (counts_of c.args.world.now.added) in
    let y = meant c.in_ok-y.y in (
      single (sum_of (Linear linear.0) y),
      sum_goes (context_at c.args.here.now m) (where_at c.args.here.now)
          c.args.here.now.shaded w.variable (given_by w.given) (bare c.in-Some.e.now)
          (state_of c.args.frame.now c.args.world.now qs) linear.0 c.in-Some.ensures linear.1 y
          (state_of c.args.frame.now c.number.new.world qs) (c.in_ok-y.ensures.value m qs),
      (linear.0, linear.1, refl),
    )

pub returns-in_err-d-clause-value : goal.returns-in_err-d-clause-value
returns-in_err-d-clause-value g c = λ m qs.
    new_refused c.args.w.now.variable _ c.from_residual-in_err-d.result _ _
    c.from_residual-in_err-d.ensures.1 (c.in_err-d.ensures.value m qs)

pub returns-clause-value : goal.returns-clause-value
returns-clause-value g c = λ m qs. (datum_of c.in_ok-d.d, c.in_ok-d.ensures.value m qs, refl)
