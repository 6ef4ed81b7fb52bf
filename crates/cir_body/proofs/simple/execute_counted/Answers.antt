use Rattle.cir_ast.specs.Tree.{bare_simple}
use Rattle.cir_lift.specs.Turned.{turned}
use Rattle.cir_steps.specs.Emit.{emit_counted, emit_execute}
use Rattle.cir_make.specs.Means.{emitting_in}
use Rattle.cir_body.proofs.Executing.{counted_ends}
use Rattle.cir_make.proofs.Going.{emits_exit, emits_next}
use Rattle.cir_body.proofs.simple.execute_counted.Goals as goal

pub returns-in_err-execute : goal.returns-in_err-execute
returns-in_err-execute g c = λ m d shows.
    let q = emitting_in c.args.body.now m in
    emits_exit m.first c.execute.new.inside c.execute.new.whole
    c.from_residual.result _ d
    (emit_execute q c.args.spot (turned (bare_simple c.args.form.now)))
    (emit_counted q c.args.spot) c.from_residual.ensures.1 (c.in_err-execute.ensures m d shows)

pub returns : goal.returns
returns g c = λ m d shows.
    let p = m.first in
    let q = emitting_in c.args.body.now m in
    let j = c.execute.new.inside in
    let v = c.execute.new.whole in
    emits_next p j j v _ c.counted.result d
    (emit_execute q c.args.spot (turned (bare_simple c.args.form.now)))
    (emit_counted q c.args.spot) (c.in_ok-execute.ensures m d shows)
    (λ y here. counted_ends q c.args.spot p j v y here c.counted.new.world c.counted.result
    (c.counted.ensures.value j.frame _) c.counted.ensures.keeps)
