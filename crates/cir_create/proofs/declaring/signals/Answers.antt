use Rattle.std.proofs.Common.{refl}
use Rattle.cir_ast.specs.Tree.{bare_signal}
use Rattle.cir_meaning.specs.Simple.{signal_declaration}
use Rattle.cir_arrays.specs.Stopped.{IsRefusal}
use Rattle.cir_frame.specs.Shown.{state_of}
use Rattle.cir_evaluate.specs.Within.{context_of}
use Rattle.cir_assign.proofs.Stepping.{here_told, lists_kept}
use Rattle.cir_create.proofs.Turns.{Went, turn_goes, turn_refused, turns_end}
use Rattle.cir_create.proofs.declaring.signals.Given as given
use Rattle.cir_create.proofs.declaring.signals.Goals as goal

pub loop-d-init : goal.loop-d-init
loop-d-init g c = λ m qs. (
  qs,
  refl,
  lists_kept qs c.args.world.now c.args.world.now refl,
)

pub loop-d-preserved : goal.loop-d-preserved
loop-d-preserved g c = λ m qs.
    turn_goes (signal_declaration (context_of c.args.context.now m.call m.make)
    c.args.spot c.args.direction) bare_signal c.args.declared.now c.loop-d.d-index c.d-item.result
    qs
    c.args.world.now c.loop-d.world c.signal.new.world c.loop-d.frame
    c.signal.new.frame _ c.loop-d-test.true c.d-item.is
    (c.loop-d.invariant m qs) (λ es.
    here_told (given.C-post g) c.here-here.result c.args.context c.args.spot
    (λ k spot. Went es c.loop-d.world c.signal.new.frame c.signal.new.world
    (signal_declaration k spot c.args.direction (bare_signal c.d-item.result)
    (state_of c.loop-d.frame c.loop-d.world es))) c.here-here.ensures
    (λ n shaded. c.in_ok-signal.ensures n es shaded) m)

pub returns-in_err-signal : goal.returns-in_err-signal
returns-in_err-signal g c = λ m qs.
    turn_refused (signal_declaration (context_of c.args.context.now m.call m.make)
    c.args.spot c.args.direction) bare_signal c.args.declared.now c.loop-d.d-index c.d-item.result
    qs
    c.args.world.now c.loop-d.world c.signal.new.world c.loop-d.frame
    c.signal.new.frame _ c.from_residual.result _ c.loop-d-test.true c.d-item.is
    (c.loop-d.invariant m qs) c.from_residual.ensures.1
    (λ es.
    here_told (given.C-post g) c.here-here.result c.args.context c.args.spot
    (λ k spot. IsRefusal c.in_err-signal.field-0.0
    (signal_declaration k spot c.args.direction (bare_signal c.d-item.result)
    (state_of c.loop-d.frame c.loop-d.world es))) c.here-here.ensures
    (λ n shaded. c.in_err-signal.ensures n es shaded) m)

pub returns : goal.returns
returns g c = λ m qs.
    turns_end (signal_declaration (context_of c.args.context.now m.call m.make)
    c.args.spot c.args.direction) bare_signal c.args.declared.now c.loop-d.d-index qs
    c.args.world.now
    c.loop-d.world c.loop-d.frame _ c.loop-d-test.false
    (c.loop-d.invariant m qs)
