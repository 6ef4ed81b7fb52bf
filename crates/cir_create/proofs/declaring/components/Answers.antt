use Rattle.std.proofs.Common.{refl}
use Rattle.cir_ast.specs.Tree.{bare_component}
use Rattle.cir_meaning.specs.Simple.{component_declaration}
use Rattle.cir_evaluate.specs.Within.{context_at, where_at}
use Rattle.cir_assign.proofs.Stepping.{lists_kept}
use Rattle.cir_create.proofs.Turns.{turn_goes, turn_refused, turns_end}
use Rattle.cir_create.proofs.declaring.components.Goals as goal

pub loop-c-init : goal.loop-c-init
loop-c-init g c = λ m qs shaded. (
  qs,
  refl,
  lists_kept qs c.args.world.now c.args.world.now refl,
)

pub loop-c-preserved : goal.loop-c-preserved
loop-c-preserved g c = λ m qs shaded.
    turn_goes (component_declaration (context_at c.args.here.now m)
    (where_at c.args.here.now)) bare_component c.args.cs.now c.loop-c.c-index c.c-item.result qs
    c.args.world.now c.loop-c.world c.component.new.world c.loop-c.frame
    c.component.new.frame _ c.loop-c-test.true c.c-item.is
    (c.loop-c.invariant m qs shaded) (λ es. c.in_ok-component.ensures m es shaded)

pub returns-in_err-component : goal.returns-in_err-component
returns-in_err-component g c = λ m qs shaded.
    turn_refused (component_declaration (context_at c.args.here.now m)
    (where_at c.args.here.now)) bare_component c.args.cs.now c.loop-c.c-index c.c-item.result qs
    c.args.world.now c.loop-c.world c.component.new.world c.loop-c.frame
    c.component.new.frame _ c.from_residual.result _ c.loop-c-test.true c.c-item.is
    (c.loop-c.invariant m qs shaded) c.from_residual.ensures.1
    (λ es. c.in_err-component.ensures m es shaded)

pub returns : goal.returns
returns g c = λ m qs shaded.
    turns_end (component_declaration (context_at c.args.here.now m)
    (where_at c.args.here.now)) bare_component c.args.cs.now c.loop-c.c-index qs c.args.world.now
    c.loop-c.world c.loop-c.frame _ c.loop-c-test.false
    (c.loop-c.invariant m qs shaded)
