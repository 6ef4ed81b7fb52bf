use Rattle.std.proofs.Common.{refl}
use Rattle.cir_ast.specs.Tree.{bare_variable}
use Rattle.cir_meaning.specs.Simple.{variable_declaration}
use Rattle.cir_evaluate.specs.Within.{at_spot}
use Rattle.cir_create.specs.Makes.{context_in}
use Rattle.cir_assign.proofs.Stepping.{lists_kept}
use Rattle.cir_create.proofs.Turns.{turn_goes, turn_refused, turns_end}
use Rattle.cir_create.proofs.declaring.variables.Goals as goal

pub loop-v-init : goal.loop-v-init
loop-v-init g c = λ m qs. (
  qs,
  refl,
  lists_kept qs c.args.world.now c.args.world.now refl,
)

pub loop-v-preserved : goal.loop-v-preserved
loop-v-preserved g c = λ m qs.
    turn_goes (variable_declaration (context_in c.args.body.now m)
    (at_spot c.args.body.now.context.now c.args.spot)) bare_variable c.args.vs.now c.loop-v.v-index
    c.v-item.result qs
    c.args.world.now c.loop-v.world c.variable.new.world c.loop-v.frame
    c.variable.new.frame _ c.loop-v-test.true c.v-item.is
    (c.loop-v.invariant m qs) (λ es. c.in_ok-variable.ensures m es)

pub returns-in_err-variable : goal.returns-in_err-variable
returns-in_err-variable g c = λ m qs.
    turn_refused (variable_declaration (context_in c.args.body.now m)
    (at_spot c.args.body.now.context.now c.args.spot)) bare_variable c.args.vs.now c.loop-v.v-index
    c.v-item.result qs
    c.args.world.now c.loop-v.world c.variable.new.world c.loop-v.frame
    c.variable.new.frame _ c.from_residual.result _ c.loop-v-test.true c.v-item.is
    (c.loop-v.invariant m qs) c.from_residual.ensures.1
    (λ es. c.in_err-variable.ensures m es)

pub returns : goal.returns
returns g c = λ m qs.
    turns_end (variable_declaration (context_in c.args.body.now m)
    (at_spot c.args.body.now.context.now c.args.spot)) bare_variable c.args.vs.now c.loop-v.v-index
    qs c.args.world.now
    c.loop-v.world c.loop-v.frame _ c.loop-v-test.false
    (c.loop-v.invariant m qs)
