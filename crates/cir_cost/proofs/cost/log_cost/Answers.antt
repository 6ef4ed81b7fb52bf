use Rattle.std.proofs.Common.{◌∙◌, ap}
use Rattle.std.specs.Prelude.{map}
use Rattle.cir_ast.specs.Tree.{bare_argument}
use Rattle.cir_frame.specs.Shown.{state_of}
use Rattle.cir_meaning.specs.Steps.{argument_cost, arguments_cost}
use Rattle.cir_meaning.specs.Costs as M
use Rattle.cir_evaluate.specs.Within.{context_at, where_at}
use Rattle.cir_cost.proofs.Adding.{cost_both}
use Rattle.cir_cost.proofs.Trees.{argument_step, arguments_end, value_step}
use Rattle.cir_cost.proofs.cost.log_cost.Goals as goal
use Rattle.cir_cost.proofs.cost.log_cost.Goals.{in-Words, in-Value+in_ok-add-in-Value}

pub loop-argument-preserved : goal.loop-argument-preserved
loop-argument-preserved g c =
    let loop = c.loop-argument in
    let list = c.args.arguments.now in
    let f = c.args.frame.now in
    elim c.match-argument.branch [
      | in-Words w ↦
          rw (w.world-is, w.cost-is) record {
            cost = λ m qs new lit h. loop.invariant.cost m qs new lit
                (argument_step (context_at c.args.here.now m) (where_at c.args.here.now) list
                loop.argument-index c.argument-item.result (state_of f c.args.world.now qs)
                loop.cost w.node-in-Words.new.self new (M.node 1) c.loop-argument-test.true
                c.argument-item.is (ap (λ a. argument_cost (context_at c.args.here.now m)
                (where_at c.args.here.now) (bare_argument a) (state_of f c.args.world.now qs))
                w.in-Words.is) w.node-in-Words.ensures h);
            same = λ m frame qs. loop.invariant.same m frame qs;
            keeps = λ m. loop.invariant.keeps m;
          }
      | in-Value+in_ok-add-in-Value w ↦
          rw (w.world-is, w.cost-is) record {
            cost = λ m qs new lit h. loop.invariant.cost m qs new lit
                (value_step (context_at c.args.here.now m) (where_at c.args.here.now)
                c.args.here.now.shaded list loop.argument-index c.argument-item.result
                w.in-Value.e (state_of f c.args.world.now qs) (state_of f loop.world qs)
                loop.cost w.add.new.self new c.loop-argument-test.true c.argument-item.is
                w.in-Value.is lit (loop.invariant.same m f qs)
                (w.in_ok-add-in-Value.ensures.cost m qs) h);
            same = λ m frame qs.
                w.in_ok-add-in-Value.ensures.same m frame qs ∙ loop.invariant.same m frame qs;
            keeps = λ m. w.in_ok-add-in-Value.ensures.keeps m ∙ loop.invariant.keeps m;
          }
    ]

pub returns-clause-cost : goal.returns-clause-cost
returns-clause-cost g c =
    λ m qs lit.
    let s = state_of c.args.frame.now c.args.world.now qs in
    let k = context_at c.args.here.now m in
    let w = where_at c.args.here.now in
    let all = arguments_cost k w (map bare_argument c.args.arguments.now) s in
    cost_both c.node.new.self c.loop-argument.cost (M.node 1) all
    (cost_both c.new-cost.result c.node.new.self (M.node 0) (M.node 1) c.new-cost.ensures
    c.node.ensures)
    (c.loop-argument.invariant.cost m qs c.loop-argument.cost lit
    (arguments_end k w c.args.arguments.now c.loop-argument.argument-index s
    c.loop-argument.cost c.loop-argument-test.false))
