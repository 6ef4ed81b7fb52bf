use Rattle.cir_frame.specs.Shown.{state_of}
use Rattle.cir_evaluate.specs.Within.{context_at, where_at}
use Rattle.cir_execute.proofs.Standing.{unchanged, unchanged_next, variables_end, variables_more}
use Rattle.cir_execute.proofs.inside.add_variables.Goals as goal

pub loop-variable-init : goal.loop-variable-init
loop-variable-init g c =
    record { cost = λ m qs new dark h. h; same = λ m. unchanged c.args.world.now }

pub loop-variable-preserved : goal.loop-variable-preserved
loop-variable-preserved g c =
    let h = c.args.dark.now in
    let f = c.args.frame.now in
    let loop = c.loop-variable in
    let added = c.in_ok-add_variable.ensures in record {
      cost = λ m qs new dark rest. loop.invariant.cost m qs new dark
          (variables_more (context_at h m) (where_at h) (state_of f c.args.world.now qs) loop.cost
          c.add_variable.new.cost new c.args.variables.now loop.variable-index
          c.variable-item.result (state_of f loop.world qs) c.loop-variable-test.true
          c.variable-item.is ((loop.invariant.same m).states f qs) (added.cost m qs dark) rest);
      same = λ m. unchanged_next _ _ _ (loop.invariant.same m) (added.same m);
    }

pub returns-clause-cost : goal.returns-clause-cost
returns-clause-cost g c =
    let h = c.args.dark.now in
    let loop = c.loop-variable in
    λ m qs dark. loop.invariant.cost m qs loop.cost dark
    (variables_end (context_at h m) (where_at h) (state_of c.args.frame.now c.args.world.now qs)
    loop.cost c.args.variables.now loop.variable-index c.loop-variable-test.false)
