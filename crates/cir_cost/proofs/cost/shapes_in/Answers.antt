use Rattle.std.proofs.Common.{◌∙◌}
use Rattle.cir_frame.specs.Shown.{state_of}
use Rattle.cir_evaluate.specs.Within.{context_at, where_at}
use Rattle.cir_cost.proofs.Trees.{shapes_step}
use Rattle.cir_cost.proofs.cost.shapes_in.Goals as goal

pub returns-in_err-shape-clause-keeps : goal.returns-in_err-shape-clause-keeps
returns-in_err-shape-clause-keeps g c =
    λ m. c.in_err-shape.ensures.keeps m ∙ c.loop-e.invariant.keeps m

pub loop-e-preserved : goal.loop-e-preserved
loop-e-preserved g c =
    let loop = c.loop-e in
    let f = c.args.frame.now in
    record {
      shapes = λ m qs. shapes_step (context_at c.args.here.now m) (where_at c.args.here.now)
          c.args.here.now.shaded c.args.es.now loop.e-index c.e-item.result loop.shapes.items
          c.push.new.self.items c.in_ok-shape.shape (state_of f c.args.world.now qs)
          (state_of f loop.world qs) _ c.loop-e-test.true c.e-item.is
          (loop.invariant.same m f qs) c.in_ok-push.ensures.items
          (c.in_ok-shape.ensures.shape m qs) (loop.invariant.shapes m qs);
      same = λ m frame qs.
          c.in_ok-shape.ensures.same m frame qs ∙ loop.invariant.same m frame qs;
      keeps = λ m. c.in_ok-shape.ensures.keeps m ∙ loop.invariant.keeps m;
    }
