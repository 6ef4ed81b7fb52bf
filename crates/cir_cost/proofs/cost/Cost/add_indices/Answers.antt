use Rattle.std.proofs.Common.{◌∙◌, subst}
use Rattle.cir_frame.specs.Shown.{state_of}
use Rattle.cir_evaluate.specs.Within.{context_at, where_at}
use Rattle.cir_cost.specs.Adds.{Adds}
use Rattle.cir_cost.proofs.Trees.{written_end, written_other, written_step}
use Rattle.cir_cost.proofs.cost.Cost.add_indices.Goals as goal
use Rattle.cir_cost.proofs.cost.Cost.add_indices.Goals.{in-Index+in_ok-add-in-Index, in-Member}

pub loop-accessor-preserved : goal.loop-accessor-preserved
loop-accessor-preserved g c =
    let loop = c.loop-accessor in
    let list = c.args.accessors.now in
    let f = c.args.frame.now in
    let dark = c.args.here.now.shaded in
    elim c.match-accessor.branch [
      | in-Index+in_ok-add-in-Index w ↦
          rw (w.self-is, w.world-is) record {
            cost = λ m qs new h. loop.invariant.cost m qs new
                (written_step (context_at c.args.here.now m) (where_at c.args.here.now) dark list
                loop.accessor-index c.accessor-item.result w.in-Index.e
                (state_of f c.args.world.now qs) (state_of f loop.world qs) loop.self
                w.add.new.self new c.loop-accessor-test.true c.accessor-item.is w.in-Index.is
                (loop.invariant.same m f qs) (w.in_ok-add-in-Index.ensures.cost m qs) h);
            same = λ m frame qs.
                w.in_ok-add-in-Index.ensures.same m frame qs ∙ loop.invariant.same m frame qs;
            keeps = λ m. w.in_ok-add-in-Index.ensures.keeps m ∙ loop.invariant.keeps m;
          }
      | in-Member w ↦
          rw (w.self-is, w.world-is) record {
            cost = λ m qs new h. loop.invariant.cost m qs new (subst (Adds loop.self new)
                (written_other (context_at c.args.here.now m) (where_at c.args.here.now) dark list
                loop.accessor-index c.accessor-item.result w.in-Member.field-0
                (state_of f c.args.world.now qs) c.loop-accessor-test.true c.accessor-item.is
                w.in-Member.is) h);
            same = λ m frame qs. loop.invariant.same m frame qs;
            keeps = λ m. loop.invariant.keeps m;
          }
    ]

pub returns-clause-cost : goal.returns-clause-cost
returns-clause-cost g c =
    λ m qs. c.loop-accessor.invariant.cost m qs c.loop-accessor.self
    (written_end (context_at c.args.here.now m) (where_at c.args.here.now)
    c.args.here.now.shaded c.args.accessors.now c.loop-accessor.accessor-index
    (state_of c.args.frame.now c.args.world.now qs) c.loop-accessor.self
    c.loop-accessor-test.false)
