use Rattle.std.proofs.Common.{◌++◌, ◌∙◌, [], ◌∷◌, refl}
use Rattle.cir_meaning.specs.Source.{parts_from}
use Rattle.cir_assign.proofs.Recording.{equation_of, recorded, source_push}
use Rattle.cir_assign.proofs.record.recorded.Goals as goal

pub returns-clause-equation : goal.returns-clause-equation
returns-clause-equation c = λ k w x y f qs size parts. (
  qs ++ equation_of x y (parts_from c.args.q.now) ∷ [],
  recorded k w x y f c.args.world.now qs (parts_from c.args.q.now) c.push.new.self
      c.saturating_add-world.result c.saturating_add-world-2.result size parts
      c.saturating_add-world.ensures
      (c.saturating_add-world-2.ensures ∙ rw c.in_ok-terms.ensures refl),
  record {
    listed = λ s. rw c.in_ok-push.ensures.items (source_push _ qs
        c.args.world.now.constraints.items
        (equation_of x y (parts_from c.args.q.now))
        c.in_ok-constraint.constraint s record {
          quad = c.args.q.now;
          numbers = refl;
          rises_a = c.is_formed.ensures.rises;
          rises_b = c.is_formed-2.ensures.rises;
          rises_c = c.is_formed-3.ensures.rises;
          within = (
            c.is_formed.ensures.within,
            c.is_formed-2.ensures.within,
            c.is_formed-3.ensures.within,
          );
          normal = c.in_ok-constraint.ensures.shape;
          rises_left = c.in_order.ensures.0;
          rises_right = c.in_order.ensures.1;
          rises_product = c.in_order.ensures.2;
          within_constraint = c.in_ok-constraint.ensures.within _ (
            c.is_formed.ensures.within,
            c.is_formed-2.ensures.within,
            c.is_formed-3.ensures.within,
          );
        });
  },
)
