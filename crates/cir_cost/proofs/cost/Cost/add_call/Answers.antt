use Rattle.std.proofs.Common.{ap}
use Rattle.cir_cost.proofs.Adding.{adds_call}
use Rattle.cir_cost.proofs.cost.Cost.add_call.Goals as goal

pub returns-in_ok-push-in-Function-clause-cost : goal.returns-in_ok-push-in-Function-clause-cost
returns-in_ok-push-in-Function-clause-cost g c =
    λ m qs. rw c.in-Function.is (adds_call c.args.self.now c.push.new.self _ _
    c.in_ok-push-in-Function.ensures.items
    (ap (λ x. record { function = c.in-Function.function; shapes = x })
    (c.in_ok-shapes-in-Function.ensures.shapes m qs)))
